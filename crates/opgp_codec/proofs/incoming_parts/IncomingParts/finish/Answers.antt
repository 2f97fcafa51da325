use Rattle.std.proofs.Common.{◌++◌, Ok, Err, append-nil, subst}
use Rattle.opgp_keyring.specs.Fed.{Fed}
use Rattle.opgp_codec.specs.Found.{opened}
use Rattle.opgp_codec.specs.Keyrings.{ComposesTo, key_label}
use Rattle.opgp_codec.specs.declared.accepts.Accepts.TheVariants.{Keys}
use Rattle.opgp_codec.proofs.Coming.{of_input}
use Rattle.opgp_codec.proofs.Concluding.{answer_fault}
use Rattle.opgp_codec.proofs.Parting.{ends_of}
use Rattle.opgp_codec.proofs.incoming_parts.IncomingParts.finish.Goals as goal

pub returns-in-Ok : goal.returns-in-Ok
returns-in-Ok c mode limits before now parts p over =
    let x = c.open_block.new.composer in
    let told = subst (Fed limits x (p.items ++ opened c.in-Ok-Ok.opening)) (append-nil parts) (c.open_block.ensures.fed limits p.items parts p.composed) in
    let ended = rw c.in-Ok-Ok.field-0-is at (c.in-Ok-Ok.ensures Keys mode limits before now p.items p.came over.1) in
    of_input before now limits _ _ (λ octets h. ends_of (record { mode = mode; limits = limits; input = octets; taken = parts }) c.in-Ok-Ok.opening x (Ok c.in-Ok.last) p.items c.a_block_has_no_more_octets_than_the_text.ensures h
    (c.in-Ok.ensures.ok limits (p.items ++ opened c.in-Ok-Ok.opening) parts told)) ended

pub returns-in-Err-finish : goal.returns-in-Err-finish
returns-in-Err-finish c mode limits before now parts p over =
    let x = c.open_block.new.composer in
    let told = subst (Fed limits x (p.items ++ opened c.in-Ok-Ok.opening)) (append-nil parts) (c.open_block.ensures.fed limits p.items parts p.composed) in
    let ended = rw c.in-Ok-Ok.field-0-is at (c.in-Ok-Ok.ensures Keys mode limits before now p.items p.came over.1) in
    of_input before now limits _ _ (λ octets h. ends_of (record { mode = mode; limits = limits; input = octets; taken = parts }) c.in-Ok-Ok.opening x (Err c.in-Err-finish.fault) p.items c.a_block_has_no_more_octets_than_the_text.ensures h
    (c.in-Err-finish.ensures.ok limits (p.items ++ opened c.in-Ok-Ok.opening) parts told)) ended

pub returns-in-Ok-Err : goal.returns-in-Ok-Err
returns-in-Ok-Err c mode limits before now parts p over =
    let ended = rw c.in-Ok-Err.field-0-is at (c.in-Ok-Err.ensures Keys mode limits before now p.items p.came over.1) in
    of_input before now limits _ _ (λ octets h. answer_fault key_label (ComposesTo limits) mode limits octets p.items c.in-Ok-Err.fault h) ended
