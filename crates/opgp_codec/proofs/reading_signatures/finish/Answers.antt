use Rattle.std.proofs.Common.{◌++◌, Ok, Err}
use Rattle.opgp_octets.specs.Limits.{malformed_of}
use Rattle.opgp_keyring.specs.DetachedSignatures.{detached_packets}
use Rattle.opgp_codec.specs.Found.{opened}
use Rattle.opgp_codec.specs.Signatures.{AreDetachedSignatures, signature_label}
use Rattle.opgp_codec.specs.declared.accepts.Accepts.TheVariants.{Signatures}
use Rattle.opgp_codec.proofs.Coming.{of_input}
use Rattle.opgp_codec.proofs.Concluding.{answer_fault, answer_top}
use Rattle.opgp_codec.proofs.Ends.{detached_is}
use Rattle.opgp_codec.proofs.reading_signatures.finish.Goals as goal

pub returns-in-Ok-finish : goal.returns-in-Ok-finish
returns-in-Ok-finish c mode limits before now items came over has =
    let all = items ++ opened c.in-Ok.opening in
    let told = c.open_block.ensures (malformed_of limits) items has in
    let ended = rw c.in-Ok.is at (c.in_ok-opening.ensures Signatures mode limits before now items came over) in
    of_input before now limits _ _ (λ octets h. answer_top signature_label (AreDetachedSignatures limits) mode limits octets items c.in-Ok.opening (Ok (detached_packets c.in-Ok-finish.signatures)) c.a_block_has_no_more_octets_than_the_text.ensures
    (λ read. detached_is limits all (Ok c.in-Ok-finish.signatures) read.ends (c.in-Ok-finish.ensures (malformed_of limits) all told)) h) ended

pub returns-in-Err-finish : goal.returns-in-Err-finish
returns-in-Err-finish c mode limits before now items came over has =
    let all = items ++ opened c.in-Ok.opening in
    let told = c.open_block.ensures (malformed_of limits) items has in
    let ended = rw c.in-Ok.is at (c.in_ok-opening.ensures Signatures mode limits before now items came over) in
    of_input before now limits _ _ (λ octets h. answer_top signature_label (AreDetachedSignatures limits) mode limits octets items c.in-Ok.opening (Err c.in-Err-finish.fault) c.a_block_has_no_more_octets_than_the_text.ensures
    (λ read. detached_is limits all (Err c.in-Err-finish.fault) read.ends (c.in-Err-finish.ensures (malformed_of limits) all told)) h) ended

pub returns-in-Err : goal.returns-in-Err
returns-in-Err c mode limits before now items came over has =
    let ended = rw c.in-Err.is at (c.in_ok-opening.ensures Signatures mode limits before now items came over) in
    of_input before now limits _ _ (λ octets h. answer_fault signature_label (AreDetachedSignatures limits) mode limits octets items c.in-Err.fault h) ended
