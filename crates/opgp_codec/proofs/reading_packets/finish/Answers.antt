use Rattle.std.proofs.Common.{List, All, Ok, Err, ◌∙◌, sym, ap, subst}
use Rattle.opgp_octets.specs.Limits.{malformed_of}
use Rattle.opgp_octets.specs.declared.malformed.Malformed.{Malformed}
use Rattle.opgp_frame.specs.declared.packet.Placed.{Placed}
use Rattle.opgp_keyring.specs.Bodies.{IsSound, IsFirstBodyFault}
use Rattle.opgp_keyring.specs.Block.{placed_of}
use Rattle.opgp_keyring.specs.Composition.{placed_in}
use Rattle.opgp_codec.specs.Packets.{ArePackets, any_label, block_values}
use Rattle.opgp_codec.specs.declared.accepts.Accepts.TheVariants.{Any}
use Rattle.opgp_codec.proofs.Coming.{of_input}
use Rattle.opgp_codec.proofs.Concluding.{answer_fault, answer_top}
use Rattle.opgp_codec.proofs.Labels.{items_values, placed_items}
use Rattle.opgp_codec.proofs.reading_packets.finish.Goals as goal

pub returns-in-None : goal.returns-in-None
returns-in-None c mode limits before now items came over policy has =
    let blocks = c.open_block.new.blocks in
    let bs = blocks.items in
    let told = c.in_ok-open_block-in-Ok.ensures items has in
    let ended = rw c.in-Ok.is at (c.in_ok-opening.ensures Any mode limits before now items came over) in
    let sound = subst (λ (m : Malformed). All (IsSound m) (placed_of bs)) policy (rw c.deref.ensures.value at c.in-None.ensures) in
    of_input before now limits _ _ (λ octets h. answer_top any_label (ArePackets limits) mode limits octets items c.in-Ok.opening (Ok (block_values blocks)) c.a_block_has_no_more_octets_than_the_text.ensures
    (λ read. (items_values bs ∙ told ∙ read.labelled, subst (All (IsSound (malformed_of limits))) (sym (placed_items bs) ∙ ap placed_in (told ∙ read.labelled)) sound)) h) ended

pub returns-in-Some : goal.returns-in-Some
returns-in-Some c mode limits before now items came over policy has =
    let bs = c.open_block.new.blocks.items in
    let told = c.in_ok-open_block-in-Ok.ensures items has in
    let ended = rw c.in-Ok.is at (c.in_ok-opening.ensures Any mode limits before now items came over) in
    let here = subst (λ (m : Malformed). IsFirstBodyFault m (placed_of bs) c.in-Some.fault) policy (rw c.deref.ensures.value at c.in-Some.ensures) in
    of_input before now limits _ _ (λ octets h. answer_top any_label (ArePackets limits) mode limits octets items c.in-Ok.opening (Err c.in-Some.fault) c.a_block_has_no_more_octets_than_the_text.ensures
    (λ read. subst (λ (ps : List Placed). IsFirstBodyFault (malformed_of limits) ps c.in-Some.fault) (sym (placed_items bs) ∙ ap placed_in (told ∙ read.labelled)) here) h) ended

pub returns-in-Err : goal.returns-in-Err
returns-in-Err c mode limits before now items came over policy has =
    let ended = rw c.in-Err.is at (c.in_ok-opening.ensures Any mode limits before now items came over) in
    of_input before now limits _ _ (λ octets h. answer_fault any_label (ArePackets limits) mode limits octets items c.in-Err.fault h) ended
