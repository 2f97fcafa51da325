use Rattle.std.proofs.Common.{◌≡◌, ◌++◌, [], List, None, map, refl, sym, ap, ◌∙◌, append_assoc, append-nil}
use Rattle.opgp_frame.specs.declared.packet.Placed.{Placed}
use Rattle.opgp_keyring.specs.Composition.{of_packet}
use Rattle.opgp_codec.specs.PacketReader.{packets_in}
use Rattle.opgp_codec.proofs.SoundSoFar.{passed_more, so_far_kept}
use Rattle.opgp_codec.proofs.packet_reader.keep.Goals as goal

pub returns-in_ok-add-clause-kept : goal.returns-in_ok-add-clause-kept
returns-in_ok-add-clause-kept c packets taken list found h =
    let m = c.args.malformed in
    let old = packets_in c.args.waiting.now in
    let new : packets_in c.add.new.waiting ≡ old ++ packets = c.in_ok-add.ensures ∙ ap (λ (l : List Placed). old ++ l) (c.in_ok-own.ensures.value packets found) in
    let had : List Placed = taken ++ old in
    let more = rw c.if-passes.true at (passed_more m had c.args.fault.now c.passes.new.fault c.passes.result list (map of_packet packets) None _ packets (c.packet.ensures packets found) refl c.passes.ensures.so_far h) in
    so_far_kept m (λ ps. ps ≡ had ++ packets) (λ ps. ps ≡ taken ++ packets_in c.add.new.waiting) c.passes.new.fault _ (λ ps e. e ∙ append_assoc taken old packets ∙ ap (λ (l : List Placed). taken ++ l) (sym new)) more

pub returns-else-passes-clause-kept : goal.returns-else-passes-clause-kept
returns-else-passes-clause-kept c packets taken list found h =
    let m = c.args.malformed in
    let had : List Placed = taken ++ packets_in c.args.waiting.now in
    let more = rw c.if-passes.false at (passed_more m had c.args.fault.now c.passes.new.fault c.passes.result list (map of_packet packets) None _ packets (c.packet.ensures packets found) refl c.passes.ensures.so_far h) in
    so_far_kept m (λ ps. ps ≡ had ++ []) (λ ps. ps ≡ had) c.passes.new.fault _ (λ ps e. e ∙ append-nil had) more
