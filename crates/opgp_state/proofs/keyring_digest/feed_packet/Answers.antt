use Rattle.std.proofs.Common.{◌∙◌, ◌++◌, List, ℕ, ap, append_assoc, sym}
use Rattle.opgp_frame.specs.Spelling.{octets_left}
use Rattle.opgp_state.proofs.Fed.{fed_both, fed_more}
use Rattle.opgp_state.proofs.keyring_digest.feed_packet.Goals as goal

-- a header and its piece more
pub parts-preserved : goal.parts-preserved
parts-preserved g c =
    let header : List ℕ = c.as_slice.result.now in
    let piece : List ℕ = c.in-Some.piece.now in
    let rest : List ℕ = octets_left c.next.new.self in
    fed_more g.D.Digest.holds c.args.hasher.now c.parts.hasher c.update-in-Some.new.self (octets_left c.parts.spelling) (header ++ piece) rest (octets_left c.new-spelling.result) c.parts.invariant
    (c.in-Some.ensures.next ∙ ap (λ (l : List ℕ). l ++ (piece ++ rest)) (sym c.as_slice.ensures.value) ∙ sym (append_assoc header piece rest))
    (fed_both g.D.Digest.holds c.parts.hasher c.update.new.self c.update-in-Some.new.self header piece c.update.ensures c.update-in-Some.ensures)
