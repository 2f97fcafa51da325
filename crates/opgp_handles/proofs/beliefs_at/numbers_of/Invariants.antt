use Rattle.std.proofs.Common.{length, map, Option, ℕ}
use Rattle.opgp_packet.specs.SigView.{sig_view_value}
use Rattle.opgp_valid.specs.declared.believing.Belief.{Belief}
use Rattle.opgp_handles.specs.Standings.{belief_number, number_over}
use Rattle.opgp_handles.proofs.BeliefsAt.{SomeSoFar}
use Rattle.opgp_handles.proofs.beliefs_at.numbers_of.Given as goal

-- those so far have numbers
abbrev pub invariant-beliefs : goal.invariant-beliefs
invariant-beliefs l =
    let of : Belief → Option ℕ = λ b. number_over l.fn.is_message (sig_view_value l.fn.signature) (belief_number b) in
    SomeSoFar l.numbers.items (map of l.rest) (map of l.fn.beliefs)

abbrev pub decreases-beliefs : goal.decreases-beliefs
decreases-beliefs l = length l.rest
