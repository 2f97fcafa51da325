use Rattle.std.proofs.Common.{◌≡◌, ◌++◌, length, map}
use Rattle.opgp_packet.specs.SigView.{sig_view_value}
use Rattle.opgp_valid.specs.Believed.{belief_of}
use Rattle.opgp_valid.specs.Reached.{IsReached}
use Rattle.opgp_valid.specs.declared.believing.Belief.{Belief}
use Rattle.opgp_valid.specs.declared.judgement.KeyPlace.{KeyPlace}
use Rattle.opgp_valid.proofs.believing.believe_at.Given as goal

-- those of the places so far are found
abbrev pub invariant-places : goal.invariant-places
invariant-places l =
    let of : KeyPlace → Belief = λ at. belief_of l.fn.keyring l.fn.policy l.fn.verdicts at l.fn.now (sig_view_value l.fn.signature) in
    record {
      reached : IsReached l.fn.keyring.certificates l.fn.verdicts l.reached;
      found : l.beliefs.items ++ map of l.rest ≡ map of l.fn.places;
    }

abbrev pub decreases-places : goal.decreases-places
decreases-places l = length l.rest
