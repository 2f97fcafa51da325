use Rattle.std.proofs.Common.{map, Ok, Err}
use Rattle.opgp_state.specs.Places.{placed}
use Rattle.opgp_state.proofs.Placements.{one_added}
use Rattle.opgp_state.proofs.place_maker.PlaceMakerVisitor.meet.Goals as goal

pub returns-clause-shown : goal.returns-clause-shown
returns-clause-shown c body met more (Ok b) = λ h d heads.
    one_added c.args.self.now.places.items c.push.new.self.items b.places.items (map (λ s. placed c.args.self.now.first d s.place) more) c.in_ok-place.place _ c.in_ok-push.ensures.items (c.in_ok-place.ensures d heads) (h d heads)
returns-clause-shown c body met more (Err refusal) = λ h. tt
