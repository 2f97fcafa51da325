use Rattle.opgp_state.proofs.Placements.{all_places}
use Rattle.opgp_state.proofs.placing.Placing.places.Goals as goal

pub returns : goal.returns
returns c r so = all_places c.args.self r so
