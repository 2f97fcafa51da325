use Rattle.opgp_armor.proofs.Showing.{one_list_of_events}
use Rattle.opgp_armor.proofs.laws.one_list_of_events.Goals as goal

pub returns : goal.returns
returns c = one_list_of_events
