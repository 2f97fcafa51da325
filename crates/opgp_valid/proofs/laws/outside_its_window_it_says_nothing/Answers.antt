use Rattle.opgp_valid.proofs.Windows.{silent_outside}
use Rattle.opgp_valid.proofs.laws.outside_its_window_it_says_nothing.Goals as goal

pub returns : goal.returns
returns c = silent_outside
