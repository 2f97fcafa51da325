use Rattle.opgp_state.proofs.Reordered.{same_primary, same_subkey}
use Rattle.opgp_state.proofs.laws.order_of_components_changes_nothing.Goals as goal

pub returns-clause-primary : goal.returns-clause-primary
returns-clause-primary c = same_primary

pub returns-clause-subkey : goal.returns-clause-subkey
returns-clause-subkey c = same_subkey
