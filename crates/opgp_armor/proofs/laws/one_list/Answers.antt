use Rattle.opgp_armor.proofs.Answer.{one_list}
use Rattle.opgp_armor.proofs.laws.one_list.Goals as goal

pub returns : goal.returns
returns c = one_list
