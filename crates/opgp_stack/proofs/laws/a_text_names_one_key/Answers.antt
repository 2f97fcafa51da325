use Rattle.opgp_stack.proofs.KeyTexts.{one_name}
use Rattle.opgp_stack.proofs.laws.a_text_names_one_key.Goals as goal

pub returns : goal.returns
returns c = one_name
