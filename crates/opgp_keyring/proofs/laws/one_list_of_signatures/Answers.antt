use Rattle.std.proofs.Common.{sym, ◌∙◌}
use Rattle.opgp_keyring.proofs.laws.one_list_of_signatures.Goals as goal

pub returns : goal.returns
returns c policy items ps qs k l = k.flat ∙ sym l.flat
