use Rattle.std.proofs.Common.{sym, ◌∙◌}
use Rattle.opgp_keyring.proofs.laws.one_signed_literal.Goals as goal

pub returns : goal.returns
returns c policy items ps qs k l = k.flat ∙ sym l.flat
