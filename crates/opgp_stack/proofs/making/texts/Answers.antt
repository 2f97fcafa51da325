use Rattle.std.proofs.Common.{refl}
use Rattle.opgp_stack.proofs.making.texts.Goals as goal

pub returns : goal.returns
returns g c = (c.in_ok-text.text, refl, (c.in_ok-text.ensures.text, c.in_ok-text.ensures.empty))
