use Rattle.std.proofs.Common.{◌∙◌, ℕ, drop, sym, ap}
use Rattle.opgp_armor.specs.Text.{offset}
use Rattle.opgp_cleartext.proofs.Whole.{message_read, ok_same}
use Rattle.opgp_cleartext.proofs.laws.one_message.Goals as goal

pub returns : goal.returns
returns c = λ most text d e r s h k.
    let both = sym (message_read most text d r h) ∙ message_read most text e s k in
    let same = ok_same d e (offset h.front) (offset k.front) both in
    (same.0, h.rest_is ∙ ap (λ (n : ℕ). drop n text) same.1 ∙ sym k.rest_is)
