use Rattle.opgp_cleartext.proofs.Behind.{behind}
use Rattle.opgp_cleartext.proofs.laws.nothing_outside.Goals as goal

pub returns : goal.returns
returns c = λ most text d r h.
    let b = behind most text d r h in
    (b.front, b.signature, b.more, b.is_text, b.all, b.rest, b.is_signature)
