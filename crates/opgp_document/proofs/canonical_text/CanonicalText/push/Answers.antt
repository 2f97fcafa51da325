use Rattle.std.proofs.Common.{◌≡◌, ◌++◌, Bool, false, List, ℕ, ap, ◌∙◌}
use Rattle.opgp_document.specs.Text.{ends_cr, to_text}
use Rattle.opgp_document.proofs.Reading.{after_so}
use Rattle.opgp_document.proofs.canonical_text.CanonicalText.push.Goals as goal

pub returns-clause-read : goal.returns-clause-read
returns-clause-read c = λ d read. c.pass.ensures d read (c.in_default.ensures.none d read)

pub returns-clause-text : goal.returns-clause-text
returns-clause-text c = λ d read.
    let o : List ℕ = c.args.piece.now in
    let after : c.is_some-after_cr.result ≡ ends_cr false d = after_so c.args.self.now.last_return d c.is_some-after_cr.result c.is_some-after_cr.ensures read.last_return in
    c.put_text.ensures
    ∙ ap (λ (x : List ℕ). x ++ to_text c.is_some-after_cr.result o) c.reserve.ensures.items
    ∙ ap (λ (b : Bool). c.args.text.now.items ++ to_text b o) after
