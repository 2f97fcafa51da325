use Rattle.std.proofs.Common.{◌≡◌, ◌+◌, ◌-◌, Bool, true, false, List, ℕ, length, sym, ap, ◌∙◌}
use Rattle.opgp_document.specs.Text.{before_stray, ends_cr, has_stray}
use Rattle.opgp_document.proofs.Reading.{after_so}
use Rattle.opgp_document.proofs.Stray.{at_front, in_piece}
use Rattle.opgp_document.proofs.canonical_text.CanonicalText.stray_in.Goals as goal

pub returns-clause-some : goal.returns-clause-some
returns-clause-some c = λ d more read.
    let o : List ℕ = c.args.piece.now in
    let n : ℕ = c.in_ok-count.count in
    let after : c.is_some.result ≡ ends_cr false d = after_so c.args.self.now.last_return d c.is_some.result c.is_some.ensures read.last_return in
    let stray : has_stray (ends_cr false d) o ≡ true = ap (λ (b : Bool). has_stray b o) (sym after) ∙ c.in_ok-count.ensures.0 in
    let count : n ≡ before_stray (ends_cr false d) o = c.in_ok-count.ensures.1 ∙ ap (λ (b : Bool). before_stray b o) after in
    record {
      place = length d + n - 1;
      is_stray = in_piece d o more n read.clean stray count;
      told = c.place_before.ensures d read (λ z. at_front (ends_cr false d) o n stray count z);
    }
