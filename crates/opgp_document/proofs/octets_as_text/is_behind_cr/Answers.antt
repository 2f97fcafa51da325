use Rattle.std.proofs.Common.{◌≡◌, ◌+◌, ◌-◌, ◌==◌, ℕ, take, get_or, sym, subst, arith}
use Rattle.opgp_document.specs.Text.{ends_cr}
use Rattle.opgp_document.proofs.Feeding.{next_ends}
use Rattle.opgp_document.proofs.octets_as_text.is_behind_cr.Goals as goal

pub returns-else-place-eq0 : goal.returns-else-place-eq0
returns-else-place-eq0 c =
    let p : ℕ = c.args.place in
    let o = c.args.octets.now in
    let e : (p - 1) + 1 ≡ p = omega (arith, c.if-place-eq0.false) in
    sym (subst (λ (n : ℕ). ends_cr c.args.after_cr (take n o) ≡ (get_or o (p - 1) 0 == 13)) e (next_ends c.args.after_cr o (p - 1) (omega (arith, c.if-place-eq0.false))))
