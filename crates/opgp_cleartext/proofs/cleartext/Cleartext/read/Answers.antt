use Rattle.std.proofs.Common.{◌∙◌, ◌-◌, ℕ, List, take, drop, map, sym, subst, refl}
use Rattle.std.proofs.lemmas.List.{take_rest}
use Rattle.std.proofs.lemmas.Result.{err_from_is_err_and}
use Rattle.opgp_armor.specs.Text.{lines}
use Rattle.opgp_cleartext.specs.Cleartext.{HasCleartext}
use Rattle.opgp_cleartext.specs.Line.{shown_of}
use Rattle.opgp_cleartext.proofs.Whole.{fault_told, read_message}
use Rattle.opgp_cleartext.proofs.cleartext.Cleartext.read.Goals as goal

pub returns-in_err-headers-clause-err : goal.returns-in_err-headers-clause-err
returns-in_err-headers-clause-err c =
    let p = err_from_is_err_and c.from_residual.result c.from_residual.ensures.1 in
    rw (p.1, p.2) (fault_told c.args.line c.args.text.now _ _ refl c.in_err-headers.ensures.err)

pub returns-in_err-start-clause-err : goal.returns-in_err-start-clause-err
returns-in_err-start-clause-err c =
    let p = err_from_is_err_and c.from_residual-in_err-start.result c.from_residual-in_err-start.ensures.1 in
    rw (p.1, p.2) (fault_told c.args.line c.args.text.now _ _ c.in_ok-headers.ensures.ok c.in_err-start.ensures.err)

pub returns-in_err-place-clause-err : goal.returns-in_err-place-clause-err
returns-in_err-place-clause-err c =
    let p = err_from_is_err_and c.from_residual-in_err-place.result c.from_residual-in_err-place.ensures.1 in
    rw (p.1, p.2) (fault_told c.args.line c.args.text.now _ _ (c.in_ok-headers.ensures.ok ∙ c.in_ok-start.ensures.ok) c.in_err-place.ensures.err)

pub returns-clause-ok : goal.returns-clause-ok
returns-clause-ok c =
    let t : List ℕ = c.args.text.now in
    let p : ℕ = c.in_ok-place.place in
    let s : ℕ = c.in_ok-start.start in
    let d : List (List ℕ) = map shown_of (lines (take (p - s) (drop s t))) in
    subst (HasCleartext c.args.line t d) (sym (take_rest t p))
    (read_message c.args.line t d p (c.in_ok-headers.ensures.ok ∙ c.in_ok-start.ensures.ok ∙ c.in_ok-place.ensures.ok))
