use Rattle.std.proofs.Common.{refl, length, slice_index, ◌-◌, arith}
use Rattle.std.proofs.lemmas.Bool.{eq-eqb, ne_eqb}
use Rattle.opgp_cleartext.proofs.Cutting.{with_last, without_last, without_none}
use Rattle.opgp_cleartext.proofs.line.cut_return.Goals as goal
use Rattle.opgp_cleartext.proofs.line.cut_return.Goals.{else-size-gt0-via-then-size-gt0+else-line-size-eq13, else-size-gt0-via-else-size-gt0}

pub returns-then-line-size-eq13 : goal.returns-then-line-size-eq13
returns-then-line-size-eq13 c =
    let l = c.args.line.now in
    without_last l (length l) refl (omega arith) (eq-eqb (slice_index l (length l - 1)) 13 c.if-line-size-eq13.true)

pub returns-else-size-gt0 : goal.returns-else-size-gt0
returns-else-size-gt0 c =
    let l = c.args.line.now in
    elim c.else-size-gt0.branch [
      | else-size-gt0-via-then-size-gt0+else-line-size-eq13 w ↦
          with_last l (length l) refl (omega (arith, w.if-size-gt0.true)) (ne_eqb (slice_index l (length l - 1)) 13 w.if-line-size-eq13.false)
      | else-size-gt0-via-else-size-gt0 w ↦ without_none l (omega (arith, w.if-size-gt0.false))
    ]
