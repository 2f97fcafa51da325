use Rattle.std.proofs.Common.{◌∙◌, sym, arith}
use Rattle.opgp_cleartext.proofs.Blanks.{blanks_shorter, blanks_done, blanks_none}
use Rattle.opgp_cleartext.proofs.line.cut_blanks.Goals as goal
use Rattle.opgp_cleartext.proofs.line.cut_blanks.Goals.{then-strip-test+else-is_blank_octet, else-strip-test}

pub strip-preserved : goal.strip-preserved
strip-preserved c =
    let v = c.strip.invariant in
    (omega arith, blanks_shorter c.args.line.now c.strip.end (omega arith) v.0 (sym c.is_blank_octet.ensures ∙ c.if-is_blank_octet.true) ∙ v.1)

pub returns : goal.returns
returns c =
    let v = c.strip.invariant in
    elim c.strip-test.branch [
      | then-strip-test+else-is_blank_octet w ↦
          sym (blanks_done c.args.line.now c.strip.end (omega arith) v.0 (sym w.is_blank_octet.ensures ∙ w.if-is_blank_octet.false)) ∙ v.1
      | else-strip-test w ↦ sym (blanks_none c.args.line.now c.strip.end (omega arith)) ∙ v.1
    ]
