use Rattle.std.proofs.Common.{◌∙◌, sym, arith}
use Rattle.opgp_armor.proofs.Contents.{content_shorter, content_done, content_none}
use Rattle.opgp_cleartext.proofs.line.content_of.Goals as goal
use Rattle.opgp_cleartext.proofs.line.content_of.Goals.{then-strip-test+else-is_trailing_octet, else-strip-test}

pub strip-preserved : goal.strip-preserved
strip-preserved c =
    let v = c.strip.invariant in
    (omega arith, content_shorter c.args.line.now c.strip.end (omega arith) v.0 (sym c.is_trailing_octet.ensures ∙ c.if-is_trailing_octet.true) ∙ v.1)

pub returns : goal.returns
returns c =
    let v = c.strip.invariant in
    elim c.strip-test.branch [
      | then-strip-test+else-is_trailing_octet w ↦
          sym (content_done c.args.line.now c.strip.end (omega arith) v.0 (sym w.is_trailing_octet.ensures ∙ w.if-is_trailing_octet.false)) ∙ v.1
      | else-strip-test w ↦ sym (content_none c.args.line.now c.strip.end (omega arith)) ∙ v.1
    ]
