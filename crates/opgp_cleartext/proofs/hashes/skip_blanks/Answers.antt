use Rattle.std.proofs.Common.{◌∙◌, sym, ap, arith}
use Rattle.std.proofs.lemmas.List.{take_rest}
use Rattle.opgp_cleartext.specs.Hashes.{behind_blanks}
use Rattle.opgp_cleartext.proofs.Cutting.{blank_skipped, blanks_behind, blanks_ended}
use Rattle.opgp_cleartext.proofs.hashes.skip_blanks.Goals as goal

pub returns-then-not-is_blank_octet : goal.returns-then-not-is_blank_octet
returns-then-not-is_blank_octet c =
    let o = c.blanks.rest.now in
    blanks_behind o (omega (arith, c.in-len1-up.len_at_least)) (sym c.is_blank_octet.ensures ∙ c.if-not-is_blank_octet.true) ∙ c.blanks.invariant

pub blanks-preserved : goal.blanks-preserved
blanks-preserved c =
    let o = c.blanks.rest.now in
    ap behind_blanks (take_rest o 1) ∙ blank_skipped o (omega (arith, c.in-len1-up.len_at_least)) (sym c.is_blank_octet.ensures ∙ c.if-not-is_blank_octet.false) ∙ c.blanks.invariant

pub returns : goal.returns
returns c = blanks_ended c.blanks.rest.now (omega (arith, c.in_default.len_below)) ∙ c.blanks.invariant
