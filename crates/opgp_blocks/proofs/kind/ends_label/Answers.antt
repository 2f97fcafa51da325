use Rattle.std.proofs.Common.{◌∙◌, sym, ap, arith}
use Rattle.std.proofs.lemmas.List.{take_rest}
use Rattle.std.specs.Str.{bytes_eq}
use Rattle.opgp_blocks.specs.Line.{ends_label}
use Rattle.opgp_blocks.proofs.Contents.{label_more, label_done, label_none}
use Rattle.opgp_blocks.proofs.kind.ends_label.Goals as goal

pub returns-then-not-is_label_octet : goal.returns-then-not-is_label_octet
returns-then-not-is_label_octet c =
    let o = c.label.rest.now in
    c.eq.ensures ∙ ap (bytes_eq o) c.as_slice.ensures ∙ label_done o (omega (arith, c.in-len1-up.len_at_least)) (sym c.is_label_octet.ensures ∙ c.if-not-is_label_octet.true) ∙ c.label.invariant

pub label-preserved : goal.label-preserved
label-preserved c =
    let o = c.label.rest.now in
    ap ends_label (take_rest o 1) ∙ label_more o (omega (arith, c.in-len1-up.len_at_least)) (sym c.is_label_octet.ensures ∙ c.if-not-is_label_octet.false) ∙ c.label.invariant

pub returns : goal.returns
returns c = label_none c.label.rest.now (omega (arith, c.in_default.len_below)) ∙ c.label.invariant
