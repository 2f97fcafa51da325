use Rattle.std.proofs.Common.{◌≡◌, ◌∙◌, ap, sym, length, List, map, refl}
use Rattle.std.proofs.lemmas.List.{length-map}
use Rattle.opgp_report.specs.Left.{says_left}
use Rattle.opgp_report.specs.Report.{report_of}
use Rattle.opgp_report.specs.Row.{row_value}
use Rattle.opgp_report.specs.RowValue.{RowValue}
use Rattle.opgp_state.proofs.Heads.{no_head, read_behind}
use Rattle.opgp_state.proofs.verdict_file.read_verdicts.Goals as goal

pub returns-in-Some : goal.returns-in-Some
returns-in-Some c =
    let same : map row_value c.rows-rows.result.now ≡ report_of says_left c.args.keyring.now = c.rows-rows.ensures ∙ c.in_ok-report.ensures in
    read_behind c.read_lines.result (map row_value c.rows-rows.result.now) c.args.file.now c.in-Some.lines.now c.args.keyring.now (length c.rows-rows.result.now) same
    (sym (length-map c.rows-rows.result.now row_value) ∙ ap (λ (l : List RowValue). length l) same) (rw c.in-Some.is at c.in_ok-lines.ensures) c.read_lines.ensures

pub returns : goal.returns
returns c =
    let same : map row_value c.rows-rows.result.now ≡ report_of says_left c.args.keyring.now = c.rows-rows.ensures ∙ c.in_ok-report.ensures in
    no_head c.args.file.now c.args.keyring.now (length c.rows-rows.result.now) (sym (length-map c.rows-rows.result.now row_value) ∙ ap (λ (l : List RowValue). length l) same)
    (rw c.in-None.is at c.in_ok-lines.ensures)
