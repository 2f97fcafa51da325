-- The values of the rows of a report.
use Rattle.std.specs.Prelude.{List, map}
use Rattle.std.specs.Option.{option_map}
use Rattle.opgp_packet.specs.Parsed.{body_octets}
use Rattle.opgp_packet.specs.SigView.{sig_view_value}
use Rattle.opgp_report.specs.declared.report.Report.{Report}
use Rattle.opgp_report.specs.declared.row.Finding.{Finding}
use Rattle.opgp_report.specs.declared.row.Finding.TheVariants.{Asked, NotAsked}
use Rattle.opgp_report.specs.declared.row.Row.{Row}
use Rattle.opgp_report.specs.declared.verifier.Job.{Job}
use Rattle.opgp_report.specs.RowValue.{JobValue, FindingValue, RowValue, not_asked, asked_with}

abbrev pub job_value : Job → JobValue
job_value j = record {
  signature = sig_view_value j.signature;
  digest = j.digest;
  signer = option_map (λ k. body_octets k) j.signer;
}

abbrev pub finding_value : Finding → FindingValue
finding_value (NotAsked why) = not_asked why
finding_value (Asked kind hash signer digest verdict) =
    asked_with kind hash (option_map (λ id. id.0) signer) digest verdict

abbrev pub row_value : Row → RowValue
row_value r = record { place = r.place; finding = finding_value r.finding }

abbrev pub report_rows : Report → List RowValue
report_rows r = map row_value r.rows.items
