use Rattle.std.proofs.Common.{rules, arith, refl, ◌≤◌, length, [], List, ℕ, ◌≡◌}
use Rattle.std.specs.List.{flat_map}
use borrow.Rule.Slice.Mut.{set_vals}
use Rattle.opgp_hash.specs.CertificateHasher.{hasher_subject}
use Rattle.opgp_hash.specs.declared.fingerprints.Fingerprint.{Fingerprint}
use Rattle.opgp_packet.specs.SignatureBody.{signature_at}
use Rattle.opgp_packet.specs.SigView.{sig_view_value}
use Rattle.opgp_report.specs.Asked.{posed_by}
use Rattle.opgp_report.specs.KeyIndex.{prints_shown}
use Rattle.opgp_report.specs.Standing.{Standing, stands}
use Rattle.opgp_tables.specs.declared.job_filler.JobFiller.{JobFiller}
use Rattle.opgp_tables.specs.declared.job_row.JobRow.{JobRow}
use Rattle.opgp_tables.specs.Jobs.{job_octets, job_row, opaque_row, said_parts, signature_row}
use Rattle.opgp_tables.proofs.FilledJobs.{job_step, row_met}
use Rattle.opgp_tables.proofs.Filling.{item_fills}
use Rattle.opgp_tables.proofs.job_filler.JobFillerVisitor.meet.Goals as goal

-- the row of a signature
pub returns-else-said_octets_in-left-clause-shown : goal.returns-else-said_octets_in-left-clause-shown
returns-else-said_octets_in-left-clause-shown c body reads more end f =
    let new : JobFiller = record {
      names = c.args.self.now.names;
      rows = set_vals c.put_job-self.new.rows c.args.self.now.rows;
      bytes = set_vals c.put_job-self.new.bytes c.args.self.now.bytes;
      here = c.put_job-self.result;
    } in
    let s : Standing = stands c.args.met.now.site c.args.met.now.place (hasher_subject c.args.hasher.now) body in
    let prints : List Fingerprint = prints_shown c.args.self.now.names.now in
    let row : JobRow = signature_row prints c.args.met.now.place c.args.self.now.here.bytes (sig_view_value c.in-Some-signature.signature) c.answer_to-answer.result in
    let octets : List ℕ = flat_map (λ (o : List ℕ). o) (said_parts (sig_view_value c.in-Some-signature.signature)) in
    let met = row_met prints c.args.met.now.place c.args.self.now.here.bytes c.args.met.now.signature c.in-Some-signature.signature (signature_at body) (posed_by s) c.answer_to-answer.result
    c.in-Some-signature.is reads (c.answer_to-answer.ensures.value (signature_at body) reads) in
    job_step c.args.self.now new s more row octets met.0 met.1 c.put_job-self.ensures c.put_job-self.auto.rows c.put_job-self.auto.bytes refl refl refl end f

-- the row of octets that aren't one
pub returns-in-None-clause-shown : goal.returns-in-None-clause-shown
returns-in-None-clause-shown c body reads more end f =
    let new : JobFiller = record {
      names = c.args.self.now.names;
      rows = set_vals c.put_opaque-self.new.rows c.args.self.now.rows;
      bytes = c.args.self.now.bytes;
      here = c.put_opaque-self.result;
    } in
    let s : Standing = stands c.args.met.now.site c.args.met.now.place (hasher_subject c.args.hasher.now) body in
    let e : opaque_row c.args.met.now.place c.args.self.now.here.bytes ≡ job_row (prints_shown c.args.self.now.names.now) c.args.self.now.here.bytes s = search rules in
    let octets : List ℕ = [] in
    let o : octets ≡ job_octets s = search rules in
    let row : JobRow = opaque_row c.args.met.now.place c.args.self.now.here.bytes in
    let within : c.args.self.now.here.bytes ≤ length c.args.self.now.bytes.now = omega (arith, c.in-Some.ensures.1) in
    let room : c.args.self.now.here.rows ≤ length c.args.self.now.rows.now = omega (arith, c.in-Some.ensures.0) in
    job_step c.args.self.now new s more row octets e o
    (item_fills row c.args.self.now.here c.put_opaque-self.result c.args.self.now.rows.now c.put_opaque-self.new.rows c.args.self.now.bytes.now c.put_opaque-self.ensures.put c.put_opaque-self.ensures.rows c.put_opaque-self.ensures.bytes room within)
    c.put_opaque-self.auto.rows refl refl refl refl end f
