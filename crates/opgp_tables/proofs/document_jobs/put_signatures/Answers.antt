use Rattle.std.proofs.Common.{rules, arith, ◌≡◌, ◌∷◌, ℕ, List, length, ap}
use Rattle.std.proofs.lemmas.List.{drop_more}
use Rattle.opgp_packet.specs.SignatureBody.{signature_at}
use Rattle.opgp_report.specs.KeyIndex.{prints_shown}
use Rattle.opgp_keyring.specs.SignedLiteral.{signatures_left}
use Rattle.opgp_tables.specs.DocumentJobs.{document_job_bytes, document_jobs_from, read_shown}
use Rattle.opgp_tables.proofs.Documents.{all_put, jobs_end, jobs_step, made_many, read_is}
use Rattle.opgp_tables.proofs.document_jobs.put_signatures.Goals as goal

pub put_signature-reached-requires-clause-bytes : goal.put_signature-reached-requires-clause-bytes
put_signature-reached-requires-clause-bytes c =
    let body : List ℕ = c.in-Some.ensures.0 in
    let e : signatures_left c.signatures.signatures ≡ body ∷ signatures_left c.next.new.self = c.in-Some.ensures.1 in
    let r : signature_at body ≡ read_shown c.in-Some.read = read_is body c.in-Some.read c.in-Some.ensures.2 in
    omega (arith, c.signatures.invariant.bytes_room, made_many body (signatures_left c.signatures.signatures) (signatures_left c.next.new.self) (read_shown c.in-Some.read) e r)

-- the row of this signature is put, and all behind it are to come
pub signatures-preserved : goal.signatures-preserved
signatures-preserved c =
    let body : List ℕ = c.in-Some.ensures.0 in
    let e : signatures_left c.signatures.signatures ≡ body ∷ signatures_left c.next.new.self = c.in-Some.ensures.1 in
    let r : signature_at body ≡ read_shown c.in-Some.read = read_is body c.in-Some.read c.in-Some.ensures.2 in record {
      all = λ there rows bytes f. c.signatures.invariant.all there rows bytes
          (jobs_step c.args.is_message (prints_shown c.args.names.now) c.signatures.number (read_shown c.in-Some.read) body (signatures_left c.signatures.signatures) (signatures_left c.next.new.self) _ _ _
          c.signatures.reached c.put_signature-reached.result there c.signatures.rows c.put_signature-reached.new.rows rows c.signatures.bytes c.put_signature-reached.new.bytes bytes
          e (drop_more c.args.answers.now c.signatures.number _ (search rules)) r c.put_signature-reached.ensures f);
      rows_room = omega (arith, c.signatures.invariant.rows_room, c.put_signature-reached.ensures.rows_there, c.put_signature-reached.auto.rows, ap (λ (l : List (List ℕ)). length l) e);
      bytes_room = omega (arith, c.signatures.invariant.bytes_room, c.put_signature-reached.ensures.bytes_there, c.put_signature-reached.auto.bytes, made_many body (signatures_left c.signatures.signatures) (signatures_left c.next.new.self) (read_shown c.in-Some.read) e r);
      count = search rules;
    }

pub returns-clause-rows : goal.returns-clause-rows
returns-clause-rows c =
    (all_put (document_jobs_from c.args.is_message (prints_shown c.args.names.now) 0 0 (signatures_left c.args.signatures) c.args.answers.now) (document_job_bytes (signatures_left c.args.signatures))
    c.signatures.reached c.args.rows.now c.signatures.rows c.args.bytes.now c.signatures.bytes
    (c.signatures.invariant.all c.signatures.reached c.signatures.rows c.signatures.bytes
    (jobs_end c.args.is_message (prints_shown c.args.names.now) c.signatures.number (signatures_left c.signatures.signatures) _ c.signatures.reached c.signatures.rows c.signatures.bytes (search rules) (search rules) (search rules)))).0

pub returns-clause-bytes : goal.returns-clause-bytes
returns-clause-bytes c =
    (all_put (document_jobs_from c.args.is_message (prints_shown c.args.names.now) 0 0 (signatures_left c.args.signatures) c.args.answers.now) (document_job_bytes (signatures_left c.args.signatures))
    c.signatures.reached c.args.rows.now c.signatures.rows c.args.bytes.now c.signatures.bytes
    (c.signatures.invariant.all c.signatures.reached c.signatures.rows c.signatures.bytes
    (jobs_end c.args.is_message (prints_shown c.args.names.now) c.signatures.number (signatures_left c.signatures.signatures) _ c.signatures.reached c.signatures.rows c.signatures.bytes (search rules) (search rules) (search rules)))).1
