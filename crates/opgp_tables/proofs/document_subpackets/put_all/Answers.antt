use Rattle.std.proofs.Common.{rules, arith, ◌≡◌, ◌∷◌, ℕ, List}
use Rattle.opgp_packet.specs.SignatureBody.{signature_at}
use Rattle.opgp_keyring.specs.SignedLiteral.{signatures_left}
use Rattle.opgp_tables.specs.DocumentJobs.{document_subpacket_bytes, document_subpacket_rows, read_shown, signature_place}
use Rattle.opgp_tables.proofs.Documents.{all_put, read_is, read_many, sub_octets_many, subs_end, subs_left_many, subs_step}
use Rattle.opgp_tables.proofs.document_subpackets.put_all.Goals as goal

pub put_subpackets-reached-requires-clause-rows : goal.put_subpackets-reached-requires-clause-rows
put_subpackets-reached-requires-clause-rows c =
    let body : List ℕ = c.in-Some.ensures.0 in
    let e : signatures_left c.signatures.signatures ≡ body ∷ signatures_left c.next.new.self = c.in-Some.ensures.1 in
    let r : signature_at body ≡ read_shown c.in-Some.read = read_is body c.in-Some.read c.in-Some.ensures.2 in
    omega (arith, c.signatures.invariant.rows_room, subs_left_many body (signatures_left c.signatures.signatures) (signatures_left c.next.new.self) (read_shown c.in-Some.read) e r)

pub put_subpackets-reached-requires-clause-bytes : goal.put_subpackets-reached-requires-clause-bytes
put_subpackets-reached-requires-clause-bytes c =
    let body : List ℕ = c.in-Some.ensures.0 in
    let e : signatures_left c.signatures.signatures ≡ body ∷ signatures_left c.next.new.self = c.in-Some.ensures.1 in
    let r : signature_at body ≡ read_shown c.in-Some.read = read_is body c.in-Some.read c.in-Some.ensures.2 in
    omega (arith, c.signatures.invariant.bytes_room, sub_octets_many body (signatures_left c.signatures.signatures) (signatures_left c.next.new.self) (read_shown c.in-Some.read) e r)

-- the subpackets of this signature are put, and all behind them are to come
pub signatures-preserved : goal.signatures-preserved
signatures-preserved c =
    let body : List ℕ = c.in-Some.ensures.0 in
    let e : signatures_left c.signatures.signatures ≡ body ∷ signatures_left c.next.new.self = c.in-Some.ensures.1 in
    let r : signature_at body ≡ read_shown c.in-Some.read = read_is body c.in-Some.read c.in-Some.ensures.2 in record {
      all = λ there rows bytes f. c.signatures.invariant.all there rows bytes
          (subs_step c.signatures.number (read_shown c.in-Some.read) body (signatures_left c.signatures.signatures) (signatures_left c.next.new.self)
          c.signatures.reached c.put_subpackets-reached.result there c.signatures.rows c.put_subpackets-reached.new.rows rows c.signatures.bytes c.put_subpackets-reached.new.bytes bytes
          e r c.put_subpackets-reached.ensures f);
      rows_room = omega (arith, c.signatures.invariant.rows_room, c.put_subpackets-reached.ensures.rows_there, c.put_subpackets-reached.auto.rows, read_many (signature_place c.signatures.number) c.signatures.reached.bytes (read_shown c.in-Some.read), subs_left_many body (signatures_left c.signatures.signatures) (signatures_left c.next.new.self) (read_shown c.in-Some.read) e r);
      bytes_room = omega (arith, c.signatures.invariant.bytes_room, c.put_subpackets-reached.ensures.bytes_there, c.put_subpackets-reached.auto.bytes, sub_octets_many body (signatures_left c.signatures.signatures) (signatures_left c.next.new.self) (read_shown c.in-Some.read) e r);
      count = search rules;
    }

pub returns-clause-rows : goal.returns-clause-rows
returns-clause-rows c =
    (all_put (document_subpacket_rows (signatures_left c.args.signatures)) (document_subpacket_bytes (signatures_left c.args.signatures))
    c.signatures.reached c.args.rows.now c.signatures.rows c.args.bytes.now c.signatures.bytes
    (c.signatures.invariant.all c.signatures.reached c.signatures.rows c.signatures.bytes
    (subs_end c.signatures.number (signatures_left c.signatures.signatures) c.signatures.reached c.signatures.rows c.signatures.bytes (search rules) (search rules) (search rules)))).0

pub returns-clause-bytes : goal.returns-clause-bytes
returns-clause-bytes c =
    (all_put (document_subpacket_rows (signatures_left c.args.signatures)) (document_subpacket_bytes (signatures_left c.args.signatures))
    c.signatures.reached c.args.rows.now c.signatures.rows c.args.bytes.now c.signatures.bytes
    (c.signatures.invariant.all c.signatures.reached c.signatures.rows c.signatures.bytes
    (subs_end c.signatures.number (signatures_left c.signatures.signatures) c.signatures.reached c.signatures.rows c.signatures.bytes (search rules) (search rules) (search rules)))).1
