use Rattle.std.proofs.Common.{arith, ◌≡◌, ◌∷◌, ℕ, List}
use Rattle.opgp_packet.specs.SignatureBody.{signature_at}
use Rattle.opgp_keyring.specs.SignedLiteral.{signatures_left}
use Rattle.opgp_tables.specs.DocumentJobs.{read_shown}
use Rattle.opgp_tables.proofs.Documents.{read_is, sub_octets_many, subs_left_many}
use Rattle.opgp_tables.proofs.document_subpackets.sizes_of.Goals as goal

pub signatures-preserved : goal.signatures-preserved
signatures-preserved c =
    let body : List ℕ = c.in-Some.ensures.0 in
    let e : signatures_left c.signatures.signatures ≡ body ∷ signatures_left c.next.new.self = c.in-Some.ensures.1 in
    let r : signature_at body ≡ read_shown c.in-Some.read = read_is body c.in-Some.read c.in-Some.ensures.2 in record {
      rows = omega (arith, c.signatures.invariant.rows, c.add_subpackets.ensures.rows, subs_left_many body (signatures_left c.signatures.signatures) (signatures_left c.next.new.self) (read_shown c.in-Some.read) e r);
      bytes = omega (arith, c.signatures.invariant.bytes, c.add_subpackets.ensures.bytes, sub_octets_many body (signatures_left c.signatures.signatures) (signatures_left c.next.new.self) (read_shown c.in-Some.read) e r);
      most_rows = omega (arith, c.add_subpackets.ensures.rows);
      most_bytes = omega (arith, c.add_subpackets.ensures.bytes);
    }
