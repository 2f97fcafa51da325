use Rattle.std.proofs.Common.{◌≡◌, ◌∙◌, ◌∷◌, ◌<◌, List, length, ap, sym, arith}
use Rattle.std.specs.List.{between}
use Rattle.std.proofs.lemmas.Slice.{first_rest}
use Rattle.opgp_keyring.specs.Keyring.{CertificateValue, certificate_packets, flat}
use Rattle.opgp_tables.specs.Packets.{bodies}
use Rattle.opgp_tables.specs.Sizes.{capped}
use Rattle.opgp_tables.proofs.Counting.{at_end, packets_many}
use Rattle.opgp_tables.proofs.Filling.{piece_bodies, pieces}
use Rattle.opgp_tables.proofs.packet_counter.packet_sizes.Goals as goal

-- what a certificate adds is no longer to come
pub certificates-preserved : goal.certificates-preserved
certificates-preserved c =
    let rest : List CertificateValue = c.certificates.rest.now in
    let first : CertificateValue = c.certificate-item.result in
    let more : List CertificateValue = between 1 (length rest) rest in
    let some : 0 < length rest = omega (arith, c.in-len1-up.len_at_least) in
    let e : rest ≡ first ∷ more = first_rest rest first some ∙ ap (λ k. k ∷ more) (sym c.certificate-item.is) in
    record {
      rows = omega (arith, pieces certificate_packets first rest more e, c.add.ensures.rows, ap (λ l. length l) c.packets-packets.ensures.value, c.certificates.invariant.rows);
      bytes = omega (arith, piece_bodies certificate_packets first rest more e, c.add.ensures.bytes, ap (λ l. length (bodies l)) c.packets-packets.ensures.value, c.certificates.invariant.bytes);
      most_rows = omega (arith, c.add.ensures.rows);
      most_bytes = omega (arith, c.add.ensures.bytes);
    }

-- there is a row for each packet
pub returns-clause-rows : goal.returns-clause-rows
returns-clause-rows c =
    at_end certificate_packets c.certificates.rest.now c.certificates.sizes.rows (length (flat c.args.keyring.now)) c.in_default.len_below c.certificates.invariant.most_rows c.certificates.invariant.rows
    ∙ ap (λ n. capped n) (sym (packets_many c.args.keyring.now))
