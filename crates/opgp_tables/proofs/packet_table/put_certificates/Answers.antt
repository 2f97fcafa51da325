use Rattle.std.proofs.Common.{◌≡◌, ◌∙◌, ◌∷◌, ◌<◌, rules, arith, ap, length, sym, List}
use Rattle.std.specs.List.{between}
use Rattle.std.proofs.lemmas.Slice.{first_rest}
use Rattle.opgp_keyring.specs.Keyring.{CertificateValue, certificate_packets}
use Rattle.opgp_tables.proofs.Filling.{certificate_many, certificates_end, certificates_step, empty, piece_bodies, pieces}
use Rattle.opgp_tables.proofs.packet_table.put_certificates.Goals as goal

pub put_certificate-reached-requires-clause-rows : goal.put_certificate-reached-requires-clause-rows
put_certificate-reached-requires-clause-rows c =
    let rest : List CertificateValue = c.certificates.rest.now in
    let first : CertificateValue = c.certificate-item.result in
    let more : List CertificateValue = between 1 (length rest) rest in
    let some : 0 < length rest = omega (arith, c.in-len1-up.len_at_least) in
    let e : rest ≡ first ∷ more = first_rest rest first some ∙ ap (λ k. k ∷ more) (sym c.certificate-item.is) in
    omega (arith, pieces certificate_packets first rest more e, c.certificates.invariant.rows_room)

pub put_certificate-reached-requires-clause-bytes : goal.put_certificate-reached-requires-clause-bytes
put_certificate-reached-requires-clause-bytes c =
    let rest : List CertificateValue = c.certificates.rest.now in
    let first : CertificateValue = c.certificate-item.result in
    let more : List CertificateValue = between 1 (length rest) rest in
    let some : 0 < length rest = omega (arith, c.in-len1-up.len_at_least) in
    let e : rest ≡ first ∷ more = first_rest rest first some ∙ ap (λ k. k ∷ more) (sym c.certificate-item.is) in
    omega (arith, piece_bodies certificate_packets first rest more e, c.certificates.invariant.bytes_room)

pub certificates-preserved : goal.certificates-preserved
certificates-preserved c =
    let rest : List CertificateValue = c.certificates.rest.now in
    let first : CertificateValue = c.certificate-item.result in
    let more : List CertificateValue = between 1 (length rest) rest in
    let some : 0 < length rest = omega (arith, c.in-len1-up.len_at_least) in
    let e : rest ≡ first ∷ more = first_rest rest first some ∙ ap (λ k. k ∷ more) (sym c.certificate-item.is) in
    record {
      all = λ there rows bytes f. c.certificates.invariant.all there rows bytes
          (certificates_step c.certificates.number first rest more c.certificates.reached c.put_certificate-reached.result there
          c.certificates.rows c.put_certificate-reached.new.rows rows c.certificates.bytes c.put_certificate-reached.new.bytes bytes e c.put_certificate-reached.ensures f);
      count = omega (arith, ap (λ l. length l) e, c.certificates.invariant.count);
      rows_room = omega (arith, pieces certificate_packets first rest more e, c.put_certificate-reached.ensures.rows_there, certificate_many c.certificates.number c.certificates.reached.bytes first, c.certificates.invariant.rows_room, c.put_certificate-reached.auto.rows);
      bytes_room = omega (arith, piece_bodies certificate_packets first rest more e, c.put_certificate-reached.ensures.bytes_there, c.certificates.invariant.bytes_room, c.put_certificate-reached.auto.bytes);
    }

pub returns : goal.returns
returns c = c.certificates.invariant.all c.certificates.reached c.certificates.rows c.certificates.bytes
    (certificates_end c.certificates.number c.certificates.rest.now c.certificates.reached c.certificates.rows c.certificates.bytes (empty c.certificates.rest.now c.in_default.len_below) (search rules) (search rules))
