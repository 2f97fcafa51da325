use Rattle.std.proofs.Common.{◌≡◌, ◌∙◌, ◌∷◌, ◌<◌, List, length, ap, sym, arith}
use Rattle.std.specs.List.{between}
use Rattle.std.proofs.lemmas.Slice.{first_rest}
use Rattle.opgp_keyring.specs.Keyring.{CertificateValue}
use Rattle.opgp_report.specs.Report.{certificate_keys, keys_in}
use Rattle.opgp_tables.specs.Keys.{certificate_material, key_bytes}
use Rattle.opgp_tables.specs.Sizes.{capped}
use Rattle.opgp_tables.proofs.Counting.{at_end, keys_many}
use Rattle.opgp_tables.proofs.Filling.{pieces}
use Rattle.opgp_tables.proofs.key_counter.key_sizes.Goals as goal

-- what a certificate adds is no longer to come
pub certificates-preserved : goal.certificates-preserved
certificates-preserved c =
    let rest : List CertificateValue = c.certificates.rest.now in
    let first : CertificateValue = c.certificate-item.result in
    let more : List CertificateValue = between 1 (length rest) rest in
    let some : 0 < length rest = omega (arith, c.in-len1-up.len_at_least) in
    let e : rest ≡ first ∷ more = first_rest rest first some ∙ ap (λ k. k ∷ more) (sym c.certificate-item.is) in
    record {
      rows = omega (arith, pieces certificate_keys first rest more e, c.add_certificate.ensures.rows, c.certificates.invariant.rows);
      bytes = omega (arith, pieces certificate_material first rest more e, c.add_certificate.ensures.bytes, c.certificates.invariant.bytes);
      most_rows = omega (arith, c.add_certificate.ensures.rows);
      most_bytes = omega (arith, c.add_certificate.ensures.bytes);
    }

pub returns-clause-bytes : goal.returns-clause-bytes
returns-clause-bytes c =
    at_end certificate_material c.certificates.rest.now c.certificates.sizes.bytes (length (key_bytes c.args.keyring.now)) c.in_default.len_below c.certificates.invariant.most_bytes c.certificates.invariant.bytes

-- there is a row for each key
pub returns-clause-rows : goal.returns-clause-rows
returns-clause-rows c =
    at_end certificate_keys c.certificates.rest.now c.certificates.sizes.rows (length (keys_in c.args.keyring.now)) c.in_default.len_below c.certificates.invariant.most_rows c.certificates.invariant.rows
    ∙ ap (λ n. capped n) (sym (keys_many c.args.keyring.now))
