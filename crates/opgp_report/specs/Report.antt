-- The report of a keyring: a row for each of its signatures (RFC 9580, 5.2.4).
use Rattle.std.specs.Prelude.{ℕ, if◌then◌else◌, List, [], ◌∷◌, map, Option, Ok, Err}
use Rattle.std.specs.Prelude.{slice_get}
use Rattle.std.specs.List.{flat_map}
use Rattle.std.specs.Option.{option_map, option_and_then}
use Rattle.opgp_octets.specs.declared.packet_type.PacketType.TheVariants as packet
use Rattle.opgp_packet.specs.SignatureBody.{SignatureValue}
use Rattle.opgp_hash.specs.Digest.{digest_of}
use Rattle.opgp_hash.specs.KeyId.{id_of}
use Rattle.opgp_hash.specs.QuestionValue.{QuestionValue}
use Rattle.opgp_frame.specs.Header.{is_type}
use Rattle.opgp_keyring.specs.Keyring.{CertificateValue, ComponentValue, KeyringValue}
use Rattle.opgp_report.specs.declared.verifier.Verdict.{Verdict}
use Rattle.opgp_report.specs.Asked.{PosedValue, posed_by}
use Rattle.opgp_report.specs.First.{print_of}
use Rattle.opgp_report.specs.RowValue.{JobValue, FindingValue, RowValue, not_asked, asked_with}
use Rattle.opgp_report.specs.Signer.{signer_of}
use Rattle.opgp_report.specs.Standing.{Standing, standing_in}

-- ---- the keys of a keyring, in order, by their bodies
abbrev pub subkey_bodies : ComponentValue → List (List ℕ)
subkey_bodies c = if is_type packet.PublicSubkey c.head.kind then c.head.body ∷ [] else []

abbrev pub certificate_keys : CertificateValue → List (List ℕ)
certificate_keys c = c.primary.body ∷ flat_map subkey_bodies c.components

abbrev pub keys_in : KeyringValue → List (List ℕ)
keys_in r = flat_map certificate_keys r.certificates

-- the body of the first key that a signature names as its issuer's, if there is one
abbrev pub signer_in : List (List ℕ) → SignatureValue → Option (List ℕ)
signer_in keys v = option_and_then (λ i. slice_get keys i) (signer_of (map print_of keys) v)

-- ---- rows
-- the verdict of a verifier on a job
abbrev pub Says : Type 0
Says = JobValue → Verdict

-- what is found of a signature that is hashed, whose issuer's key is this one
abbrev pub finding_by : Says → Option (List ℕ) → SignatureValue → QuestionValue → FindingValue
finding_by says signer v q =
    asked_with q.kind q.hash (option_map (λ body. id_of (print_of body)) signer) (digest_of q)
    (says (record { signature = v; digest = digest_of q; signer = signer }))

module _ (says : Says) (keys : List (List ℕ)) where
  abbrev pub finding_of : PosedValue → FindingValue
  finding_of (Err why) = not_asked why
  finding_of (Ok x) = finding_by says (signer_in keys x.0) x.0 x.1

  abbrev pub row_of : Standing → RowValue
  row_of s = record { place = s.place; finding = finding_of (posed_by s) }

-- the report of a keyring with a verifier
abbrev pub report_of : Says → KeyringValue → List RowValue
report_of says r = map (row_of says (keys_in r)) (standing_in r)
