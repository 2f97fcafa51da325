-- The keys that made the revocations of a keyring.
use Rattle.std.specs.Prelude.{ℕ, Bool, true, false, ◌&&◌, if◌then◌else◌, List, [], ◌∷◌}
use Rattle.std.specs.Prelude.{Option, Some, None, is_some, Result, Ok, Err}
use Rattle.std.specs.List.{flat_map}
use Rattle.opgp_octets.specs.SignatureType.{signature_type_of}
use Rattle.opgp_octets.specs.declared.fault.BodyFault.{BodyFault}
use Rattle.opgp_octets.specs.declared.packet_type.PacketType.TheVariants as packet
use Rattle.opgp_octets.specs.declared.signature_type.SignatureType.{SignatureType}
use Rattle.opgp_octets.specs.declared.signature_type.SignatureType.TheVariants as types
use Rattle.opgp_frame.specs.Header.{is_type}
use Rattle.opgp_packet.specs.SignatureBody.{SignatureValue, signature_at}
use Rattle.opgp_hash.specs.Fingerprint.{print_octets, print_version}
use Rattle.opgp_hash.specs.declared.fingerprints.Fingerprint.{Fingerprint}
use Rattle.opgp_keyring.specs.Keyring.{ComponentValue, KeyringValue}
use Rattle.opgp_report.specs.First.{first_by_print, print_of}
use Rattle.opgp_report.specs.Standing.{Standing, standing_in}
use Rattle.opgp_report.specs.declared.verifier.Verdict.{Verdict}
use Rattle.opgp_valid.specs.KnownKeys.{issuer_among, known_in}
use Rattle.opgp_valid.specs.Told.{is_good_verdict, with_verdicts}
use Rattle.opgp_valid.specs.declared.known_keys.Known.{Known}
use Rattle.opgp_bound.specs.Role.{kind_in}

-- it revokes a key, a subkey or a certification (RFC 9580, 5.2.1.11 to 5.2.1.13)
abbrev pub is_revocation : SignatureType → Bool
is_revocation types.KeyRevocation = true
is_revocation types.SubkeyRevocation = true
is_revocation types.CertificationRevocation = true
is_revocation other = false

abbrev pub revokes_typed : Option ℕ → Bool
revokes_typed None = false
revokes_typed (Some kind) = is_revocation (signature_type_of kind)

-- its fingerprint, if the key is known
abbrev pub print_in : Option Known → List Fingerprint
print_in None = []
print_in (Some k) = k.print ∷ []

module _ (known : List Known) where
  -- the fingerprint of the key that made a signature, if that is a revocation, and good (5.2.3.12,
  -- 5.2.3.35)
  abbrev pub issuer_by : Verdict → SignatureValue → List Fingerprint
  issuer_by found v = if is_good_verdict found && revokes_typed (kind_in v)
      then print_in (issuer_among known v) else []

  abbrev pub issuer_read : Verdict → Result SignatureValue BodyFault → List Fingerprint
  issuer_read found (Err fault) = []
  issuer_read found (Ok v) = issuer_by found v

  abbrev pub issuer_at : Standing × Verdict → List Fingerprint
  issuer_at x = issuer_read x.1 (signature_at x.0.body)

-- those of a keyring's good revocations, by the verdicts on the rows of its report
abbrev pub revocation_issuers : KeyringValue → List Verdict → List Fingerprint
revocation_issuers r founds =
    flat_map (issuer_at (known_in r)) (with_verdicts founds (standing_in r))

-- ---- a component's key
-- the key of this fingerprint is among them
abbrev pub is_print_among : List Fingerprint → Fingerprint → Bool
is_print_among prints print =
    is_some (first_by_print (print_version print) (print_octets print) prints)

-- it is a subkey that is among them
abbrev pub is_issuer : List Fingerprint → ComponentValue → Bool
is_issuer issuers c = is_type packet.PublicSubkey c.head.kind
    && is_print_among issuers (print_of c.head.body)
