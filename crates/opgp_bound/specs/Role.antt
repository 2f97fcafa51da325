-- What the packets on a key or a component are there for, by the verdicts on their signatures.
use Rattle.std.specs.Prelude.{ℕ, Bool, ◌&&◌, ◌||◌, if◌then◌else◌, List, Option, Some, None}
use Rattle.std.specs.Prelude.{Result, Ok, Err, is_ok}
use Rattle.opgp_octets.specs.SignatureType.{signature_type_of}
use Rattle.opgp_octets.specs.declared.fault.BodyFault.{BodyFault}
use Rattle.opgp_octets.specs.declared.signature_type.SignatureType.{SignatureType}
use Rattle.opgp_frame.specs.Packet.{PacketValue}
use Rattle.opgp_packet.specs.Fields.{amount}
use Rattle.opgp_packet.specs.SignatureBody.{SignatureValue, of_three, of_four, of_six, of_other}
use Rattle.opgp_packet.specs.SignatureBody.{signature_at}
use Rattle.opgp_hash.specs.Asking.{ask_at_of}
use Rattle.opgp_hash.specs.SignedValue.{field_at}
use Rattle.opgp_hash.specs.SubjectValue.{SubjectValue}
use Rattle.opgp_hash.specs.declared.fingerprints.Fingerprint.{Fingerprint}
use Rattle.opgp_hash.specs.declared.site.Site.TheVariants.{Hung}
use Rattle.opgp_report.specs.Named.{named_of}
use Rattle.opgp_report.specs.Standing.{is_signature}
use Rattle.opgp_report.specs.declared.verifier.Verdict.{Verdict}
use Rattle.opgp_valid.specs.Group.{binds, certifies, is_direct}
use Rattle.opgp_valid.specs.KnownKeys.{issuer_among}
use Rattle.opgp_valid.specs.Told.{is_good_verdict, is_print, revokes_key}
use Rattle.opgp_valid.specs.declared.known_keys.Known.{Known}
use Rattle.opgp_merge.specs.Chosen.{is_name_of}
use Rattle.opgp_bound.specs.declared.role.Role.{Role}
use Rattle.opgp_bound.specs.declared.role.Role.TheVariants.{SelfSignature, KeyRevocation, Other}

-- the type of a signature: the third field in version 3, the second in versions 4 and 6 (RFC 9580,
-- 5.2.2, 5.2.3)
abbrev pub kind_in : SignatureValue → Option ℕ
kind_in (of_three fields) = Some (amount (field_at fields 2))
kind_in (of_four fields) = Some (amount (field_at fields 1))
kind_in (of_six fields) = Some (amount (field_at fields 1))
kind_in (of_other octets) = None

-- a certification (5.2.1.4 to 5.2.1.7), a subkey binding (5.2.1.8), or a direct key signature
-- (5.2.1.10): by the primary key itself a self-signature (5.2.3.10)
abbrev pub is_self_type : SignatureType → Bool
is_self_type t = certifies t || (binds t || is_direct t)

module _ (known : List Known) (primary : Fingerprint) where
  -- the verdict is good over what the signature follows (5.2.1, 5.2.4), and its issuer's key is the
  -- primary key (5.2.3.12, 5.2.3.35)
  abbrev pub is_own_and_good : SubjectValue → Verdict → SignatureValue → Bool
  is_own_and_good subject found v = is_good_verdict found
      && (is_ok (ask_at_of Hung v subject) && is_print primary (issuer_among known v))

  -- a self-signature names the primary key as its issuer, and is genuine if it is the primary key's
  -- own and good; a key revocation (5.2.1.11) may be anybody's
  abbrev pub role_by : SubjectValue → Verdict → SignatureValue → SignatureType → Role
  role_by subject found v t = if is_self_type t && is_name_of (named_of v) primary
      then SelfSignature (is_own_and_good subject found v)
      else (if revokes_key t then KeyRevocation else Other)

  abbrev pub role_typed : SubjectValue → Verdict → SignatureValue → Option ℕ → Role
  role_typed subject found v None = Other
  role_typed subject found v (Some kind) = role_by subject found v (signature_type_of kind)

  -- a malformed signature (5.2.5) has no type
  abbrev pub role_read : SubjectValue → Verdict → Result SignatureValue BodyFault → Role
  role_read subject found (Err fault) = Other
  role_read subject found (Ok v) = role_typed subject found v (kind_in v)

  -- of a packet on this subject, by the verdict in its row
  abbrev pub role_of : SubjectValue → Verdict → PacketValue → Role
  role_of subject found p =
      if is_signature p then role_read subject found (signature_at p.body) else Other
