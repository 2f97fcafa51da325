-- Whether a signature over a document is believed that is good by arithmetic.
use Rattle.std.specs.Prelude.{ℕ, ◌+◌, nat_le, Bool, true, false, not, ◌&&◌, ◌||◌, ◌==◌}
use Rattle.std.specs.Prelude.{if◌then◌else◌, List, [], ◌∷◌, Option, Some, None, is_none, is_some}
use Rattle.std.specs.Prelude.{find, slice_get}
use Rattle.std.specs.Option.{option_and_then}
use Rattle.opgp_octets.specs.declared.packet_type.PacketType.TheVariants as packet
use Rattle.opgp_octets.specs.declared.signature_type.SignatureType.{SignatureType}
use Rattle.opgp_octets.specs.declared.signature_type.SignatureType.TheVariants as types
use Rattle.opgp_frame.specs.Header.{is_type}
use Rattle.opgp_packet.specs.Areas.{hashed_subs}
use Rattle.opgp_packet.specs.SignatureBody.{SignatureValue}
use Rattle.opgp_hash.specs.SignedValue.{signed_of}
use Rattle.opgp_hash.specs.declared.fingerprints.Fingerprint.{Fingerprint}
use Rattle.opgp_keyring.specs.Keyring.{CertificateValue, ComponentValue, KeyringValue}
use Rattle.opgp_report.specs.First.{print_of}
use Rattle.opgp_report.specs.declared.verifier.Verdict.{Verdict}
use Rattle.opgp_valid.specs.Judgement.{judgement_of}
use Rattle.opgp_valid.specs.KnownKeys.{issuer_among, known_in}
use Rattle.opgp_valid.specs.Subpackets.{has_unfit}
use Rattle.opgp_valid.specs.Told.{hash_in, is_print, is_understood, life_in, relies_with, type_in}
use Rattle.opgp_valid.specs.declared.believing.Belief.{Belief}
use Rattle.opgp_valid.specs.declared.believing.Belief.TheVariants as belief
use Rattle.opgp_valid.specs.declared.believing.Flaw.{Flaw}
use Rattle.opgp_valid.specs.declared.believing.Flaw.TheVariants.{Kind, Issuer, Critical, Weak}
use Rattle.opgp_valid.specs.declared.believing.Flaw.TheVariants.{Time, Lapsed}
use Rattle.opgp_valid.specs.declared.judgement.Judgement.{Judgement}
use Rattle.opgp_valid.specs.declared.judgement.Judgement.TheVariants as judgement
use Rattle.opgp_valid.specs.declared.judgement.KeyPlace.{KeyPlace}
use Rattle.opgp_valid.specs.declared.known_keys.Known.{Known}
use Rattle.opgp_valid.specs.declared.policy.Policy.{Policy}
use Rattle.opgp_valid.specs.declared.statement.Life.{Life}

-- ---- what it says itself
-- of a document as it is, or as text (RFC 9580, 5.2.1.1, 5.2.1.2)
abbrev pub signs_document : SignatureType → Bool
signs_document types.Binary = true
signs_document types.Text = true
signs_document other = false

-- it has expired (5.2.3.18)
abbrev pub has_lapsed : ℕ → Option Life → Bool
has_lapsed now None = false
has_lapsed now (Some life) = not (life.lasts == 0) && nat_le (life.made + life.lasts) now

module _ (known : List Known) (policy : Policy) (print : Fingerprint) (now : ℕ)
    (v : SignatureValue) where
  -- it isn't one over a document; names another key first than this one; something critical in it
  -- is unknown, or a hashed subpacket hasn't the form of its kind (5.2.3.7); the policy doesn't
  -- rely on it; it states no creation time, or several (5.2.3.11); it has expired
  abbrev pub has_flaw : Flaw → Bool
  has_flaw Kind = not (is_some (signed_of v) && signs_document (type_in v))
  has_flaw Issuer = not (is_print print (issuer_among known v))
  has_flaw Critical = not (is_understood v) || has_unfit (hashed_subs v)
  has_flaw Weak = not (relies_with policy (hash_in v) (issuer_among known v))
  has_flaw Time = is_none (life_in v)
  has_flaw Lapsed = has_lapsed now (life_in v)

  -- the first that it has, if it has one
  abbrev pub flaw_of : Option Flaw
  flaw_of = find has_flaw (Kind ∷ Issuer ∷ Critical ∷ Weak ∷ Time ∷ Lapsed ∷ [])

-- ---- by which key
abbrev pub subkey_print : Option ComponentValue → Option Fingerprint
subkey_print None = None
subkey_print (Some c) =
    if is_type packet.PublicSubkey c.head.kind then Some (print_of c.head.body) else None

abbrev pub print_in : CertificateValue → Option ℕ → Option Fingerprint
print_in c None = Some (print_of c.primary.body)
print_in c (Some n) = subkey_print (slice_get c.components n)

abbrev pub print_at : KeyringValue → KeyPlace → Option Fingerprint
print_at r at =
    option_and_then (λ c. print_in c at.component) (slice_get r.certificates at.certificate)

-- ---- whether it is believed
abbrev pub made_by : Option Life → ℕ
made_by None = 0
made_by (Some life) = life.made

-- as its key is
abbrev pub believed_as : Judgement → Belief
believed_as judgement.Stands = belief.Believed
believed_as (judgement.Fails cause) = belief.Unbelieved cause
believed_as judgement.NoKey = belief.NoKey

abbrev pub believed_if : Option Flaw → Judgement → Belief
believed_if (Some flaw) j = belief.Flawed flaw
believed_if None j = believed_as j

abbrev pub believed_by : KeyringValue → Policy → List Verdict → KeyPlace → ℕ → SignatureValue
    → Option Fingerprint → Belief
believed_by r policy founds at now v None = belief.NoKey
believed_by r policy founds at now v (Some print) =
    believed_if (flaw_of (known_in r) policy print now v)
    (judgement_of r policy founds at (made_by (life_in v)) now)

-- by the key at a place of a keyring
abbrev pub belief_of : KeyringValue → Policy → List Verdict → KeyPlace → ℕ → SignatureValue → Belief
belief_of r policy founds at now v =
    believed_by r policy founds at now v (print_at r at)
