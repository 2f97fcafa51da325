-- The packets of a certificate, each by the verdict in its row of the report.
use Rattle.std.specs.Prelude.{ℕ, ◌+◌, Bool, if◌then◌else◌, List, [], ◌∷◌, length, drop, All}
use Rattle.opgp_frame.specs.Packet.{PacketValue}
use Rattle.opgp_packet.specs.SignatureBody.{signature_at}
use Rattle.opgp_hash.specs.SubjectValue.{SubjectValue, one}
use Rattle.opgp_hash.specs.declared.fingerprints.Fingerprint.{Fingerprint}
use Rattle.opgp_keyring.specs.Keyring.{CertificateValue, ComponentValue, IsHead, IsHung}
use Rattle.opgp_report.specs.Standing.{bodies_within, is_signature, on_head}
use Rattle.opgp_report.specs.declared.verifier.Verdict.{Verdict}
use Rattle.opgp_valid.specs.Told.{first_verdict}
use Rattle.opgp_valid.specs.declared.known_keys.Known.{Known}
use Rattle.opgp_bound.specs.Issuers.{is_issuer}
use Rattle.opgp_bound.specs.Role.{role_of}
use Rattle.opgp_bound.specs.declared.role.Role.{Role}

-- ---- rows
-- how many rows of a report a packet on a subject has: a signature its own, and one for each that
-- is embedded in it (RFC 9580, 5.2.3.34)
abbrev pub rows_of : SubjectValue → PacketValue → ℕ
rows_of subject p =
    if is_signature p then 1 + length (bodies_within subject (signature_at p.body)) else 0

abbrev pub rows_on : SubjectValue → List PacketValue → ℕ
rows_on subject [] = 0
rows_on subject (p ∷ ps) = rows_of subject p + rows_on subject ps

-- a component's, and a certificate's
abbrev pub component_rows : List ℕ → ComponentValue → ℕ
component_rows primary c = rows_on (on_head primary c.head) c.hangs

abbrev pub components_rows : List ℕ → List ComponentValue → ℕ
components_rows primary [] = 0
components_rows primary (c ∷ cs) = component_rows primary c + components_rows primary cs

abbrev pub certificate_rows : CertificateValue → ℕ
certificate_rows c = rows_on (one c.primary.body) c.hangs
    + components_rows c.primary.body c.components

-- ---- packets
-- a packet, and what it is there for
pub record JudgedValue : Type 0 where
  pub packet : PacketValue
  pub role : Role

-- a user ID, an attribute or a subkey, whether that made a good revocation, and the packets on it
pub record JudgedComponentValue : Type 0 where
  pub head : PacketValue
  pub is_issuer : Bool
  pub hangs : List JudgedValue

-- its parts may stand there
pub record IsJudgedComponent (c : JudgedComponentValue) : Type 0 where
  pub head : IsHead c.head
  pub hangs : All (λ j. IsHung j.packet) c.hangs

module _ (known : List Known) (primary : Fingerprint) where
  abbrev pub judged : SubjectValue → Verdict → PacketValue → JudgedValue
  judged subject found p =
      record { packet = p; role = role_of known primary subject found p }

  -- those on a subject, each by the first verdict of its rows
  abbrev pub judged_hangs : SubjectValue → List PacketValue → List Verdict → List JudgedValue
  judged_hangs subject [] founds = []
  judged_hangs subject (p ∷ ps) founds = judged subject (first_verdict founds) p
      ∷ judged_hangs subject ps (drop (rows_of subject p) founds)

  -- with the fingerprints of the keys that made the good revocations of the keyring
  module _ (issuers : List Fingerprint) where
    abbrev pub judged_component : List ℕ → ComponentValue → List Verdict → JudgedComponentValue
    judged_component body c founds = record {
      head = c.head;
      is_issuer = is_issuer issuers c;
      hangs = judged_hangs (on_head body c.head) c.hangs founds;
    }

    -- those of the key of this body
    abbrev pub judged_components : List ℕ → List ComponentValue → List Verdict
        → List JudgedComponentValue
    judged_components body [] founds = []
    judged_components body (c ∷ cs) founds = judged_component body c founds
        ∷ judged_components body cs (drop (component_rows body c) founds)
