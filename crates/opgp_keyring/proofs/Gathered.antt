-- Parts that were taken from a composer are those of a keyring.
use Rattle.std.proofs.Common.{◌≡◌, ◌∷◌, [], ◌++◌, false, List, sym, subst, ◌∙◌, ap}
use Rattle.opgp_octets.specs.declared.limits.Limits.{Limits}
use Rattle.opgp_keyring.specs.declared.composer.Composer.{Composer}
use Rattle.opgp_keyring.specs.Composed.{IsKeyringOf, PartValue, of_lead, of_certificate, parts_of}
use Rattle.opgp_keyring.specs.Composition.{Item}
use Rattle.opgp_keyring.specs.Fed.{Fed, is_ready}
use Rattle.opgp_keyring.specs.Keyring.{CertificateValue, KeyringValue}
use Rattle.opgp_keyring.specs.Parts.{AreParts}
use Rattle.opgp_keyring.proofs.Adding.{keyring}
use Rattle.opgp_keyring.proofs.HandedOut.{parts_before}
use Rattle.opgp_keyring.proofs.Parts.{lead_alone, parts_push, same_parts}
use Rattle.opgp_keyring.proofs.Stepping.{none_ready}
use Rattle.opgp_frame.specs.Packet.{PacketValue}

pub are_parts : (limits : Limits) (c : Composer) (given : List Item) (parts : List PartValue) → Fed limits c given parts → is_ready c ≡ false → AreParts parts
are_parts limits c given parts f free =
    let before = parts_before _ f.handed.ring f.handed.but_last in
    record { ring = before.0; whole = sym before.1 ∙ none_ready parts c.ready free }

-- ---- a keyring keeps its parts

pub lead_kept : (ring : KeyringValue) (lead : List PacketValue) (parts : List PartValue) → parts_of ring ≡ parts → AreParts (parts ++ of_lead lead ∷ []) → parts_of (keyring lead ring.certificates) ≡ parts ++ of_lead lead ∷ []
lead_kept ring lead parts e a =
    let same = ap (λ (ps : List PartValue). ps ++ of_lead lead ∷ []) e in
    sym (lead_alone ring.lead lead ring.certificates a.ring (same ∙ sym a.whole)) ∙ same

pub certificate_kept : (ring : KeyringValue) (c : CertificateValue) (parts : List PartValue) → parts_of ring ≡ parts → parts_of (keyring ring.lead (ring.certificates ++ c ∷ [])) ≡ parts ++ of_certificate c ∷ []
certificate_kept ring c parts e = sym (parts_push ring.lead ring.certificates c) ∙ ap (λ (ps : List PartValue). ps ++ of_certificate c ∷ []) e

-- a keyring that has all parts is the one
pub all_kept : (limits : Limits) (items : List Item) (ring r : KeyringValue) → parts_of ring ≡ parts_of r → IsKeyringOf limits items r → IsKeyringOf limits items ring
all_kept limits items ring r has composed = subst (IsKeyringOf limits items) (sym (same_parts ring r has)) composed
