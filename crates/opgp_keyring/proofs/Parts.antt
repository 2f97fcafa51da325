-- The parts of a keyring tell it.
use Rattle.std.proofs.Common.{◌≡◌, List, [], ◌∷◌, ◌++◌, map, refl, sym, ap, subst, ◌∙◌, append_assoc, append-nil}
use Rattle.std.proofs.lemmas.List.{map-append}
use Rattle.opgp_frame.specs.Packet.{PacketValue}
use Rattle.opgp_octets.specs.declared.limits.Limits.{Limits}
use Rattle.opgp_keyring.specs.Composed.{IsKeyringOf, PartValue, of_lead, of_certificate, lead_parts, parts_of}
use Rattle.opgp_keyring.specs.Composition.{Item}
use Rattle.opgp_keyring.specs.Keyring.{KeyringValue, CertificateValue}
use Rattle.opgp_keyring.proofs.Adding.{keyring}

same_certificates : (cs ds : List CertificateValue) → map of_certificate cs ≡ map of_certificate ds → cs ≡ ds
same_certificates [] [] e = refl
same_certificates [] (d ∷ ds) e = absurd cc
same_certificates (c ∷ cs) [] e = absurd cc
same_certificates (c ∷ cs) (d ∷ ds) e =
    let head : c ≡ d = cc in
    let tail : map of_certificate cs ≡ map of_certificate ds = cc in
    ap (λ (x : CertificateValue). x ∷ cs) head ∙ ap (λ (l : List CertificateValue). d ∷ l) (same_certificates cs ds tail)

no_lead : (l : List PacketValue) (cs ds : List CertificateValue) → of_lead l ∷ map of_certificate cs ≡ map of_certificate ds → ⊥
no_lead l cs [] e = cc
no_lead l cs (d ∷ ds) e = cc

same_in : (l m : List PacketValue) (cs ds : List CertificateValue) → lead_parts l ++ map of_certificate cs ≡ lead_parts m ++ map of_certificate ds → keyring l cs ≡ keyring m ds
same_in [] [] cs ds e = ap (keyring []) (same_certificates cs ds e)
same_in [] (q ∷ m) cs ds e = absurd (no_lead (q ∷ m) ds cs (sym e))
same_in (p ∷ l) [] cs ds e = absurd (no_lead (p ∷ l) cs ds e)
same_in (p ∷ l) (q ∷ m) cs ds e =
    let lead : p ∷ l ≡ q ∷ m = cc in
    let rest : map of_certificate cs ≡ map of_certificate ds = cc in
    ap (λ (x : List PacketValue). keyring x cs) lead ∙ ap (keyring (q ∷ m)) (same_certificates cs ds rest)

pub same_parts : (r s : KeyringValue) → parts_of r ≡ parts_of s → r ≡ s
same_parts r s e = same_in r.lead s.lead r.certificates s.certificates e

pub parts_push : (lead : List PacketValue) (cs : List CertificateValue) (c : CertificateValue) → parts_of (keyring lead cs) ++ of_certificate c ∷ [] ≡ parts_of (keyring lead (cs ++ c ∷ []))
parts_push lead cs c = append_assoc (lead_parts lead) (map of_certificate cs) (of_certificate c ∷ []) ∙ ap (λ (l : List PartValue). lead_parts lead ++ l) (sym (map-append of_certificate cs (c ∷ [])))

-- a lead comes first, and is the lead
pub record IsFirst (before : List PartValue) (l : List PacketValue) (r : KeyringValue) : Type 0 where
  pub none : before ≡ []
  pub parts : lead_parts l ≡ of_lead l ∷ []
  pub whole : r ≡ keyring l []

in_certificates : (before : List PartValue) (l : List PacketValue) (cs : List CertificateValue) → before ++ of_lead l ∷ [] ≡ map of_certificate cs → ⊥
in_certificates [] l cs e = no_lead l [] cs e
in_certificates (x ∷ before) l [] e = cc
in_certificates (x ∷ before) l (c ∷ cs) e = in_certificates before l cs (let t : before ++ of_lead l ∷ [] ≡ map of_certificate cs = cc in t)

empty_certificates : (cs : List CertificateValue) → [] ≡ map of_certificate cs → cs ≡ []
empty_certificates [] e = refl
empty_certificates (c ∷ cs) e = absurd cc

first_in : (before : List PartValue) (l m : List PacketValue) (cs : List CertificateValue) → before ++ of_lead l ∷ [] ≡ lead_parts m ++ map of_certificate cs → IsFirst before l (keyring m cs)
first_in before l [] cs e = absurd (in_certificates before l cs e)
first_in [] l (p ∷ m) cs e =
    let lead : l ≡ p ∷ m = cc in
    let rest : [] ≡ map of_certificate cs = cc in
    record {
      none = refl;
      parts = ap lead_parts lead ∙ ap (λ (x : List PacketValue). of_lead x ∷ []) (sym lead);
      whole = ap (λ (x : List PacketValue). keyring x cs) (sym lead) ∙ ap (keyring l) (empty_certificates cs rest);
    }
first_in (x ∷ before) l (p ∷ m) cs e = absurd (in_certificates before l cs (let t : before ++ of_lead l ∷ [] ≡ map of_certificate cs = cc in t))

pub is_first : (before : List PartValue) (l : List PacketValue) (r : KeyringValue) → before ++ of_lead l ∷ [] ≡ parts_of r → IsFirst before l r
is_first before l r e = first_in before l r.lead r.certificates e

no_lead_parts : (l : List PacketValue) (cs : List CertificateValue) → lead_parts l ++ map of_certificate cs ≡ [] → cs ≡ []
no_lead_parts [] cs e = empty_certificates cs (sym e)
no_lead_parts (p ∷ l) cs e = absurd cc

-- where there are no parts yet, a lead is all
pub lead_alone : (lead l : List PacketValue) (cs : List CertificateValue) (r : KeyringValue) → parts_of (keyring lead cs) ++ of_lead l ∷ [] ≡ parts_of r → parts_of (keyring lead cs) ++ of_lead l ∷ [] ≡ parts_of (keyring l cs)
lead_alone lead l cs r e =
    let first = is_first (parts_of (keyring lead cs)) l r e in
    let none : cs ≡ [] = no_lead_parts lead cs first.none in
    ap (λ (ps : List PartValue). ps ++ of_lead l ∷ []) first.none ∙ sym first.parts ∙ sym (append-nil (lead_parts l)) ∙ ap (λ (x : List CertificateValue). parts_of (keyring l x)) (sym none)

-- ---- the parts gathered, and the last one

pub record Closes (limits : Limits) (given : List Item) (before last : List PartValue) : Type 0 where
  pub ring : KeyringValue
  pub stands : IsKeyringOf limits given ring
  pub parts : parts_of ring ≡ before ++ last

closes_as : (limits : Limits) (given : List Item) (s r : KeyringValue) → IsKeyringOf limits given r → parts_of r ≡ parts_of s → IsKeyringOf limits given s
closes_as limits given s r k e = subst (IsKeyringOf limits given) (same_parts r s e) k

pub closed_lead : (limits : Limits) (given : List Item) (l m : List PacketValue) (cs : List CertificateValue) → Closes limits given (parts_of (keyring l cs)) (of_lead m ∷ []) → IsKeyringOf limits given (keyring m cs)
closed_lead limits given l m cs x = closes_as limits given (keyring m cs) x.ring x.stands (x.parts ∙ lead_alone l m cs x.ring (sym x.parts))
