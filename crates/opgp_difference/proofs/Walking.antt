-- What a visitor has met of all that it is to meet.
use Rattle.std.proofs.Common.{◌≡◌, ◌∙◌, ℕ, ◌+◌, ◌≤◌, Bool, false, cond, List, [], ◌∷◌, ◌++◌, length, Option, Some, refl, sym, ap, subst, append_assoc, arith, length-append}
use Rattle.std.specs.List.{flat_map}
use Rattle.std.proofs.lemmas.Bool.{eqb-true}
use Rattle.std.proofs.lemmas.List.{append-nil}
use Rattle.opgp_octets.specs.declared.packet_type.PacketType.TheVariants as packet
use Rattle.opgp_frame.specs.Header.{is_type}
use Rattle.opgp_frame.specs.Packet.{PacketValue}
use Rattle.opgp_keyring.specs.Keyring.{ComponentValue, component_packets}
use Rattle.opgp_difference.specs.Entries.{Entry, Standing, hang_standing, hangs_on, place_of}
use Rattle.opgp_difference.proofs.Same.{fails_by}

-- beside what it had met before, it has met all but the rest
abbrev pub Walked : {V : Type 0} → (V → List Standing → Type 0) → V → List Standing → List Standing → List Standing → Type 0
Walked has v met all rest = (done : List Standing) × has v (met ++ done) × (all ≡ done ++ rest)

module _ {V : Type 0} (has : V → List Standing → Type 0) where
  pub begun : (v : V) (met all : List Standing) → has v met → Walked has v met all all
  begun v met all h = ([], subst (has v) (sym (append-nil met)) h, refl)

  pub more : (v w : V) (met all part rest now : List Standing) → now ≡ part ++ rest → ((seen : List Standing) → has v seen → has w (seen ++ part)) → Walked has v met all now → Walked has w met all rest
  more v w met all part rest now is step walked = (
    walked.0 ++ part,
    subst (has w) (append_assoc met walked.0 part) (step (met ++ walked.0) walked.1),
    walked.2 ∙ ap (λ (l : List Standing). walked.0 ++ l) is ∙ sym (append_assoc walked.0 part rest),
  )

  pub ended : (v : V) (met all rest : List Standing) → rest ≡ [] → Walked has v met all rest → has v (met ++ all)
  ended v met all rest none walked = subst (λ (l : List Standing). has v (met ++ l)) (sym (walked.2 ∙ ap (λ (l : List Standing). walked.0 ++ l) none ∙ append-nil walked.0)) walked.1

  pub joined : (v : V) (met first rest all : List Standing) → first ++ rest ≡ all → has v ((met ++ first) ++ rest) → has v (met ++ all)
  joined v met first rest all is h = subst (λ (l : List Standing). has v (met ++ l)) is (subst (has v) (append_assoc met first rest) h)

-- a signature is an entry, and no other packet that hangs is
pub signature_stands : (e : Entry) (certificate : ℕ) (component : Option ℕ) (n : ℕ) (p : PacketValue) → p.kind ≡ 2
    → hang_standing e certificate component n p ≡ hangs_on e (place_of certificate component (Some n)) p ∷ []
signature_stands e certificate component n p is =
    let s : List Standing = hangs_on e (place_of certificate component (Some n)) p ∷ [] in
    ap (λ (k : ℕ). cond (is_type packet.Signature k) s []) is

pub other_stands_not : (e : Entry) (certificate : ℕ) (component : Option ℕ) (n : ℕ) (p : PacketValue) → (p.kind ≡ 2 → ⊥)
    → hang_standing e certificate component n p ≡ []
other_stands_not e certificate component n p is =
    let s : List Standing = hangs_on e (place_of certificate component (Some n)) p ∷ [] in
    let no : is_type packet.Signature p.kind ≡ false = fails_by (is_type packet.Signature p.kind) (λ h. is (eqb-true p.kind 2 h)) in
    ap (λ (b : Bool). cond b s []) no

-- each component is one packet at least
pub components_count : (n : ℕ) (x : ComponentValue) (xs ys : List ComponentValue) (most : ℕ) → ys ≡ x ∷ xs → n + length (flat_map component_packets ys) ≤ most → n + 1 + length (flat_map component_packets xs) ≤ most
components_count n x xs ys most e h = omega (arith, h, ap (λ (l : List ComponentValue). length (flat_map component_packets l)) e, length-append x.hangs (flat_map component_packets xs))
