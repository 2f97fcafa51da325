-- What stays of the certificates of a keyring stands as before.
use Rattle.std.proofs.Common.{◌≡◌, ◌∙◌, ℕ, Bool, true, false, List, [], map, Some, is_some, refl, sym, ap, subst, if◌then◌else◌, slice_get, true≢false}
use Rattle.std.specs.List.{flat_map, list_any}
use Rattle.std.proofs.lemmas.Bool.{false≢true}
use Rattle.opgp_keyring.specs.Keyring.{CertificateValue, KeyringValue}
use Rattle.opgp_report.specs.First.{print_of}
use Rattle.opgp_valid.specs.Facts.{FactsValue}
use Rattle.opgp_valid.specs.KnownKeys.{known_in}
use Rattle.opgp_valid.specs.State.{identity_of, reason_of, revokes_identity, unusable, vouches}
use Rattle.opgp_valid.specs.declared.facts.Key.{Key}
use Rattle.opgp_valid.specs.declared.facts.Key.TheVariants.{Primary, Subkey}
use Rattle.opgp_valid.specs.declared.policy.Policy.{Policy}
use Rattle.opgp_valid.specs.declared.state.IdentityState.{IdentityState}
use Rattle.opgp_valid.specs.declared.state.IdentityState.TheVariants.{Certified, Revoked, Unbound}
use Rattle.opgp_bound.specs.Before.{IsBoundOf, PutsNone, SaysSameAnywhere, StandsAs, components_decided, number_kept}
use Rattle.opgp_bound.specs.Bound.{component_stays, kept_component, kept_components, left_behind}
use Rattle.opgp_bound.specs.Copies.{Deciding, facts_decided}
use Rattle.opgp_bound.specs.Judged.{JudgedComponentValue}
use Rattle.opgp_bound.proofs.AsBefore.{bound_facts, facts_after, facts_are, facts_before, identity_same, never_certified, never_usable, reason_same, stands_as}
use Rattle.opgp_bound.proofs.Decided.{component_on, decided_are, issuers_in, made_by}
use Rattle.opgp_bound.proofs.Matched.{flag_at, flags, kept_flag, kept_place, kept_there, place}

module _ (v : Deciding) (r : KeyringValue) (c : CertificateValue) where
  abbrev components : List JudgedComponentValue
  components = map (component_on (known_in r) (print_of c.primary.body) v (issuers_in v r c) c.primary.body) c.components

  -- the component of this number
  there : (n : ℕ) (d : JudgedComponentValue) → slice_get (components_decided v r c) n ≡ Some d → slice_get components n ≡ Some d
  there n d e = ap (λ (cs : List JudgedComponentValue). slice_get cs n) (sym (decided_are v r c)) ∙ e

  flag_is : (n : ℕ) (d : JudgedComponentValue) → slice_get (components_decided v r c) n ≡ Some d → flag_at (flags (known_in r) v (issuers_in v r c) c) n ≡ component_stays d
  flag_is n d e = kept_flag components n d (there n d e)

  place_is : (n : ℕ) (d : JudgedComponentValue) → slice_get (components_decided v r c) n ≡ Some d → component_stays d ≡ true → place (flags (known_in r) v (issuers_in v r c) c) (number_kept (components_decided v r c) n) ≡ n
  place_is n d e h =
      ap (λ (cs : List JudgedComponentValue). place (flags (known_in r) v (issuers_in v r c) c) (number_kept cs n)) (decided_are v r c)
      ∙ kept_place components n d (there n d e) h

  pub found_there : (m : CertificateValue) → IsBoundOf v r c m → (n : ℕ) (d : JudgedComponentValue) → slice_get (components_decided v r c) n ≡ Some d → component_stays d ≡ true
      → slice_get m.components (number_kept (components_decided v r c) n) ≡ Some (kept_component d)
  found_there m made n d is stays =
      ap (λ (x : CertificateValue). slice_get x.components (number_kept (components_decided v r c) n)) (made_by v r c m made)
      ∙ ap (λ (cs : List JudgedComponentValue). slice_get (kept_components components) (number_kept cs n)) (decided_are v r c)
      ∙ kept_there components n d (there n d is) stays

  in_place : PutsNone v r c → flat_map left_behind components ≡ []
  in_place none = ap (flat_map left_behind) (sym (decided_are v r c)) ∙ none

-- ---- how they stand
module _ (policy : Policy) (v : Deciding) (r : KeyringValue) (c : CertificateValue) where
  abbrev facts : FactsValue
  facts = facts_before (known_in r) policy v (issuers_in v r c) c

  before_is : facts_decided (known_in r) policy v c ≡ facts
  before_is = facts_are (known_in r) policy v c

  module _ (m : CertificateValue) (made : IsBoundOf v r c m) where
    abbrev facts_then : FactsValue
    facts_then = facts_after (known_in r) policy v (issuers_in v r c) c

    after_is : facts_decided (known_in r) policy v m ≡ facts_then
    after_is = ap (facts_decided (known_in r) policy v) (made_by v r c m made) ∙ bound_facts (known_in r) policy v (issuers_in v r c) c

    stand : (k l : Key) → StandsAs facts facts_then k l → StandsAs (facts_decided (known_in r) policy v c) (facts_decided (known_in r) policy v m) k l
    stand k l h =
        subst (λ (f : FactsValue). StandsAs f (facts_decided (known_in r) policy v m) k l) (sym before_is)
        (subst (λ (g : FactsValue). StandsAs facts g k l) (sym after_is) h)

    pub primary_stands : SaysSameAnywhere v → StandsAs (facts_decided (known_in r) policy v c) (facts_decided (known_in r) policy v m) Primary Primary
    primary_stands says = stand Primary Primary (stands_as (known_in r) policy v (issuers_in v r c) c says Primary refl)

    pub primary_reason : PutsNone v r c → reason_of (facts_decided (known_in r) policy v c) Primary ≡ reason_of (facts_decided (known_in r) policy v m) Primary
    primary_reason none =
        ap (λ (f : FactsValue). reason_of f Primary) before_is
        ∙ reason_same (known_in r) policy v (issuers_in v r c) c (in_place v r c none) Primary refl
        ∙ ap (λ (f : FactsValue). reason_of f Primary) (sym after_is)

    module _ (n : ℕ) (d : JudgedComponentValue) (is : slice_get (components_decided v r c) n ≡ Some d) (stays : component_stays d ≡ true) where
      abbrev now : ℕ
      now = number_kept (components_decided v r c) n

      flag : flag_at (flags (known_in r) v (issuers_in v r c) c) (place (flags (known_in r) v (issuers_in v r c) c) now) ≡ true
      flag = ap (flag_at (flags (known_in r) v (issuers_in v r c) c)) (place_is v r c n d is stays) ∙ flag_is v r c n d is ∙ stays

      pub subkey_stands : SaysSameAnywhere v → (created : ℕ) → StandsAs (facts_decided (known_in r) policy v c) (facts_decided (known_in r) policy v m) (Subkey n created) (Subkey (number_kept (components_decided v r c) n) created)
      subkey_stands says created =
          stand (Subkey n created) (Subkey now created)
          (subst (λ (i : ℕ). StandsAs facts facts_then (Subkey i created) (Subkey now created)) (place_is v r c n d is stays)
          (stands_as (known_in r) policy v (issuers_in v r c) c says (Subkey now created) flag))

      pub subkey_reason : PutsNone v r c → (created : ℕ) → reason_of (facts_decided (known_in r) policy v c) (Subkey n created) ≡ reason_of (facts_decided (known_in r) policy v m) (Subkey (number_kept (components_decided v r c) n) created)
      subkey_reason none created =
          ap (λ (f : FactsValue). reason_of f (Subkey n created)) before_is
          ∙ ap (λ (i : ℕ). reason_of facts (Subkey i created)) (sym (place_is v r c n d is stays))
          ∙ reason_same (known_in r) policy v (issuers_in v r c) c (in_place v r c none) (Subkey now created) flag
          ∙ ap (λ (f : FactsValue). reason_of f (Subkey now created)) (sym after_is)

      pub identity_stands : (at : ℕ) → identity_of (facts_decided (known_in r) policy v c) n at ≡ identity_of (facts_decided (known_in r) policy v m) (number_kept (components_decided v r c) n) at
      identity_stands at =
          ap (λ (f : FactsValue). identity_of f n at) before_is
          ∙ ap (λ (i : ℕ). identity_of facts i at) (sym (place_is v r c n d is stays))
          ∙ identity_same (known_in r) policy v (issuers_in v r c) c now at flag
          ∙ ap (λ (f : FactsValue). identity_of f now at) (sym after_is)

  module _ (n : ℕ) (d : JudgedComponentValue) (is : slice_get (components_decided v r c) n ≡ Some d) (goes : component_stays d ≡ false) where
    pub never_of_use : (created at : ℕ) → is_some (unusable (facts_decided (known_in r) policy v c) (Subkey n created) at) ≡ true
    never_of_use created at =
        ap (λ (f : FactsValue). is_some (unusable f (Subkey n created) at)) before_is
        ∙ never_usable (known_in r) policy v (issuers_in v r c) c n at (flag_is v r c n d is ∙ goes) created

    abbrev is_certified : IdentityState → Bool
    is_certified Certified = true
    is_certified Revoked = false
    is_certified Unbound = false

    pub never_vouched_for : (at : ℕ) → identity_of (facts_decided (known_in r) policy v c) n at ≡ Certified → ⊥
    never_vouched_for at e =
        go (list_any (vouches n at) facts.statements) (list_any (revokes_identity n) facts.statements) (never_certified (known_in r) policy v (issuers_in v r c) c n at (flag_is v r c n d is ∙ goes))
        (ap (λ (f : FactsValue). identity_of f n at) (sym before_is) ∙ e) where
          go : (t u : Bool) → t ≡ false → (if t then Certified else (if u then Revoked else Unbound)) ≡ Certified → ⊥
          go true u f g = true≢false f
          go false true f g = false≢true (ap is_certified g)
          go false false f g = false≢true (ap is_certified g)
