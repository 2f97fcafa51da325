-- The fields of a key, one after the other.
use Rattle.std.proofs.Common.{◌≡◌, ℕ, ◌==◌, if◌then◌else◌, Bool, true, false, List, [], ◌∷◌, ◌++◌, take, drop, Result, Ok, Err, IfOk, refl, subst}
use Rattle.std.proofs.lemmas.Bool.{eqb-true}
use Rattle.opgp_explain.specs.Field.{FieldValue, ◌is◌}
use Rattle.opgp_explain.specs.Key.{cut, key_sizes}
use Rattle.opgp_explain.specs.Telling.{Tells}
use Rattle.opgp_explain.specs.declared.meaning.Meaning.TheVariants as meaning
use Rattle.opgp_explain.specs.declared.meaning.Role.{Role}
use Rattle.opgp_explain.specs.declared.meaning.KeyPart.{KeyPart}
use Rattle.opgp_explain.specs.declared.meaning.KeyPart.TheVariants as key
use Rattle.opgp_explain.specs.declared.telling.Telling.{Telling}
use Rattle.opgp_explain.proofs.Told.{told_both}

-- what is told behind other fields
pub then_told : {E : Type 0} (a b : Telling) (xs ys : List FieldValue) (r : Result Telling E) → Tells a b xs → IfOk r (λ t. Tells b t ys) → IfOk r (λ t. Tells a t (xs ++ ys))
then_told a b xs ys (Ok t) told h = told_both told h
then_told a b xs ys (Err e) told h = h

-- a part of this size, and those behind it
pub cut_one : {E : Type 0} (role : Role) (part : KeyPart) (n : ℕ) (sizes : List (KeyPart × ℕ)) (a b : Telling) (r : Result Telling E) (o first rest : List ℕ) → first ≡ take n o → rest ≡ drop n o → Tells a b ((meaning.Key role part is first) ∷ []) → IfOk r (λ t. Tells b t (cut role sizes rest)) → IfOk r (λ t. Tells a t (cut role ((part, n) ∷ sizes) o))
cut_one role part n sizes a b r o first rest e f told h =
    then_told a b ((meaning.Key role part is take n o) ∷ []) (cut role sizes (drop n o)) r
    (subst (λ (l : List ℕ). Tells a b ((meaning.Key role part is l) ∷ [])) e told)
    (subst (λ (l : List ℕ). IfOk r (λ t. Tells b t (cut role sizes l))) f h)

abbrev pub six_sizes : List (KeyPart × ℕ)
six_sizes = (key.Version, 1) ∷ (key.Created, 4) ∷ (key.Algorithm, 1) ∷ (key.MaterialLength, 4) ∷ []

not_four : (version : ℕ) (b : Bool) → (version == 4) ≡ b → (version ≡ 4 → ⊥) → (if b then (key.Version, 1) ∷ (key.Created, 4) ∷ (key.Algorithm, 1) ∷ [] else six_sizes) ≡ six_sizes
not_four version true e none = absurd (none (eqb-true version 4 e))
not_four version false e none = refl

pub sizes_six : (version : ℕ) → (version ≡ 4 → ⊥) → key_sizes version ≡ six_sizes
sizes_six version none = not_four version (version == 4) refl none
