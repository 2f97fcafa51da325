-- Where no reason applies, what a question needs holds.
use Rattle.std.proofs.Common.{◌≡◌, ℕ, Bool, true, false, cond, Option, Some, None, [], ◌∷◌, refl, sym, inl, inr, ◌==◌}
use Rattle.std.specs.Prelude.{find}
use Rattle.std.proofs.lemmas.Bool.{not-false, or_cases, and_parts, eqb-true}
use Rattle.opgp_octets.specs.HashAlgorithm.{hash_algorithm_of}
use Rattle.opgp_octets.specs.HashAlgorithm.{salt_size}
use Rattle.opgp_hash.specs.declared.why.Why.{Why}
use Rattle.opgp_hash.specs.declared.why.Why.TheVariants.{Kind, Misplaced, Version, Hash}
use Rattle.opgp_hash.specs.Asking.{applies, why_not}
use Rattle.opgp_hash.specs.QuestionValue.{is_hash, salt_amount}
use Rattle.opgp_hash.specs.SignedValue.{SignedValue}
use Rattle.opgp_hash.specs.SubjectValue.{SubjectValue, are_keys_of}

-- a search that found nothing passed over its first
none_first : {A : Type 0} (b : Bool) (x : A) (o : Option A) → cond b (Some x) o ≡ None → (b ≡ false) × (o ≡ None)
none_first true x o e = absurd cc
none_first false x o e = (refl, e)

pub record Passes (stands : Bool) (s : SignedValue) (subject : SubjectValue) : Type 0 where
  pub is : stands ≡ true
  pub keys : are_keys_of s.version subject ≡ true
  pub hash : is_hash s.version s.hash ≡ true

pub passed : (stands : Bool) (s : SignedValue) (subject : SubjectValue) → None ≡ why_not stands s subject → Passes stands s subject
passed stands s subject e =
    let test : Why → Bool = λ why. applies stands s subject why in
    let a = none_first (test Kind) Kind (find test (Misplaced ∷ Version ∷ Hash ∷ [])) (sym e) in
    let b = none_first (test Misplaced) Misplaced (find test (Version ∷ Hash ∷ [])) a.1 in
    let d = none_first (test Version) Version (find test (Hash ∷ [])) b.1 in
    let f = none_first (test Hash) Hash None d.1 in
    record { is = not-false _ b.0; keys = not-false _ d.0; hash = not-false _ f.0 }

-- in version 6 the salt of a hash algorithm with a digest has a known size
sized : (hash : ℕ) → is_hash 6 hash ≡ true → salt_size (hash_algorithm_of hash) ≡ Some (salt_amount 6 hash)
unfolding hash_algorithm_of
sized hash e =
    elim (or_cases (hash == 8) _ e) [
      | inl p ↦ rw (eqb-true hash 8 p) refl
      | inr q ↦ elim (or_cases (hash == 9) _ q) [
        | inl p ↦ rw (eqb-true hash 9 p) refl
        | inr r ↦ elim (or_cases (hash == 10) _ r) [
          | inl p ↦ rw (eqb-true hash 10 p) refl
          | inr s ↦ elim (or_cases (hash == 11) _ s) [ inl p ↦ rw (eqb-true hash 11 p) refl | inr p ↦ absurd (let q = (and_parts (hash == 2) (6 == 4) p).1 in cc) ]
        ]
      ]
    ]

pub salt_known : (hash n : ℕ) → ((m : ℕ) → salt_size (hash_algorithm_of hash) ≡ Some m → n ≡ m) → is_hash 6 hash ≡ true → n ≡ salt_amount 6 hash
salt_known hash n size e = size (salt_amount 6 hash) (sized hash e)
