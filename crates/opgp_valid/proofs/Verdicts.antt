-- What rows say whose verdict isn't good.
use Rattle.std.proofs.Common.{◌≡◌, ◌∙◌, ◌++◌, List, [], ◌∷◌, Bool, true, false, refl, ap, cond, Result, Ok, Err, is_none}
use Rattle.std.proofs.lemmas.Bool.{and_right}
use Rattle.std.specs.List.{filter, flat_map, fold}
use Rattle.opgp_hash.specs.declared.fingerprints.Fingerprint.{Fingerprint}
use Rattle.opgp_octets.specs.declared.fault.BodyFault.{BodyFault}
use Rattle.opgp_packet.specs.SignatureBody.{SignatureValue, signature_at}
use Rattle.opgp_report.specs.Standing.{Standing}
use Rattle.opgp_report.specs.declared.verifier.Verdict.{Verdict}
use Rattle.opgp_valid.specs.Laws.{has_good_verdict}
use Rattle.opgp_valid.specs.Told.{is_good_verdict, revokers_at, revokers_by, told, told_with}
use Rattle.opgp_valid.specs.declared.known_keys.Known.{Known}
use Rattle.opgp_valid.specs.declared.policy.Policy.{Policy}
use Rattle.opgp_valid.specs.declared.statement.Statement.{Statement}

-- what a test passes over may be left out, where it adds nothing
fold_by : {A B : Type 0} (p : A → Bool) (f : B → A → B) → ((b : B) (x : A) → p x ≡ false → f b x ≡ b) → (b : B) (xs : List A) → fold f b xs ≡ fold f b (filter p xs)
fold_by p f h b [] = refl
fold_by {A} {B} p f h b (x ∷ xs) = step (p x) refl (λ c. fold_by p f h c xs) where
  step : (t : Bool) → p x ≡ t → ((c : B) → fold f c xs ≡ fold f c (filter p xs)) → fold f (f b x) xs ≡ fold f b (cond t (x ∷ filter p xs) (filter p xs))
  step true e rest = rest (f b x)
  step false e rest = ap (λ c. fold f c xs) (h b x e) ∙ rest b

flat_by : {A B : Type 0} (p : A → Bool) (f : A → List B) → ((x : A) → p x ≡ false → f x ≡ []) → (xs : List A) → flat_map f xs ≡ flat_map f (filter p xs)
flat_by p f h [] = refl
flat_by {A} {B} p f h (x ∷ xs) = step (p x) refl (flat_by p f h xs) where
  step : (t : Bool) → p x ≡ t → flat_map f xs ≡ flat_map f (filter p xs) → f x ++ flat_map f xs ≡ flat_map f (cond t (x ∷ filter p xs) (filter p xs))
  step true e rest = ap (λ l. f x ++ l) rest
  step false e rest = ap (λ l. l ++ flat_map f xs) (h x e) ∙ rest

pub told_nothing : (known : List Known) (policy : Policy) (primary : Fingerprint) (revokers : List Fingerprint) (before : List Statement) (s : Standing) (found : Verdict) (r : Result SignatureValue BodyFault) → is_good_verdict found ≡ false → told_with known policy primary revokers before s found r ≡ before
told_nothing known policy primary revokers before s found (Err fault) e = refl
told_nothing known policy primary revokers before s found (Ok v) e = rw e refl

pub named_none : (known : List Known) (primary : Fingerprint) (s : Standing) (found : Verdict) (r : Result SignatureValue BodyFault) → is_good_verdict found ≡ false → revokers_by known primary s found r ≡ []
named_none known primary s found (Err fault) e = refl
named_none known primary s found (Ok v) e = rw (e, and_right (is_none s.place.nested) false refl) refl

says_nothing : (known : List Known) (policy : Policy) (primary : Fingerprint) (revokers : List Fingerprint) (before : List Statement) (x : Standing × Verdict) → has_good_verdict x ≡ false → told known policy primary revokers before x ≡ before
says_nothing known policy primary revokers before x e = told_nothing known policy primary revokers before x.0 x.1 (signature_at x.0.body) e

names_none : (known : List Known) (primary : Fingerprint) (x : Standing × Verdict) → has_good_verdict x ≡ false → revokers_at known primary x ≡ []
names_none known primary x e = named_none known primary x.0 x.1 (signature_at x.0.body) e

pub good_says : (known : List Known) (policy : Policy) (primary : Fingerprint) (revokers : List Fingerprint) (before : List Statement) (rows : List (Standing × Verdict)) → fold (told known policy primary revokers) before rows ≡ fold (told known policy primary revokers) before (filter has_good_verdict rows)
good_says known policy primary revokers before rows = fold_by has_good_verdict (told known policy primary revokers) (says_nothing known policy primary revokers) before rows

pub good_names : (known : List Known) (primary : Fingerprint) (rows : List (Standing × Verdict)) → flat_map (revokers_at known primary) rows ≡ flat_map (revokers_at known primary) (filter has_good_verdict rows)
good_names known primary rows = flat_by has_good_verdict (revokers_at known primary) (names_none known primary) rows
