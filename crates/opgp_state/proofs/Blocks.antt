-- What the signatures on each component say, apart from what is said on others.
use Rattle.std.proofs.Common.{rules, ◌≡◌, ◌∙◌, ◌++◌, ℕ, ◌+◌, ◌≤◌, ◌==◌, List, [], ◌∷◌, map, Bool, true, false, cond, Option, Some, None, is_none, is_some, Result, Ok, Err, refl, sym, ap, arith, append-nil, append_assoc}
use Rattle.std.specs.List.{fold, list_any}
use Rattle.std.specs.Option.{option_map}
use Rattle.std.proofs.lemmas.List.{map-append}
use Rattle.std.proofs.lemmas.List.Folds.{list_any-append}
use Rattle.std.proofs.lemmas.List.Sums.{fold-append}
use Rattle.opgp_octets.specs.declared.fault.BodyFault.{BodyFault}
use Rattle.opgp_packet.specs.SignatureBody.{SignatureValue, signature_at}
use Rattle.opgp_hash.specs.SignedValue.{signed_of}
use Rattle.opgp_hash.specs.declared.fingerprints.Fingerprint.{Fingerprint}
use Rattle.opgp_report.specs.declared.place.Place.{Place}
use Rattle.opgp_report.specs.declared.verifier.Verdict.{Verdict}
use Rattle.opgp_report.specs.Standing.{Standing, by_number, stands}
use Rattle.opgp_valid.specs.Group.{is_the}
use Rattle.opgp_valid.specs.KnownKeys.{issuer_among}
use Rattle.opgp_valid.specs.Told.{author_of, back_in, change_last, is_genuine, is_same_number, lives_in, second_key, stated, stated_by, statement_of, told, told_by, told_with, with_back, with_embedded}
use Rattle.opgp_valid.specs.declared.known_keys.Known.{Known}
use Rattle.opgp_valid.specs.declared.policy.Policy.{Policy}
use Rattle.opgp_valid.specs.declared.statement.Author.{Author}
use Rattle.opgp_valid.specs.declared.statement.Life.{Life}
use Rattle.opgp_valid.specs.declared.statement.Statement.{Statement}
use Rattle.opgp_valid.proofs.Renumbered.{to}
use Rattle.opgp_state.proofs.Heard.{or_false}

-- ---- rows on a component
-- a place on this component in place of its own
abbrev pub place_to : Option ℕ → Place → Place
place_to o p = record { certificate = p.certificate; component = o; hang = p.hang; nested = p.nested }

abbrev pub row_to : Option ℕ → Standing → Standing
row_to o s = stands s.site (place_to o s.place) s.subject s.body

abbrev pub move : Option ℕ → Standing × Verdict → Standing × Verdict
move o x = (row_to o x.0, x.1)

-- a statement with this life of the signature by the subkey
abbrev with_life : Option Life → Statement → Statement
with_life life st = record {
  kind = st.kind;
  component = st.component;
  is_on_user_id = st.is_on_user_id;
  hang = st.hang;
  author = st.author;
  is_understood = st.is_understood;
  doubt = st.doubt;
  life = st.life;
  key_lasts = st.key_lasts;
  has_flags = st.has_flags;
  uses = st.uses;
  is_main = st.is_main;
  is_revoked = st.is_revoked;
  back = life;
  reason = st.reason;
}

-- ---- lists
pub map_twice : {A B C : Type 0} (f : B → C) (g : A → B) (xs : List A) → map f (map g xs) ≡ map (λ x. f (g x)) xs
map_twice f g [] = refl
map_twice {A} {B} {C} f g (x ∷ xs) = ap (λ (l : List C). f (g x) ∷ l) (map_twice f g xs)

-- the last of those on a component is changed as on another
last_to : (o : Option ℕ) (f g : Statement → Statement) → ((s : Statement) → f (to o s) ≡ to o (g (to None s))) → (ss : List Statement) → change_last f (map (to o) ss) ≡ map (to o) (change_last g (map (to None) ss))
last_to o f g same [] = refl
last_to o f g same (s ∷ []) = ap (λ (x : Statement). x ∷ []) (same s)
last_to o f g same (s ∷ t ∷ ss) = ap (λ (l : List Statement). to o s ∷ l) (last_to o f g same (t ∷ ss))

-- ---- the same said on another component
same_number : (o : Option ℕ) → is_same_number o o ≡ true
same_number None = refl
same_number (Some n) = search rules

back_to : (o : Option ℕ) (p : Place) (life : Option Life) (s : Statement) → with_back (place_to o p) life (to o s) ≡ to o (with_back (place_to None p) life (to None s))
back_to o p life s = rw (same_number o) (step (s.hang == p.hang)) where
  step : (t : Bool) → cond t (to o (with_life life s)) (to o s) ≡ to o (cond t (to None (with_life life s)) (to None s))
  step true = refl
  step false = refl

module _ (known : List Known) (policy : Policy) (primary : Fingerprint) (revokers : List Fingerprint) where
  abbrev tell : List Statement → Standing × Verdict → List Statement
  tell before x = told known policy primary revokers before x

  abbrev state : Option ℕ → Standing → SignatureValue → List Statement
  state o s v = stated known policy primary revokers (place_to o s.place) s.subject v

  stated_to : (o : Option ℕ) (s : Standing) (v : SignatureValue) → state o s v ≡ map (to o) (state None s v)
  stated_to o s v = step (is_some (signed_of v)) (author_of known policy primary revokers (issuer_among known v)) where
    at_each : (a : Author) (lives : List (Option Life)) → map (statement_of known policy primary revokers (place_to o s.place) s.subject v a) lives ≡ map (to o) (map (statement_of known policy primary revokers (place_to None s.place) s.subject v a) lives)
    at_each a [] = refl
    at_each a (l ∷ ls) = ap (λ (ss : List Statement). statement_of known policy primary revokers (place_to o s.place) s.subject v a l ∷ ss) (at_each a ls)

    step : (t : Bool) (a : Option Author) → cond t (stated_by known policy primary revokers (place_to o s.place) s.subject v a) [] ≡ map (to o) (cond t (stated_by known policy primary revokers (place_to None s.place) s.subject v a) [])
    step true None = refl
    step true (Some a) = at_each a (lives_in v)
    step false a = refl

  to_to : (o : Option ℕ) (ss : List Statement) → map (to o) ss ≡ map (to o) (map (to None) ss)
  to_to o ss = sym (map_twice (to o) (to None) ss)

  chosen_to : (o : Option ℕ) (t : Bool) (a b c d : List Statement) → a ≡ map (to o) c → b ≡ map (to o) d → cond t a b ≡ map (to o) (cond t c d)
  chosen_to o true a b c d e f = e
  chosen_to o false a b c d e f = f

  embedded_to : (o : Option ℕ) (acc : List Statement) (s : Standing) (v : SignatureValue)
      → with_embedded known policy primary revokers (place_to o s.place) (second_key s.subject) v (map (to o) acc)
      ≡ map (to o) (with_embedded known policy primary revokers (place_to None s.place) (second_key s.subject) v (map (to None) acc))
  embedded_to o acc s v =
      let life : Option Life = back_in known policy primary (second_key s.subject) v in
      chosen_to o (is_the 0 s.place.nested) _ _ (change_last (with_back (place_to None s.place) life) (map (to None) acc)) (map (to None) acc)
      (last_to o (with_back (place_to o s.place) life) (with_back (place_to None s.place) life) (back_to o s.place life) acc) (to_to o acc)

  by_to : (o : Option ℕ) (acc : List Statement) (s : Standing) (v : SignatureValue)
      → told_by known policy primary revokers (row_to o s) v (map (to o) acc) ≡ map (to o) (told_by known policy primary revokers (row_to None s) v (map (to None) acc))
  by_to o acc s v = chosen_to o (is_none s.place.nested) _ _ (map (to None) acc ++ state None s v) (with_embedded known policy primary revokers (place_to None s.place) (second_key s.subject) v (map (to None) acc))
      (rw (to_to o acc, stated_to o s v) (sym (map-append (to o) (map (to None) acc) (state None s v)))) (embedded_to o acc s v)

  with_to : (o : Option ℕ) (acc : List Statement) (s : Standing) (found : Verdict) (r : Result SignatureValue BodyFault)
      → told_with known policy primary revokers (map (to o) acc) (row_to o s) found r ≡ map (to o) (told_with known policy primary revokers (map (to None) acc) (row_to None s) found r)
  with_to o acc s found (Err fault) = to_to o acc
  with_to o acc s found (Ok v) = chosen_to o (is_genuine s found v) _ _ (told_by known policy primary revokers (row_to None s) v (map (to None) acc)) (map (to None) acc) (by_to o acc s v) (to_to o acc)

  one_to : (o : Option ℕ) (acc : List Statement) (x : Standing × Verdict) → tell (map (to o) acc) (move o x) ≡ map (to o) (tell (map (to None) acc) (move None x))
  one_to o acc x = with_to o acc x.0 x.1 (signature_at x.0.body)

  -- what rows say on a component, they say on each
  pub all_to : (o : Option ℕ) (acc : List Statement) (rows : List (Standing × Verdict)) → fold tell (map (to o) acc) (map (move o) rows) ≡ map (to o) (fold tell (map (to None) acc) (map (move None) rows))
  all_to o acc [] = to_to o acc
  all_to o acc (x ∷ rows) =
      let next : List Statement = tell (map (to None) acc) (move None x) in
      ap (λ (l : List Statement). fold tell l (map (move o) rows)) (one_to o acc x)
      ∙ all_to o next rows
      ∙ ap (λ (l : List Statement). map (to o) (fold tell l (map (move None) rows))) (sym (one_to None acc x))

  -- ---- apart from what is said before
  -- no statement is on this component
  abbrev pub is_apart : Option ℕ → List Statement → Bool
  is_apart o ss = list_any (λ s. is_same_number s.component o) ss

  -- the last is changed where there is one on the component
  apart_last : (p : Place) (life : Option Life) (before acc : List Statement) → list_any (λ s. is_same_number s.component p.component) before ≡ false → change_last (with_back p life) (before ++ acc) ≡ before ++ change_last (with_back p life) acc
  apart_last p life [] acc e = refl
  apart_last p life (s ∷ []) [] e = rw (or_false (is_same_number s.component p.component) false e).0 refl
  apart_last p life (s ∷ []) (t ∷ acc) e = refl
  apart_last p life (s ∷ t ∷ before) acc e =
      ap (λ (l : List Statement). s ∷ l) (apart_last p life (t ∷ before) acc (or_false (is_same_number s.component p.component) (list_any (λ (x : Statement). is_same_number x.component p.component) (t ∷ before)) e).1)

  chosen_behind : (before : List Statement) (t : Bool) (a b c d : List Statement) → a ≡ before ++ c → b ≡ before ++ d → cond t a b ≡ before ++ cond t c d
  chosen_behind before true a b c d e f = e
  chosen_behind before false a b c d e f = f

  apart_by : (before acc : List Statement) (s : Standing) (v : SignatureValue) → list_any (λ x. is_same_number x.component s.place.component) before ≡ false
      → told_by known policy primary revokers s v (before ++ acc) ≡ before ++ told_by known policy primary revokers s v acc
  apart_by before acc s v e =
      let life : Option Life = back_in known policy primary (second_key s.subject) v in
      chosen_behind before (is_none s.place.nested) _ _ (acc ++ stated known policy primary revokers s.place s.subject v) (with_embedded known policy primary revokers s.place (second_key s.subject) v acc)
      (append_assoc before acc (stated known policy primary revokers s.place s.subject v))
      (chosen_behind before (is_the 0 s.place.nested) _ _ (change_last (with_back s.place life) acc) acc (apart_last s.place life before acc e) refl)

  apart_with : (before acc : List Statement) (s : Standing) (found : Verdict) (r : Result SignatureValue BodyFault) → list_any (λ x. is_same_number x.component s.place.component) before ≡ false
      → told_with known policy primary revokers (before ++ acc) s found r ≡ before ++ told_with known policy primary revokers acc s found r
  apart_with before acc s found (Err fault) e = refl
  apart_with before acc s found (Ok v) e = chosen_behind before (is_genuine s found v) _ _ (told_by known policy primary revokers s v acc) acc (apart_by before acc s v e) refl

  pub all_apart : (o : Option ℕ) (before acc : List Statement) (rows : List (Standing × Verdict)) → list_any (λ x. is_same_number x.component o) before ≡ false
      → fold tell (before ++ acc) (map (move o) rows) ≡ before ++ fold tell acc (map (move o) rows)
  all_apart o before acc [] e = refl
  all_apart o before acc (x ∷ rows) e =
      ap (λ (l : List Statement). fold tell l (map (move o) rows)) (apart_with before acc (row_to o x.0) x.1 (signature_at x.0.body) e)
      ∙ all_apart o before (tell acc (move o x)) rows e

  -- ---- block by block
  -- what rows say, apart from their component
  abbrev pub says : List (Standing × Verdict) → List Statement
  says rows = fold (told known policy primary revokers) [] (map (move None) rows)

  -- nothing is said on this component or those behind it
  abbrev pub AreBefore : ℕ → List Statement → Type 0
  AreBefore n ss = (k : ℕ) → n ≤ k → list_any (λ x. is_same_number x.component (Some k)) ss ≡ false

  own_before : (ss : List Statement) → AreBefore 0 (map (to None) ss)
  own_before [] k le = refl
  own_before (s ∷ ss) k le = own_before ss k le

  other_number : (n k : ℕ) → n + 1 ≤ k → (n == k) ≡ false
  other_number n k le = grind arith

  on_others : (n k : ℕ) → n + 1 ≤ k → (ss : List Statement) → list_any (λ x. is_same_number x.component (Some k)) (map (to (Some n)) ss) ≡ false
  on_others n k le [] = refl
  on_others n k le (s ∷ ss) = rw (other_number n k le) (on_others n k le ss)

  next_before : (n : ℕ) (before ss : List Statement) → AreBefore n before → AreBefore (n + 1) (before ++ map (to (Some n)) ss)
  next_before n before ss h k le = list_any-append (λ x. is_same_number x.component (Some k)) before (map (to (Some n)) ss) ∙ rw (h k (omega (arith, le)), on_others n k le ss) refl

  pub blocks : {A : Type 0} (rows : A → List (Standing × Verdict)) (n : ℕ) (before : List Statement) (parts : List A) → AreBefore n before
      → fold tell before (by_number (λ k x. map (move (Some k)) (rows x)) n parts) ≡ before ++ by_number (λ k x. map (to (Some k)) (says (rows x))) n parts
  blocks rows n before [] h = sym (append-nil before)
  blocks {A} rows n before (x ∷ parts) h =
      let here : List Statement = map (to (Some n)) (says (rows x)) in
      let rest : List (Standing × Verdict) = by_number (λ (k : ℕ) (y : A). map (move (Some k)) (rows y)) (n + 1) parts in
      fold-append tell before (map (move (Some n)) (rows x)) rest
      ∙ ap (λ (l : List Statement). fold tell l rest)
      (ap (λ (l : List Statement). fold tell l (map (move (Some n)) (rows x))) (sym (append-nil before))
      ∙ all_apart (Some n) before [] (rows x) (h n (omega arith))
      ∙ ap (λ (l : List Statement). before ++ l) (all_to (Some n) [] (rows x)))
      ∙ blocks rows (n + 1) (before ++ here) parts (next_before n before (says (rows x)) h)
      ∙ append_assoc before here (by_number (λ (k : ℕ) (y : A). map (to (Some k)) (says (rows y))) (n + 1) parts)

  -- what is said on the primary key, and then on each component
  pub all_blocks : {A : Type 0} (own : List (Standing × Verdict)) (rows : A → List (Standing × Verdict)) (parts : List A)
      → fold tell [] (map (move None) own ++ by_number (λ k x. map (move (Some k)) (rows x)) 0 parts) ≡ map (to None) (says own) ++ by_number (λ k x. map (to (Some k)) (says (rows x))) 0 parts
  all_blocks {A} own rows parts =
      fold-append tell [] (map (move None) own) (by_number (λ (k : ℕ) (x : A). map (move (Some k)) (rows x)) 0 parts)
      ∙ ap (λ (l : List Statement). fold tell l (by_number (λ (k : ℕ) (x : A). map (move (Some k)) (rows x)) 0 parts)) (all_to None [] own)
      ∙ blocks rows 0 (map (to None) (says own)) parts (own_before (says own))
