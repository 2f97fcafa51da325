-- The numbers of beliefs at several places.
use Rattle.std.proofs.Common.{◌≡◌, ◌∙◌, ◌≤◌, ℕ, arith, length, Result, Ok, Err, List, [], ◌∷◌, ◌++◌, Option, Some, None, Bool, ap, append_assoc, map, refl, sym}
use Rattle.std.proofs.lemmas.List.{append-nil}
use Rattle.std.specs.Global.{Vec}
use Rattle.std.specs.Option.{option_map}
use Rattle.std.specs.Prelude.{IfOk}
use Rattle.opgp_packet.specs.SignatureBody.{SignatureValue}
use Rattle.opgp_keyring.specs.Keyring.{KeyringValue}
use Rattle.opgp_valid.specs.Believed.{belief_of}
use Rattle.opgp_valid.specs.declared.believing.Belief.{Belief}
use Rattle.opgp_valid.specs.declared.judgement.KeyPlace.{KeyPlace}
use Rattle.opgp_valid.specs.declared.policy.Policy.{Policy}
use Rattle.opgp_handles.specs.Standings.{all_some, belief_number, believed_at, believed_in, number_over, place_of, verdict_by}
use Rattle.opgp_handles.specs.declared.place_row.PlaceRow.{PlaceRow}

-- all are those so far, and those that are to come
abbrev pub SomeSoFar : List ℕ → List (Option ℕ) → List (Option ℕ) → Type 0
SomeSoFar found left all = all_some all ≡ option_map (λ ns. found ++ ns) (all_some left)

same_if : (o : Option (List ℕ)) → o ≡ option_map (λ ns. [] ++ ns) o
same_if None = refl
same_if (Some ns) = refl

pub none_so_far : (all : List (Option ℕ)) → SomeSoFar [] all all
none_so_far all = same_if (all_some all)

one_more : (found : List ℕ) (n : ℕ) (o : Option (List ℕ)) → option_map (λ ns. found ++ ns) (option_map (λ ns. n ∷ ns) o) ≡ option_map (λ ns. (found ++ n ∷ []) ++ ns) o
one_more found n None = refl
one_more found n (Some ns) = ap Some (sym (append_assoc found (n ∷ []) ns))

pub some_more : (found grown : List ℕ) (n : ℕ) (o : Option ℕ) (left rest all : List (Option ℕ)) → SomeSoFar found left all → left ≡ o ∷ rest → o ≡ Some n → grown ≡ found ++ n ∷ [] → SomeSoFar grown rest all
some_more found grown n o left rest all so e is g =
    so ∙ ap (λ l. option_map (λ ns. found ++ ns) (all_some l)) (e ∙ ap (λ x. x ∷ rest) is) ∙ one_more found n (all_some rest)
    ∙ ap (λ (f : List ℕ). option_map (λ ns. f ++ ns) (all_some rest)) (sym g)

pub some_stops : (found : List ℕ) (o : Option ℕ) (left rest all : List (Option ℕ)) → SomeSoFar found left all → left ≡ o ∷ rest → o ≡ None → None ≡ all_some all
some_stops found o left rest all so e is = sym (so ∙ ap (λ l. option_map (λ ns. found ++ ns) (all_some l)) (e ∙ ap (λ x. x ∷ rest) is))

pub some_end : (found : List ℕ) (left all : List (Option ℕ)) → SomeSoFar found left all → left ≡ [] → Some found ≡ all_some all
some_end found left all so e = sym (so ∙ ap (λ l. option_map (λ ns. found ++ ns) (all_some l)) e ∙ ap Some (append-nil found))

-- those of the beliefs at the places of rows
of_rows : (is_message : Bool) (r : KeyringValue) (policy : Policy) (founds : List ℕ) (now : ℕ) (v : SignatureValue) (rows : List PlaceRow)
    → map (λ b. number_over is_message v (belief_number b)) (map (λ at. belief_of r policy (map verdict_by founds) at now v) (map place_of rows))
    ≡ map (λ row. believed_in is_message r policy founds (place_of row) now (Some v)) rows
of_rows is_message r policy founds now v [] = refl
of_rows is_message r policy founds now v (row ∷ rows) = ap (λ l. believed_in is_message r policy founds (place_of row) now (Some v) ∷ l) (of_rows is_message r policy founds now v rows)

pub believed_rows : (is_message : Bool) (r : KeyringValue) (policy : Policy) (founds : List ℕ) (now : ℕ) (v : SignatureValue) (rows : List PlaceRow) (places : List KeyPlace) (beliefs : List Belief)
    → places ≡ map place_of rows → beliefs ≡ map (λ at. belief_of r policy (map verdict_by founds) at now v) places
    → all_some (map (λ b. number_over is_message v (belief_number b)) beliefs) ≡ believed_at is_message r policy founds rows now (Some v)
believed_rows is_message r policy founds now v rows places beliefs e f =
    ap (λ (bs : List Belief). all_some (map (λ b. number_over is_message v (belief_number b)) bs)) (f ∙ ap (λ (ps : List KeyPlace). map (λ at. belief_of r policy (map verdict_by founds) at now v) ps) e)
    ∙ ap all_some (of_rows is_message r policy founds now v rows)

-- where there are places, but no signature
pub none_at : (is_message : Bool) (r : KeyringValue) (policy : Policy) (founds : List ℕ) (rows : List PlaceRow) (now : ℕ) → 1 ≤ length rows → None ≡ believed_at is_message r policy founds rows now None
none_at is_message r policy founds [] now some = absurd (omega (arith, some))
none_at is_message r policy founds (row ∷ rows) now some = refl

-- what is found is also this
pub ok_same : {E : Type 0} (result : Result (Option (Vec ℕ)) E) (a b : Option (List ℕ)) → a ≡ b → IfOk result (λ found. option_map (λ v. v.items) found ≡ a) → IfOk result (λ found. option_map (λ v. v.items) found ≡ b)
ok_same (Ok found) a b e h = h ∙ e
ok_same (Err error) a b e h = tt
