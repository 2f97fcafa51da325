-- What has been told, with one more entry met.
use Rattle.std.proofs.Common.{◌≡◌, ◌∙◌, ℕ, Bool, true, false, cond, not, List, [], ◌∷◌, ◌++◌, map, Option, Some, None, refl, sym, ap, is_some}
use Rattle.std.specs.Prelude.{◌&&◌, ◌||◌}
use Rattle.std.specs.BTreeMap.{is_at}
use Rattle.std.specs.BTreeSet.{BTreeSet, contains_by}
use Rattle.std.specs.List.{filter, list_any}
use Rattle.std.specs.Option.{option_and_then}
use Rattle.std.proofs.lemmas.List.{map-append}
use Rattle.std.proofs.lemmas.List.Elements.{filter_agree}
use Rattle.opgp_difference.specs.Difference.{firsts, is_told}
use Rattle.opgp_difference.specs.Entries.{Entry, Name, PlacedValue, Standing, is_in, same_entry, stands_at}
use Rattle.opgp_difference.specs.Telling.{HasTold, lacking, lacks}
use Rattle.opgp_difference.specs.Tree.{HasEntries, Key, Tree, child, key_cmp, node_of}
use Rattle.opgp_difference.proofs.Members.{and_false, in_more, passing_more}
use Rattle.opgp_difference.proofs.Noting.{same_key, tail_same}

-- ---- entries that aren't told
pub not_above : (t : Tree) (n : Name) (e : Entry) → node_of t e ≡ None → lacks t (n ∷ e) ≡ false
not_above t n e is = ap (λ (o : Option ℕ). not (is_some (node_of t (n ∷ e))) && is_some o) is ∙ and_false (not (is_some (node_of t (n ∷ e))))

pub node_is : (t : Tree) (n : Name) (e : Entry) (o : Option ℕ) → node_of t e ≡ o → node_of t (n ∷ e) ≡ option_and_then (λ above. child t above n) o
node_is t n e o is = ap (option_and_then (λ above. child t above n)) is

pub has_it : (t : Tree) (n : Name) (e : Entry) (p v : ℕ) → node_of t e ≡ Some p → child t p n ≡ Some v → lacks t (n ∷ e) ≡ false
has_it t n e p v is found = ap (λ (o : Option ℕ). not (is_some o) && is_some (node_of t e)) (node_is t n e (Some p) is ∙ found)

pub lacks_it : (t : Tree) (n : Name) (e : Entry) (p : ℕ) → node_of t e ≡ Some p → child t p n ≡ None → lacks t (n ∷ e) ≡ true
lacks_it t n e p is none =
    ap (λ (o : Option ℕ). not (is_some o) && is_some (node_of t e)) (node_is t n e (Some p) is ∙ none) ∙ ap (λ (o : Option ℕ). is_some o) is

skipped : (a b : Bool) → a ≡ false → (a && b) ≡ false
skipped a b e = ap (λ (c : Bool). c && b) e

module _ (t : Tree) (old new : BTreeSet Key) (places : List PlacedValue) (met : List Standing) (has : HasTold t old places met) (unchanged : new.keys ≡ old.keys) where
  not_more : (x : Standing) → (lacks t x.entry && not (is_in (lacking t met) x.entry)) ≡ false → HasTold t new places (met ++ x ∷ [])
  not_more x fails =
      let same : lacking t (met ++ x ∷ []) ≡ lacking t met = passing_more (lacks t) met x ∙ ap (λ (b : Bool). cond b (lacking t met ++ x ∷ []) (lacking t met)) fails in
      record {
        tree = has.tree;
        packets = has.packets ∙ ap (map (λ s. s.placed)) (sym same);
        keyed = λ p e n is.
            ap (list_any (is_at (key_cmp p n))) unchanged ∙ has.keyed p e n is ∙ ap (λ (l : List Standing). is_in l (n ∷ e)) (sym same);
      }

  pub not_lacked : (n : Name) (e : Entry) (place : PlacedValue) → lacks t (n ∷ e) ≡ false → HasTold t new places (met ++ stands_at (n ∷ e) place ∷ [])
  not_lacked n e place fails = not_more (stands_at (n ∷ e) place) (skipped (lacks t (n ∷ e)) (not (is_in (lacking t met) (n ∷ e))) fails)

  pub told_before : (n : Name) (e : Entry) (place : PlacedValue) (p : ℕ) → node_of t e ≡ Some p → contains_by (key_cmp p n) old ≡ true → HasTold t new places (met ++ stands_at (n ∷ e) place ∷ [])
  told_before n e place p is there = not_more (stands_at (n ∷ e) place)
      (ap (λ (b : Bool). lacks t (n ∷ e) && not b) (sym (has.keyed p e n is) ∙ there) ∙ and_false (lacks t (n ∷ e)))

-- ---- one that is told
cond_or : (b c : Bool) → cond b true c ≡ (c || b)
cond_or true true = refl
cond_or true false = refl
cond_or false true = refl
cond_or false false = refl

pub told_now : (t : Tree) (old new : BTreeSet Key) (before after : List PlacedValue) (met : List Standing) → HasTold t old before met → (n : Name) (e : Entry) (place : PlacedValue) (p : ℕ)
    → node_of t e ≡ Some p → child t p n ≡ None → contains_by (key_cmp p n) old ≡ false → after ≡ before ++ place ∷ []
    → ((q : ℕ) (m : Name) → contains_by (key_cmp q m) new ≡ cond (same_key p n q m) true (contains_by (key_cmp q m) old))
    → HasTold t new after (met ++ stands_at (n ∷ e) place ∷ [])
told_now t old new before after met has n e place p is none absent longer updates =
    let x : Standing = stands_at (n ∷ e) place in
    let there : is_in (lacking t met) (n ∷ e) ≡ false = sym (has.keyed p e n is) ∙ absent in
    let more : lacking t (met ++ x ∷ []) ≡ lacking t met ++ x ∷ [] =
    passing_more (lacks t) met x
    ∙ ap (λ (b : Bool). cond (b && not (is_in (lacking t met) (n ∷ e))) (lacking t met ++ x ∷ []) (lacking t met)) (lacks_it t n e p is none)
    ∙ ap (λ (b : Bool). cond (not b) (lacking t met ++ x ∷ []) (lacking t met)) there in
    record {
      tree = has.tree;
      packets = longer ∙ ap (λ (l : List PlacedValue). l ++ place ∷ []) has.packets ∙ sym (map-append (λ s. s.placed) (lacking t met) (x ∷ [])) ∙ ap (map (λ s. s.placed)) (sym more);
      keyed = λ q f m known.
          updates q m
          ∙ ap (λ (b : Bool). cond b true (contains_by (key_cmp q m) old)) (tail_same t has.tree p n e is m f q known)
          ∙ ap (λ (b : Bool). cond (same_entry (m ∷ f) (n ∷ e)) true b) (has.keyed q f m known)
          ∙ cond_or (same_entry (m ∷ f) (n ∷ e)) (is_in (lacking t met) (m ∷ f))
          ∙ sym (in_more (lacking t met) x (m ∷ f))
          ∙ ap (λ (l : List Standing). is_in l (m ∷ f)) (sym more);
    }

-- ---- all of them
lacks_told : (t u : Tree) (others : List Standing) → HasEntries t others → ((f : Entry) → node_of u f ≡ node_of t f) → (e : Entry) → lacks u e ≡ is_told others e
lacks_told t u others has same [] = sym (and_false (not (is_in others [])))
lacks_told t u others has same (n ∷ []) = ap (λ (o : Option ℕ). not (is_some o) && true) (same (n ∷ [])) ∙ ap (λ (b : Bool). not b && true) (has.entries n [])
lacks_told t u others has same (n ∷ m ∷ e) =
    ap (λ (o : Option ℕ). not (is_some o) && is_some (node_of u (m ∷ e))) (same (n ∷ m ∷ e))
    ∙ ap (λ (b : Bool). not b && is_some (node_of u (m ∷ e))) (has.entries n (m ∷ e))
    ∙ ap (λ (o : Option ℕ). not (is_in others (n ∷ m ∷ e)) && is_some o) (same (m ∷ e))
    ∙ ap (λ (b : Bool). not (is_in others (n ∷ m ∷ e)) && b) (has.entries m e)

pub all_told : (t u : Tree) (others met : List Standing) (keys : BTreeSet Key) (places : List PlacedValue) → HasEntries t others → ((f : Entry) → node_of u f ≡ node_of t f) → HasTold u keys places met
    → places ≡ map (λ s. s.placed) (filter (λ s. is_told others s.entry) (firsts met))
all_told t u others met keys places has same told =
    told.packets ∙ ap (map (λ s. s.placed)) (filter_agree (λ s. lacks u s.entry) (λ s. is_told others s.entry) (λ s. lacks_told t u others has same s.entry) (firsts met))
