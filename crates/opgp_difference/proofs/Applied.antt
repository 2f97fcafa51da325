-- What the difference of two keyrings does.
use Rattle.std.proofs.Common.{◌≡◌, ◌∙◌, Bool, true, false, not, List, [], ◌∷◌, refl, sym, ap}
use Rattle.std.specs.Prelude.{◌&&◌, ◌||◌}
use Rattle.std.specs.List.{filter}
use Rattle.opgp_keyring.specs.Keyring.{KeyringValue}
use Rattle.opgp_difference.specs.Difference.{applied, firsts, hangs_in, is_told, is_under, told}
use Rattle.opgp_difference.specs.Entries.{Entry, Standing, is_in, standing_in}
use Rattle.opgp_difference.proofs.Closed.{closed}
use Rattle.opgp_difference.proofs.Members.{and_true, in_append, in_filter, in_firsts, or_false}
use Rattle.opgp_difference.proofs.Same.{agree, entries_decide, false_true, true_false}

pub in_told : (r s : KeyringValue) (e : Entry) → is_in (told r s) e ≡ (is_in (standing_in s) e && is_told (standing_in r) e)
in_told r s e = in_filter (is_told (standing_in r)) (firsts (standing_in s)) e ∙ ap (λ (b : Bool). b && is_told (standing_in r) e) (in_firsts (standing_in s) e)

-- it lacks the entry, or what that hangs on
lacks_one : (has above : Bool) → (has ≡ true → above ≡ true) → ((not has && above) || not above) ≡ not has
lacks_one true true f = refl
lacks_one true false f = sym (f refl)
lacks_one false true f = refl
lacks_one false false f = refl

-- of what a keyring has, what the other lacks is at or under something that is told
pub under_told : (r s : KeyringValue) (e : Entry) → is_in (standing_in s) e ≡ true → is_under (told r s) e ≡ not (is_in (standing_in r) e)
under_told r s [] h = true_false (sym h ∙ (closed s).named)
under_told r s (n ∷ []) h =
    or_false (is_in (told r s) (n ∷ [])) ∙ in_told r s (n ∷ [])
    ∙ ap (λ (b : Bool). b && is_told (standing_in r) (n ∷ [])) h
    ∙ and_true (not (is_in (standing_in r) (n ∷ [])))
under_told r s (n ∷ m ∷ e) h =
    ap (λ (b : Bool). b || is_under (told r s) (m ∷ e)) (in_told r s (n ∷ m ∷ e) ∙ ap (λ (b : Bool). b && is_told (standing_in r) (n ∷ m ∷ e)) h)
    ∙ ap (λ (b : Bool). is_told (standing_in r) (n ∷ m ∷ e) || b) (under_told r s (m ∷ e) ((closed s).above n m e h))
    ∙ lacks_one (is_in (standing_in r) (n ∷ m ∷ e)) (is_in (standing_in r) (m ∷ e)) ((closed r).above n m e)

united : (old new gone fresh : Bool) → (old ≡ true → gone ≡ not new) → (new ≡ true → fresh ≡ not old) → ((old && not gone) || (new && fresh)) ≡ new
united true true gone fresh f g = ap (λ (b : Bool). not b || fresh) (f refl)
united true false gone fresh f g = ap (λ (b : Bool). not b || false) (f refl)
united false true gone fresh f g = g refl
united false false gone fresh f g = refl

pub applied_is : (old new : KeyringValue) (e : Entry) → is_in (applied old new) e ≡ is_in (standing_in new) e
applied_is old new e =
    in_append (filter (λ s. not (is_under (told new old) s.entry)) (standing_in old)) (filter (λ s. is_under (told old new) s.entry) (standing_in new)) e
    ∙ ap (λ (b : Bool). b || is_in (filter (λ s. is_under (told old new) s.entry) (standing_in new)) e) (in_filter (λ x. not (is_under (told new old) x)) (standing_in old) e)
    ∙ ap (λ (b : Bool). (is_in (standing_in old) e && not (is_under (told new old) e)) || b) (in_filter (λ x. is_under (told old new) x) (standing_in new) e)
    ∙ united (is_in (standing_in old) e) (is_in (standing_in new) e) (is_under (told new old) e) (is_under (told old new) e) (under_told new old e) (under_told old new e)

-- ---- nothing told
none_under : (e : Entry) → is_under [] e ≡ false
none_under [] = refl
none_under (n ∷ e) = none_under e

not_false : (b : Bool) → false ≡ not b → b ≡ true
not_false true e = refl
not_false false e = e

pub nothing_told : (old new : KeyringValue) (e : Entry) → told new old ≡ [] → told old new ≡ [] → is_in (standing_in old) e ≡ is_in (standing_in new) e
nothing_told old new e gone fresh = agree (is_in (standing_in old) e) (is_in (standing_in new) e)
    (λ h. not_false (is_in (standing_in new) e) (sym (none_under e) ∙ ap (λ (l : List Standing). is_under l e) (sym gone) ∙ under_told new old e h))
    (λ h. not_false (is_in (standing_in old) e) (sym (none_under e) ∙ ap (λ (l : List Standing). is_under l e) (sym fresh) ∙ under_told old new e h))

-- ---- nothing changed
empty : (l : List Standing) → ((e : Entry) → is_in l e ≡ false) → l ≡ []
empty [] f = refl
empty (s ∷ ss) f = true_false (sym (ap (λ (b : Bool). b || is_in ss s.entry) ((entries_decide s.entry s.entry).1 refl)) ∙ f s.entry)

none_changed : (old new above : Bool) → old ≡ new → (new && (not old && above)) ≡ false
none_changed true true above e = refl
none_changed true false above e = refl
none_changed false true above e = false_true e
none_changed false false above e = refl

pub nothing_changed : (old new : KeyringValue) → ((e : Entry) → is_in (standing_in old) e ≡ is_in (standing_in new) e) → told old new ≡ []
nothing_changed old new same = empty (told old new) (λ e. in_told old new e ∙ none_changed (is_in (standing_in old) e) (is_in (standing_in new) e) (hangs_in (standing_in old) e) (same e))
