-- Which certifications the primary key has revoked.
use Rattle.std.proofs.Common.{◌≡◌, ◌∙◌, ℕ, nat_le, nat_lt, List, [], ◌∷◌, ◌++◌, map, Bool, true, false, not, ◌&&◌, ◌||◌, Option, Some, None, is_some, refl, sym, ap, subst, arith, max}
use Rattle.std.specs.List.{filter, fold, list_any}
use Rattle.std.specs.Option.{option_map}
use Rattle.std.proofs.lemmas.Bool.{or_parts}
use Rattle.std.proofs.lemmas.Bool.Decides.{nat_tests}
use Rattle.std.proofs.lemmas.List.{map-append}
use Rattle.opgp_valid.specs.Group.{certifies, is_certification_on, is_primary, is_the}
use Rattle.opgp_valid.specs.Revoking.{has, has_made, marked, nothing_revoked, revoked_at, revoked_in, revoked_on, revokes_some, with_made, with_one}
use Rattle.opgp_valid.specs.State.{revokes_certification, revokes_identity}
use Rattle.opgp_valid.specs.Steps.{ArePast, HasPart, HasStep, part_shown}
use Rattle.opgp_valid.specs.Told.{is_older, is_revoked_among, is_revoked_by, is_same_number, with_revocations, with_revoked}
use Rattle.opgp_valid.specs.Walk.{is_on}
use Rattle.opgp_valid.specs.declared.revoking.RevokedOn.{RevokedOn}
use Rattle.opgp_valid.specs.declared.statement.Life.{Life}
use Rattle.opgp_valid.specs.declared.statement.Statement.{Statement}
use Rattle.opgp_valid.specs.declared.steps.Step.{Step}
use Rattle.opgp_valid.specs.declared.steps.Steps.{Steps}
use Rattle.opgp_valid.proofs.Alike.{any_filter}
use Rattle.opgp_valid.proofs.Parts.{same_kept, then_fails}
use Rattle.opgp_valid.proofs.Sayings.{or_assoc}

-- ---- where none is revoked
some_by : (a b c : Bool) → (a && b) ≡ false → (a && (b && c)) ≡ false
some_by true true c e = absurd (cc e)
some_by true false c e = refl
some_by false b c e = refl

none_by : (ss : List Statement) (s : Statement) → list_any revokes_some ss ≡ false → list_any (is_revoked_by s) ss ≡ false
none_by [] s e = refl
none_by (r ∷ ss) s e =
    let h = or_parts (revokes_some r) (list_any revokes_some ss) e in
    rw (some_by (revokes_certification r.kind) (is_primary r.author) (is_same_number r.component s.component && not (is_older r.life s.life)) h.0) (none_by ss s h.1)

and_none : (a b : Bool) → b ≡ false → (a && b) ≡ false
and_none true b e = e
and_none false b e = refl

none_marked : (all ss : List Statement) → list_any revokes_some all ≡ false → list_any (λ s. s.is_revoked) ss ≡ false → map (λ s. with_revoked (is_revoked_among all s) s) ss ≡ ss
none_marked all [] e f = refl
none_marked all (s ∷ ss) e f =
    let h = or_parts s.is_revoked (list_any (λ (r : Statement). r.is_revoked) ss) f in
    let among : is_revoked_among all s ≡ s.is_revoked = and_none (is_certification_on s) (list_any (is_revoked_by s) all) (none_by all s e) ∙ sym h.0 in
    ap (λ (t : Bool). with_revoked t s ∷ map (λ r. with_revoked (is_revoked_among all r) r) ss) among
    ∙ ap (λ (l : List Statement). s ∷ l) (none_marked all ss e h.1)

pub none_revoked : (ss : List Statement) → list_any revokes_some ss ≡ false → list_any (λ s. s.is_revoked) ss ≡ false → ss ≡ with_revocations ss
none_revoked ss e f = sym (none_marked ss ss e f)

-- ---- by what was found of a component
abbrev made_in : Option Life → Option ℕ
made_in life = option_map (λ (l : Life). l.made) life

le_not : (k m : ℕ) → nat_le k m ≡ not (nat_lt m k)
le_not k m = grind (arith, nat_tests)

le_max : (k u m : ℕ) → nat_le k (max u m) ≡ (nat_le k u || not (nat_lt m k))
le_max k u m = grind (arith, nat_tests)

or_true : (a : Bool) → true ≡ (a || true)
or_true true = refl
or_true false = refl

or_false : (a : Bool) → a ≡ (a || false)
or_false true = refl
or_false false = refl

abbrev both : Bool → Option ℕ → RevokedOn
both all until = record { all = all; until = until }

has_one_more : (all : Bool) (until : Option ℕ) (a b : Option Life) → has_made (with_made (both all until) (made_in a)) (with_made (both all until) (made_in a)).until (made_in b) ≡ (has_made (both all until) until (made_in b) || not (is_older a b))
has_one_more all None None None = or_true (all || false)
has_one_more all None None (Some b) = or_true (all || false)
has_one_more all (Some u) None None = or_true (all || true)
has_one_more all (Some u) None (Some b) = or_true (all || nat_le b.made u)
has_one_more true None (Some a) b = at b where
  at : (b : Option Life) → has_made (both true (Some a.made)) (Some a.made) (made_in b) ≡ true
  at None = refl
  at (Some b) = refl
has_one_more true (Some u) (Some a) None = refl
has_one_more true (Some u) (Some a) (Some b) = refl
has_one_more false None (Some a) None = refl
has_one_more false None (Some a) (Some b) = le_not b.made a.made
has_one_more false (Some u) (Some a) None = refl
has_one_more false (Some u) (Some a) (Some b) = le_max b.made u a.made

module _ (s : Statement) where
  has_all : (r : RevokedOn) (xs : List Statement) → has (fold with_one r xs) s ≡ (has r s || list_any (λ x. not (is_older x.life s.life)) xs)
  has_all r [] = or_false (has r s)
  has_all r (x ∷ xs) =
      has_all (with_one r x) xs
      ∙ ap (λ (t : Bool). t || list_any (λ y. not (is_older y.life s.life)) xs) (has_one_more r.all r.until x.life s.life)
      ∙ or_assoc (has r s) (not (is_older x.life s.life)) (list_any (λ y. not (is_older y.life s.life)) xs)

the_same : (n : ℕ) (o : Option ℕ) → is_the n o ≡ is_same_number o (Some n)
the_same n None = refl
the_same n (Some m) = refl

shuffled : (a b c d : Bool) → ((a && (b && c)) && d) ≡ (a && (c && (b && d)))
shuffled true true true d = refl
shuffled true true false d = refl
shuffled true false true d = refl
shuffled true false false d = refl
shuffled false b c d = refl

any_agree : (p q : Statement → Bool) → ((x : Statement) → p x ≡ q x) → (xs : List Statement) → list_any p xs ≡ list_any q xs
any_agree p q h [] = refl
any_agree p q h (x ∷ xs) = rw (h x, any_agree p q h xs) refl

module _ (ss : List Statement) (s : Statement) where
  has_revoked : (n : ℕ) → s.component ≡ Some n → has (revoked_on ss (Some n)) s ≡ list_any (is_revoked_by s) ss
  has_revoked n e =
      has_all s nothing_revoked (filter (revokes_identity n) ss)
      ∙ any_filter (revokes_identity n) (λ x. not (is_older x.life s.life)) ss
      ∙ any_agree (λ x. revokes_identity n x && not (is_older x.life s.life)) (is_revoked_by s) same ss where
        same : (x : Statement) → (revokes_identity n x && not (is_older x.life s.life)) ≡ is_revoked_by s x
        same x =
            shuffled (revokes_certification x.kind) (is_the n x.component) (is_primary x.author) (not (is_older x.life s.life))
            ∙ ap (λ (t : Bool). revokes_certification x.kind && (is_primary x.author && (t && not (is_older x.life s.life)))) (the_same n x.component ∙ ap (is_same_number x.component) (sym e))

  never : (t a b : Bool) → ((t && false) && a) ≡ ((t && false) && b)
  never true a b = refl
  never false a b = refl

  mark : (o : Option ℕ) → s.component ≡ o → ((certifies s.kind && is_some o) && has (revoked_on ss o) s) ≡ ((certifies s.kind && is_some o) && list_any (is_revoked_by s) ss)
  mark None e = never (certifies s.kind) (has (revoked_on ss None) s) (list_any (is_revoked_by s) ss)
  mark (Some n) e = ap (λ (t : Bool). (certifies s.kind && true) && t) (has_revoked n e)

  marked_is : marked (revoked_on ss s.component) s ≡ with_revoked (is_revoked_among ss s) s
  marked_is = ap (λ (t : Bool). with_revoked t s) (mark s.component refl)

-- ---- on the way
-- those that were passed are marked, by what was found of the component that was come to
pub record AreMarked (ss : List Statement) (steps : Steps) (revoked : RevokedOn) (found : List Statement) : Type 0 where
  pub done : List Statement
  pub past : ArePast ss done steps
  pub here : revoked ≡ revoked_on ss steps.component
  pub marks : found ≡ map (λ s. with_revoked (is_revoked_among ss s) s) done

module _ (ss : List Statement) where
  pub marked_none : (steps : Steps) (found : List Statement) → ArePast ss [] steps → steps.component ≡ None → found ≡ [] → AreMarked ss steps nothing_revoked found
  marked_none steps found past none empty = record { done = []; past = past; here = sym (ap (revoked_on ss) none); marks = empty }

  revoked_of_part : (before component : Option ℕ) (part : Option (List Statement)) → HasPart ss before component part → revoked_in (revoked_on ss before) component part ≡ revoked_on ss component
  revoked_of_part before component None h = ap (revoked_on ss) (sym h)
  revoked_of_part before None (Some part) h = refl
  revoked_of_part before (Some n) (Some part) h = ap (fold with_one nothing_revoked) (same_kept (revokes_identity n) (is_on n) (λ s f. then_fails _ (is_the n s.component) _ f) part ss (h n refl))

  marked_more : (from to : Steps) (step : Step) (revoked : RevokedOn) (found : List Statement) → AreMarked ss from revoked found → ((all done : List Statement) → ArePast all done from → HasStep all done from step to) → AreMarked ss to (revoked_at revoked step) (found ++ marked (revoked_at revoked step) step.statement.now ∷ [])
  marked_more from to step revoked found h stepped =
      let s : Statement = step.statement.now in
      let w : HasStep ss h.done from step to = stepped ss h.done h.past in
      let now : revoked_at revoked step ≡ revoked_on ss s.component = ap (λ (r : RevokedOn). revoked_in r s.component (part_shown step)) h.here ∙ revoked_of_part from.component s.component (part_shown step) w.part in
      record {
        done = h.done ++ s ∷ [];
        past = w.passed;
        here = now ∙ ap (revoked_on ss) (sym w.component);
        marks =
            ap (λ (l : List Statement). l ++ marked (revoked_at revoked step) s ∷ []) h.marks
            ∙ ap (λ (r : RevokedOn). map (λ x. with_revoked (is_revoked_among ss x) x) h.done ++ marked r s ∷ []) now
            ∙ ap (λ (x : Statement). map (λ y. with_revoked (is_revoked_among ss y) y) h.done ++ x ∷ []) (marked_is ss s)
            ∙ sym (map-append (λ x. with_revoked (is_revoked_among ss x) x) h.done (s ∷ []));
      }

  -- with the one that is pushed
  pub marked_pushed : (from to : Steps) (step : Step) (revoked now : RevokedOn) (found pushed : List Statement) (one : Statement) → AreMarked ss from revoked found → ((all done : List Statement) → ArePast all done from → HasStep all done from step to) → now ≡ revoked_at revoked step → one ≡ marked now step.statement.now → pushed ≡ found ++ one ∷ [] → AreMarked ss to now pushed
  marked_pushed from to step revoked now found pushed one h stepped r m p =
      subst (λ (l : List Statement). AreMarked ss to now l) (sym p)
      (subst (λ (x : Statement). AreMarked ss to now (found ++ x ∷ [])) (sym m)
      (subst (λ (q : RevokedOn). AreMarked ss to q (found ++ marked q step.statement.now ∷ [])) (sym r) (marked_more from to step revoked found h stepped)))

  pub marked_all : (steps : Steps) (revoked : RevokedOn) (found : List Statement) → AreMarked ss steps revoked found → ((all done : List Statement) → ArePast all done steps → done ≡ all) → found ≡ with_revocations ss
  marked_all steps revoked found h ended = h.marks ∙ ap (map (λ s. with_revoked (is_revoked_among ss s) s)) (ended ss h.done h.past)
