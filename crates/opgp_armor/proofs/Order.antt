-- The events of lines come in the order of blocks.
use Rattle.std.proofs.Common.{◌≡◌, ℕ, ◌==◌, Bool, true, false, List, [], ◌∷◌, ◌++◌, refl, ap, inl, inr, subst, Option, None, Some}
use Rattle.std.proofs.lemmas.Bool.{cases_Bool, eqb-true}
use Rattle.opgp_armor.specs.declared.label.Label.{Label}
use Rattle.opgp_armor.specs.declared.section.Section.{Section}
use Rattle.opgp_armor.specs.declared.section.Section.TheVariants.{Outside, Headers, Data, AfterChecksum}
use Rattle.opgp_armor.specs.declared.reader.Dearmor.{Dearmor}
use Rattle.opgp_armor.specs.Letters.{is_equals}
use Rattle.opgp_armor.specs.Text.{Line, content, begin_line}
use Rattle.opgp_armor.specs.Armored.{begins_with, is_dash, label_at, opened_by, after_content}
use Rattle.opgp_armor.specs.Events.{Event, AreInOrder}
use Rattle.opgp_armor.specs.Machine.{some_octets}
use Rattle.opgp_armor.specs.Shown.{begun, Standing, after_standing, at_start, LineMakes, Makes}
use Rattle.opgp_armor.specs.Fed.{Fed, events_so_far}
use Rattle.opgp_armor.proofs.Pushing.{shown}

is_inside : Section → Bool
is_inside Outside = false
is_inside (Headers label) = true
is_inside (Data label) = true
is_inside (AfterChecksum label) = true

begun_order : (o : Option Label) (rest : List Event) → AreInOrder (is_inside (opened_by o)) rest → AreInOrder false (begun o ++ rest)
unfolding is_inside
begun_order None rest r = r
begun_order (Some label) rest r = r

headers_inside : (label : Label) (c : List ℕ) → is_inside (after_content (Headers label) c) ≡ true
unfolding is_inside
headers_inside label [] = refl
headers_inside label (d ∷ c) = refl

no_equals : (c : List ℕ) → begins_with is_dash c ≡ true → begins_with is_equals c ≡ false
no_equals [] h = cc
no_equals (d ∷ c) h = ap (λ (v : ℕ). v == 61) (eqb-true d 45 h)

octets_order : (o : List ℕ) (rest : List Event) → AreInOrder true rest → AreInOrder true (some_octets o ++ rest)
octets_order [] rest r = r
octets_order (x ∷ o) rest r = r

line_order : (limit : ℕ) (section : Section) (letters : List ℕ) (l : Line) (here rest : List Event) → LineMakes limit section letters l here → AreInOrder (is_inside (after_content section (content l))) rest
    → AreInOrder (is_inside section) (here ++ rest)
unfolding is_inside
line_order limit Outside letters l here rest made r = rw made (begun_order (label_at begin_line (content l)) rest r)
line_order limit (Headers label) letters l here rest (inl made) r =
    rw made.1 (subst (λ (b : Bool). AreInOrder b rest) (headers_inside label (content l)) r)
line_order limit (Headers label) letters l here rest (inr made) r =
    rw made.2 (subst (λ (b : Bool). AreInOrder b rest) (headers_inside label (content l)) r)
line_order limit (Data label) letters l here rest (inl made) r = rw made.1 (rw made.0 at r)
line_order limit (Data label) letters l here rest (inr (inl made)) r = rw made.1 (rw (no_equals (content l) made.0, made.0) at r)
line_order limit (Data label) letters l here rest (inr (inr made)) r = rw made.2.made (octets_order made.2.more rest (rw (made.0, made.1) at r))
line_order limit (AfterChecksum label) letters l here rest made r = elim (cases_Bool (begins_with is_dash (content l))) [
  | inl y ↦ rw (made, y) (rw y at r)
  | inr n ↦ rw (made, n) (rw n at r)
]

makes_order : (limit : ℕ) (s : Standing) (ls : List Line) (events : List Event) → Makes limit s ls events → AreInOrder (is_inside s.section) events
makes_order limit s [] events made = rw made tt
makes_order limit s (l ∷ ls) events made =
    rw made.2 (line_order limit s.section s.letters l made.0 made.1 made.3 (makes_order limit (after_standing s l) ls made.1 made.4))

pub in_order : (d : Dearmor) (given : List ℕ) (taken : List Event) → Fed d given taken → AreInOrder false (events_so_far d taken)
unfolding is_inside
in_order d given taken fed = let s = shown d given taken fed in makes_order d.limit at_start s.front (events_so_far d taken) s.made
