-- Which events lines yield, by their section and by the letters of their block so far.
use Rattle.std.specs.Prelude.{◌≡◌, ℕ, true, false, ◌⊎◌, if◌then◌else◌, List, [], ◌∷◌, ◌++◌}
use Rattle.std.specs.declared.option.Option.{Option}
use Rattle.std.specs.declared.option.Option.TheVariants.{None, Some}
use Rattle.opgp_armor.specs.declared.label.Label.{Label}
use Rattle.opgp_armor.specs.declared.section.Section.{Section}
use Rattle.opgp_armor.specs.declared.section.Section.TheVariants as sections
use Rattle.opgp_armor.specs.Letters.{is_equals, IsBase64, groups_of}
use Rattle.opgp_armor.specs.Rules.{LineRule}
use Rattle.opgp_armor.specs.Text.{Line, content, begin_line}
use Rattle.opgp_armor.specs.Armored.{IsHeader, begins_with, is_dash, label_at, after_content, Opens}
use Rattle.opgp_armor.specs.Events.{Event, Begin, Header, End}
use Rattle.opgp_armor.specs.Machine.{some_octets}

-- the section of a line, and the letters of its block's data lines before it
pub record Standing : Type 0 where
  pub section : Section
  pub letters : List ℕ

abbrev pub letters_after : Section → List ℕ → List ℕ → List ℕ
letters_after sections.Outside letters c = []
letters_after (sections.Headers label) letters c = []
letters_after (sections.Data label) letters c = letters ++ c
letters_after (sections.AfterChecksum label) letters c = []

abbrev pub after_standing : Standing → Line → Standing
after_standing s l = record {
  section = after_content s.section (content l);
  letters = letters_after s.section s.letters (content l);
}

abbrev pub begun : Option Label → List Event
begun None = []
begun (Some label) = Begin label ∷ []

-- a data line yields the octets of the groups of four that it completes
pub record EndsGroups (letters c : List ℕ) (events : List Event) : Type 0 where
  pub before : List ℕ
  pub more : List ℕ
  pub were : IsBase64 (groups_of letters) before
  pub are : IsBase64 (groups_of (letters ++ c)) (before ++ more)
  pub made : events ≡ some_octets more

-- One line of a text yields one event or none.
abbrev pub LineMakes : ℕ → Section → List ℕ → Line → List Event → Type 0
LineMakes limit sections.Outside letters l events = events ≡ begun (label_at begin_line (content l))
LineMakes limit (sections.Headers label) letters l events =
    ((content l ≡ []) × (events ≡ []))
    ⊎ ((header : List ℕ × List ℕ) × IsHeader limit l header
    × (events ≡ Header header.0 header.1 ∷ []))
LineMakes limit (sections.Data label) letters l events =
    ((begins_with is_equals (content l) ≡ true) × (events ≡ []))
    ⊎ ((begins_with is_dash (content l) ≡ true) × (events ≡ End ∷ []))
    ⊎ ((begins_with is_equals (content l) ≡ false) × (begins_with is_dash (content l) ≡ false)
    × EndsGroups letters (content l) events)
LineMakes limit (sections.AfterChecksum label) letters l events =
    events ≡ (if begins_with is_dash (content l) then End ∷ [] else [])

-- the lines yield these events, in order
abbrev pub Makes : ℕ → Standing → List Line → List Event → Type 0
Makes limit s [] events = events ≡ []
Makes limit s (l ∷ ls) events =
    (here : List Event) × (rest : List Event) × (events ≡ here ++ rest)
    × LineMakes limit s.section s.letters l here × Makes limit (after_standing s l) ls rest

abbrev pub at_start : Standing
at_start = record { section = sections.Outside; letters = [] }

-- The events of the longest list of first lines that an armored text begins with.
pub record Shown (rule : LineRule) (ls : List Line) (events : List Event) : Type 0 where
  pub front : List Line
  pub back : List Line
  pub are : ls ≡ front ++ back
  pub opens : Opens rule front
  pub longest : (l : Line) (more : List Line) → back ≡ l ∷ more → Opens rule (front ++ l ∷ []) → ⊥
  pub made : Makes rule.most at_start front events
