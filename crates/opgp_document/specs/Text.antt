-- Canonical text (RFC 9580, 5.2.1.2 and 5.2.4): the lines of a document, each of which ends in a
-- carriage return and a line feed.
use Rattle.std.specs.Prelude.{◌≡◌, ◌≢◌, ◌==◌, ℕ, Bool, true, false, not, ◌&&◌, ◌||◌}
use Rattle.std.specs.Prelude.{if◌then◌else◌, List, [], ◌∷◌, ◌++◌, length, suc}
use Rattle.std.specs.List.{AllByRecursion}

-- A line that has ended, and whether it ended in a carriage return and a line feed, or in a line
-- feed alone.
pub record Line : Type 0 where
  pub octets : List ℕ
  pub has_cr : Bool

-- no carriage return (13), and no line feed (10)
abbrev pub IsPlain : List ℕ → Type 0
IsPlain octets = AllByRecursion (λ c. (c ≢ 13) × (c ≢ 10)) octets

-- the octets that end such a line
abbrev pub end_of : Bool → List ℕ
end_of true = 13 ∷ 10 ∷ []
end_of false = 10 ∷ []

-- the lines as they stand in a document ..
abbrev pub as_they_are : List Line → List ℕ
as_they_are [] = []
as_they_are (l ∷ ls) = l.octets ++ (end_of l.has_cr ++ as_they_are ls)

-- .. and each with the canonical end
abbrev pub canonical_lines : List Line → List ℕ
canonical_lines [] = []
canonical_lines (l ∷ ls) = l.octets ++ (13 ∷ 10 ∷ canonical_lines ls)

-- The document has these lines, and this behind the last line end, which may be nothing. In a
-- document of lines each carriage return is followed by a line feed.
pub record HasLines (document : List ℕ) (lines : List Line) (last : List ℕ) : Type 0 where
  pub each : AllByRecursion (λ l. IsPlain l.octets) lines
  pub rest : IsPlain last
  pub whole : document ≡ as_they_are lines ++ last

-- The canonical text of a document of lines. What is behind the last line end stays as it is. A
-- document where a carriage return isn't followed by a line feed has none.
pub record HasText (document text : List ℕ) : Type 0 where
  pub lines : List Line
  pub last : List ℕ
  pub has_lines : HasLines document lines last
  pub made : text ≡ canonical_lines lines ++ last

-- A carriage return that no line feed follows stands at this place, and there is none in front of
-- it: that is a document of lines.
pub record IsStrayAt (document : List ℕ) (place : ℕ) : Type 0 where
  pub front : List ℕ
  pub lines : List Line
  pub last : List ℕ
  pub has_lines : HasLines front lines last
  pub rest : List ℕ
  pub whole : document ≡ front ++ (13 ∷ rest)
  pub unlike : (more : List ℕ) → rest ≢ 10 ∷ more
  pub at : place ≡ length front

-- ---- the same, from the first octet to the last
-- what an octet becomes, by whether a carriage return comes before it
abbrev pub octet_as_text : Bool → ℕ → List ℕ
octet_as_text after_cr c = if (c == 10) && not after_cr then 13 ∷ 10 ∷ [] else c ∷ []

-- what the octets become, behind a carriage return or not
abbrev pub to_text : Bool → List ℕ → List ℕ
to_text after_cr [] = []
to_text after_cr (c ∷ octets) = octet_as_text after_cr c ++ to_text (c == 13) octets

-- the last octet, or that before them if there are none, is a carriage return
abbrev pub ends_cr : Bool → List ℕ → Bool
ends_cr after_cr [] = after_cr
ends_cr after_cr (c ∷ octets) = ends_cr (c == 13) octets

-- an octet that is no line feed comes behind a carriage return
abbrev pub has_stray : Bool → List ℕ → Bool
has_stray after_cr [] = false
has_stray after_cr (c ∷ octets) = (after_cr && not (c == 10)) || has_stray (c == 13) octets

-- how many octets stand in front of the first such octet, or all if there is none
abbrev pub before_stray : Bool → List ℕ → ℕ
before_stray after_cr [] = 0
before_stray after_cr (c ∷ octets) =
    if after_cr && not (c == 10) then 0 else suc (before_stray (c == 13) octets)
