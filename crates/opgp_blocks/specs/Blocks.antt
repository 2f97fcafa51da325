-- The armored blocks in a text as mail programs meet it, and their cleaned texts.
use Rattle.std.specs.Prelude.{ℕ, ◌+◌, ◌-◌, if◌then◌else◌, List, [], ◌∷◌, ◌++◌, length, map}
use Rattle.std.specs.Prelude.{take}
use Rattle.std.specs.List.{flat_map}
use Rattle.opgp_blocks.specs.Line.{Shown, begins, ends, shown_from, shown_in}

-- The lines of a block behind its first: up to the first that ends a block, or to before the first
-- that begins another one.
unfoldable pub up_to_end : List Shown → List Shown
up_to_end [] = []
up_to_end (s ∷ ss) =
    if begins s.content then [] else if ends s.content then s ∷ [] else s ∷ up_to_end ss

-- each line that begins a block makes one
unfoldable pub blocks : List Shown → List (List Shown)
blocks [] = []
blocks (s ∷ ss) = if begins s.content then (s ∷ up_to_end ss) ∷ blocks ss else blocks ss

-- where the content of the last of these lines ends
abbrev pub end_of : Shown → List Shown → ℕ
end_of s [] = s.at + length s.content
end_of s (t ∷ ss) = end_of t ss

-- contents of lines, each with a line feed
abbrev pub cleaned : List Shown → List ℕ
cleaned ss = flat_map (λ (s : Shown). s.content ++ 10 ∷ []) ss

-- so many lines of a text, the first of which begins here
abbrev pub lines_from : ℕ → ℕ → List ℕ → List Shown
lines_from count at text = take count (shown_from at text)

-- a block: where it begins in its text, how many octets it has there, and its cleaned text
pub record FoundValue : Type 0 where
  pub at : ℕ
  pub size : ℕ
  pub octets : List ℕ

abbrev pub found_of : List Shown → FoundValue
found_of [] = record { at = 0; size = 0; octets = [] }
found_of (s ∷ ss) = record {
  at = s.at;
  size = end_of s ss - s.at;
  octets = cleaned (s ∷ ss);
}

abbrev pub found_among : List Shown → List FoundValue
found_among ss = map found_of (blocks ss)

-- the blocks of a text, in order
abbrev pub found_in : List ℕ → List FoundValue
found_in text = found_among (shown_in text)

-- their cleaned texts, one behind the other
abbrev pub octets_of : List FoundValue → List ℕ
octets_of fs = flat_map (λ (f : FoundValue). f.octets) fs

abbrev pub cleaned_in : List ℕ → List ℕ
cleaned_in text = octets_of (found_in text)
