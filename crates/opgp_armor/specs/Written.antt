-- Written armor (RFC 9580, 6.2): 64 letters a line, lines that end in a line feed, no checksum.
use Rattle.std.specs.Prelude.{◌≡◌, ℕ, ◌+◌, ◌/◌, ◌<◌, ◌≤◌, ◌==◌, zero, suc, Bool, false, List, []}
use Rattle.std.specs.Prelude.{◌∷◌, ◌++◌, length, map, take, drop}
use Rattle.std.specs.List.{list_any, flat_map, AllByRecursion}
use Rattle.opgp_armor.specs.declared.label.Label.{Label}
use Rattle.opgp_armor.specs.Letters.{base64_of}
use Rattle.opgp_armor.specs.Text.{Line, is_trailing, begin_line, end_line}
use Rattle.opgp_armor.specs.Armored.{is_colon}

-- each line with its line feed
abbrev pub text_of : List Line → List ℕ
text_of ls = flat_map (λ (l : Line). l ++ 10 ∷ []) ls

abbrev pub is_feed : ℕ → Bool
is_feed c = c == 10

abbrev pub ends_trailing : List ℕ → Bool
ends_trailing [] = false
ends_trailing (c ∷ []) = is_trailing c
ends_trailing (c ∷ d ∷ ds) = ends_trailing (d ∷ ds)

-- A header that can be written: a key that isn't empty and has neither a colon nor a line feed,
-- a value that has no line feed and doesn't end in a space, a tab or a carriage return.
pub record IsWritable (header : List ℕ × List ℕ) : Type 0 where
  pub named : 0 < length header.0
  pub plain : list_any is_colon header.0 ≡ false
  pub one_line_key : list_any is_feed header.0 ≡ false
  pub one_line_value : list_any is_feed header.1 ≡ false
  pub kept_end : ends_trailing header.1 ≡ false

abbrev pub AreWritable : List (List ℕ × List ℕ) → Type 0
AreWritable headers = AllByRecursion IsWritable headers

-- a key, a colon, a space, a value
abbrev pub header_line : List ℕ × List ℕ → Line
header_line header = header.0 ++ 58 ∷ 32 ∷ header.1

-- the first n lines of 64 letters; the last one may be shorter
abbrev pub rows : ℕ → List ℕ → List Line
rows zero letters = []
rows (suc n) letters = take 64 letters ∷ rows n (drop 64 letters)

unfoldable pub letter_lines : List ℕ → List Line
letter_lines letters = rows ((length letters + 63) / 64) letters

-- the data lines of octets: their letters, 64 a line
abbrev pub data_lines : List ℕ → List ℕ
data_lines octets = text_of (letter_lines (base64_of octets))

abbrev pub armor_lines : Label → List (List ℕ × List ℕ) → List ℕ → List Line
armor_lines label headers octets =
    begin_line label ∷ (map header_line headers
    ++ [] ∷ (letter_lines (base64_of octets) ++ end_line label ∷ []))

abbrev pub armor_text : Label → List (List ℕ × List ℕ) → List ℕ → List ℕ
armor_text label headers octets = text_of (armor_lines label headers octets)

abbrev pub IsWithin : ℕ → List ℕ × List ℕ → Type 0
IsWithin limit header = length (header_line header) ≤ limit

-- each header line is within the limit
abbrev pub AreWithin : ℕ → List (List ℕ × List ℕ) → Type 0
AreWithin limit headers = AllByRecursion (IsWithin limit) headers
