-- Files of the names of keys: one in each line.
use Rattle.std.specs.Prelude.{◌≡◌, ℕ, ◌-◌, ◌==◌, Bool, true, not, List, [], ◌∷◌, Option, Some, None}
use Rattle.std.specs.Prelude.{drop, filter, length, slice_get, take}
use Rattle.std.specs.Char.{is_ascii_whitespace}
use Rattle.std.specs.List.{AllZip, prefix_len, slice_split, suffix_len}
use Rattle.opgp_stack.specs.KeyText.{IsKeyText}
use Rattle.opgp_stack.specs.declared.key_name.KeyName.{KeyName}

-- the lines of a file: what is between its line feeds
abbrev pub is_line_end : ℕ → Bool
is_line_end c = c == 10

abbrev pub lines_in : List ℕ → List (List ℕ)
lines_in file = slice_split is_line_end file

-- those that are behind a line: none, if it has no line feed
abbrev pub lines_behind : Option (List ℕ) → List (List ℕ)
lines_behind None = []
lines_behind (Some rest) = lines_in rest

-- a line without blanks (ASCII's) around it
abbrev pub without_end : List ℕ → List ℕ
without_end line = take (length line - suffix_len is_ascii_whitespace line) line

abbrev pub trimmed : List ℕ → List ℕ
trimmed line = without_end (drop (prefix_len is_ascii_whitespace line) line)

-- nothing, or a comment, which begins with `#`
abbrev pub is_comment : List ℕ → Bool
is_comment [] = true
is_comment (c ∷ text) = c == 35

-- the lines that are to name keys
abbrev pub names_key : List ℕ → Bool
names_key line = not (is_comment (trimmed line))

-- the line names this key
abbrev pub IsKeyLine : List ℕ → KeyName → Type 0
IsKeyLine line key = IsKeyText (trimmed line) key

-- the lines that are to name keys name these, in order
abbrev pub NameKeys : List (List ℕ) → List KeyName → Type 0
NameKeys lines keys = AllZip IsKeyLine (filter names_key lines) keys

-- the line behind so many is the first that is to name a key and names none
pub record NameNoneAt (lines : List (List ℕ)) (before : ℕ) : Type 0 where
  pub keys : List KeyName
  pub above : NameKeys (take before lines) keys
  pub line : List ℕ
  pub is : slice_get lines before ≡ Some line
  pub names : names_key line ≡ true
  pub none : (key : KeyName) → IsKeyLine line key → ⊥
