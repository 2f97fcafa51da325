-- The lines of a text, and what a line says (RFC 9580, 6.2 to 6.2.3).
use Rattle.std.specs.Prelude.{ℕ, ◌+◌, ◌==◌, Bool, if◌then◌else◌, ◌||◌, List, [], ◌∷◌, ◌++◌, length}
use Rattle.std.specs.Prelude.{codes}
use Rattle.opgp_armor.specs.declared.label.Label.{Label}
use Rattle.opgp_armor.specs.declared.label.Label.TheVariants as labels

-- a line, without its line feed
abbrev pub Line : Type 0
Line = List ℕ

abbrev pub onto : ℕ → List Line → List Line
onto c [] = (c ∷ []) ∷ []
onto c (l ∷ ls) = (c ∷ l) ∷ ls

-- A text is cut after each line feed; a last piece without one is a line if it isn't empty.
unfoldable pub lines : List ℕ → List Line
lines [] = []
lines (c ∷ text) = if c == 10 then [] ∷ lines text else onto c (lines text)

-- where the line after these begins
abbrev pub offset : List Line → ℕ
offset [] = 0
offset (l ∷ ls) = (length l + 1) + offset ls

-- space, tab, carriage return
abbrev pub is_trailing : ℕ → Bool
is_trailing c = (c == 32) || ((c == 9) || (c == 13))

abbrev pub strip : ℕ → List ℕ → List ℕ
strip c [] = if is_trailing c then [] else c ∷ []
strip c (d ∷ ds) = c ∷ d ∷ ds

-- a line without all its trailing spaces, tabs and carriage returns
unfoldable pub content : Line → List ℕ
content [] = []
content (c ∷ l) = strip c (content l)

abbrev pub label_text : Label → List ℕ
label_text labels.Message = codes "MESSAGE"
label_text labels.PublicKeyBlock = codes "PUBLIC KEY BLOCK"
label_text labels.PrivateKeyBlock = codes "PRIVATE KEY BLOCK"
label_text labels.Signature = codes "SIGNATURE"

abbrev pub begin_mark : List ℕ
begin_mark = codes "-----BEGIN PGP "

abbrev pub begin_line : Label → List ℕ
begin_line label = begin_mark ++ label_text label ++ codes "-----"

abbrev pub end_line : Label → List ℕ
end_line label = codes "-----END PGP " ++ label_text label ++ codes "-----"
