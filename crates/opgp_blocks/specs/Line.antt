-- A line of a text as mail programs meet it: quoted, indented, with a break of HTML at its end.
use Rattle.std.specs.Prelude.{ℕ, ◌+◌, ◌-◌, ◌==◌, nat_eq, nat_lt, Bool, false, not, ◌&&◌, ◌||◌}
use Rattle.std.specs.Prelude.{if◌then◌else◌, List, [], ◌∷◌, length, drop, codes}
use Rattle.std.specs.List.{starts_with}
use Rattle.std.specs.Str.{bytes_eq}
use Rattle.opgp_armor.specs.Text.{Line, lines, is_trailing, begin_mark}

-- ---- what a line says
-- space, tab, `>`
abbrev pub is_leading : ℕ → Bool
is_leading c = (c == 32) || ((c == 9) || (c == 62))

-- without the leading octets that it begins with
unfoldable pub behind_leading : List ℕ → List ℕ
behind_leading [] = []
behind_leading (c ∷ l) = if is_leading c then behind_leading l else c ∷ l

-- `<br` in either case
abbrev pub is_br : ℕ → ℕ → ℕ → Bool
is_br a b c = ((c == 114) || (c == 82)) && (((b == 98) || (b == 66)) && (a == 60))

-- one space, tab or carriage return; or `<br>`, `<br/>`, `<br />` in either case
abbrev pub is_ending : List ℕ → Bool
is_ending (a ∷ []) = is_trailing a
is_ending (a ∷ b ∷ c ∷ d ∷ []) = is_br a b c && (d == 62)
is_ending (a ∷ b ∷ c ∷ d ∷ e ∷ []) = is_br a b c && ((d == 47) && (e == 62))
is_ending (a ∷ b ∷ c ∷ d ∷ e ∷ f ∷ []) = is_br a b c && ((d == 32) && ((e == 47) && (f == 62)))
is_ending _ = false

-- Without the endings that it ends in: an octet and what is left behind it are left, unless they
-- are an ending.
unfoldable pub without_endings : List ℕ → List ℕ
without_endings [] = []
without_endings (c ∷ l) =
    if is_ending (c ∷ without_endings l) then [] else c ∷ without_endings l

-- the content of a line, and where that begins in the text
pub record Shown : Type 0 where
  pub at : ℕ
  pub content : List ℕ

abbrev pub shown_at : ℕ → Line → Shown
shown_at at l = record {
  at = at + (length l - length (behind_leading l));
  content = without_endings (behind_leading l);
}

-- ---- the lines of a text
-- lines of which the first begins here
unfoldable pub shown_lines : ℕ → List Line → List Shown
shown_lines at [] = []
shown_lines at (l ∷ ls) = shown_at at l ∷ shown_lines (at + (length l + 1)) ls

abbrev pub shown_from : ℕ → List ℕ → List Shown
shown_from at text = shown_lines at (lines (drop at text))

-- where the first line begins: behind a byte order mark, if the text begins with one
abbrev pub first_at : List ℕ → ℕ
first_at text = if starts_with nat_eq text (239 ∷ 187 ∷ 191 ∷ []) then 3 else 0

abbrev pub shown_in : List ℕ → List Shown
shown_in text = shown_from (first_at text) text

-- ---- lines that begin or end a block (RFC 9580, 6.2)
-- printable ASCII, but `-`
abbrev pub is_label_octet : ℕ → Bool
is_label_octet c = nat_lt 31 c && (nat_lt c 127 && not (c == 45))

-- the rest of a label, and `-----`
unfoldable pub ends_label : List ℕ → Bool
ends_label [] = false
ends_label (c ∷ l) = if is_label_octet c then ends_label l else bytes_eq (c ∷ l) (codes "-----")

-- a label, and `-----`
abbrev pub is_labelled : List ℕ → Bool
is_labelled [] = false
is_labelled (c ∷ l) = is_label_octet c && ends_label l

-- Any label begins a block but that of a cleartext message (7), whose text must stay as it is.
abbrev pub begins : List ℕ → Bool
begins c = starts_with nat_eq c begin_mark && (is_labelled (drop 15 c)
    && not (bytes_eq c (codes "-----BEGIN PGP SIGNED MESSAGE-----")))

abbrev pub ends : List ℕ → Bool
ends c = starts_with nat_eq c (codes "-----END PGP ") && is_labelled (drop 13 c)
