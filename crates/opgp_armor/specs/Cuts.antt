-- The lines of a text that have ended, and what is kept of an unfinished one.
use Rattle.std.specs.Prelude.{◌≡◌, ℕ, ◌==◌, ◌<◌, ◌≤◌, ◌+◌, Bool, true, false, not, if◌then◌else◌}
use Rattle.std.specs.Prelude.{List, [], ◌∷◌, ◌++◌, length, take}
use Rattle.std.specs.List.{fold, list_all}
use Rattle.opgp_armor.specs.declared.section.Section.{Section}
use Rattle.opgp_octets.specs.declared.outside.Outside.{Outside}
use Rattle.opgp_octets.specs.declared.outside.Outside.TheVariants as policy
use Rattle.opgp_armor.specs.Rules.{LineRule}
use Rattle.opgp_armor.specs.Text.{Line, lines}
use Rattle.opgp_armor.specs.Armored.{passes_by}

-- the ended lines, and the octets after them
pub record Cut : Type 0 where
  pub ended : List Line
  pub tail : List ℕ

abbrev pub feed : Cut → ℕ → Cut
feed s c =
    if c == 10 then record { ended = s.ended ++ s.tail ∷ []; tail = [] }
    else record s { tail = s.tail ++ c ∷ [] }

abbrev pub uncut : Cut
uncut = record { ended = []; tail = [] }

unfoldable pub cut : List ℕ → Cut
cut text = fold feed uncut text

-- The ended lines of a text; at the end of the text its last line has ended too.
abbrev pub lines_ended : Bool → List ℕ → List Line
lines_ended false text = (cut text).ended
lines_ended true text = lines text

-- the most octets that are kept of an unfinished line outside that begins no block: as many as tell
-- a begin line, or, where such a line is refused, as many as of any other
abbrev pub kept_outside : Outside → ℕ → ℕ
kept_outside policy.Skip limit = 15
kept_outside policy.Refuse limit = limit + 1

-- the most octets that are kept of an unfinished line
abbrev pub kept_most : LineRule → Section → Line → ℕ
kept_most rule section l =
    if passes_by section l then kept_outside rule.outside rule.most else rule.most + 1

abbrev pub kept : LineRule → Section → Line → List ℕ
kept rule section l = take (kept_most rule section l) l

-- ---- the first line end of a piece
abbrev pub is_plain : ℕ → Bool
is_plain c = not (c == 10)

-- n octets of the piece are taken: a line, with its line end where it has one
abbrev pub Front : List ℕ → List ℕ → ℕ → Bool → Type 0
Front piece line n true = take n piece ≡ line ++ 10 ∷ []
Front piece line n false = take n piece ≡ line

pub record IsLineSplit (piece line : List ℕ) (n : ℕ) (ends : Bool) : Type 0 where
  pub plain : list_all is_plain line ≡ true
  pub some : 0 < n
  pub within : n ≤ length piece
  pub front : Front piece line n ends
