-- What a line of a message's text says (RFC 9580, 7.1 and 7.2).
use Rattle.std.specs.Prelude.{◌≡◌, ℕ, ◌==◌, Bool, true, false, ◌||◌, if◌then◌else◌, ◌⊎◌, List, []}
use Rattle.std.specs.Prelude.{◌∷◌, ◌++◌, unwrap_or}
use Rattle.std.specs.List.{list_any, AllByRecursion}
use Rattle.std.specs.declared.option.Option.{Option}
use Rattle.std.specs.declared.option.Option.TheVariants.{None, Some}
use Rattle.opgp_armor.specs.Text.{Line}

-- space, tab
abbrev pub is_blank : ℕ → Bool
is_blank c = (c == 32) || (c == 9)

abbrev pub is_return : ℕ → Bool
is_return c = c == 13

abbrev pub has_return : List ℕ → Bool
has_return octets = list_any is_return octets

-- the last octet is a blank
abbrev pub ends_blank : List ℕ → Bool
ends_blank [] = false
ends_blank (c ∷ []) = is_blank c
ends_blank (c ∷ d ∷ octets) = ends_blank (d ∷ octets)

-- the first octet is a hyphen
abbrev pub begins_dash : List ℕ → Bool
begins_dash [] = false
begins_dash (c ∷ octets) = c == 45

-- a line without the carriage return at its end, which is part of the line's end
unfoldable pub without_return : Line → List ℕ
without_return [] = []
without_return (c ∷ []) = if is_return c then [] else c ∷ []
without_return (c ∷ d ∷ l) = c ∷ without_return (d ∷ l)

-- A line, without its end, says this line of the document: it is that line, which may not begin
-- with a hyphen, or it is that line behind a hyphen and a space; and blanks at the end are no part
-- of it. No carriage return is in it.
pub record SaysLine (line shown : List ℕ) : Type 0 where
  pub blanks : List ℕ
  pub are_blanks : AllByRecursion (λ c. is_blank c ≡ true) blanks
  pub clean : has_return shown ≡ false
  pub no_blank_last : ends_blank shown ≡ false
  pub spelled : (line ≡ 45 ∷ 32 ∷ (shown ++ blanks))
      ⊎ ((line ≡ shown ++ blanks) × (begins_dash line ≡ false))

-- ---- the same, as a function
abbrev pub behind_dash : List ℕ → Option (List ℕ)
behind_dash [] = None
behind_dash (c ∷ octets) = if c == 32 then Some octets else None

-- the line with its escaping undone; None if a hyphen begins it that escapes nothing
abbrev pub unescaped_of : List ℕ → Option (List ℕ)
unescaped_of [] = Some []
unescaped_of (c ∷ octets) = if c == 45 then behind_dash octets else Some (c ∷ octets)

abbrev pub strip_blank : ℕ → List ℕ → List ℕ
strip_blank c [] = if is_blank c then [] else c ∷ []
strip_blank c (d ∷ ds) = c ∷ d ∷ ds

-- without the blanks at its end
unfoldable pub without_blanks : List ℕ → List ℕ
without_blanks [] = []
without_blanks (c ∷ l) = strip_blank c (without_blanks l)

-- what a line says, if it says one
abbrev pub shown_of : Line → List ℕ
shown_of l = without_blanks (unwrap_or (unescaped_of (without_return l)) (without_return l))
