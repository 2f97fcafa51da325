-- What was read of a document whose canonical text is wanted (RFC 9580, 5.2.1.2).
use Rattle.std.specs.Prelude.{◌≡◌, ◌-◌, ◌^◌, ℕ, true, false, List, length, min}
use Rattle.std.specs.declared.option.Option.{Option}
use Rattle.std.specs.declared.option.Option.TheVariants.{None, Some}
use Rattle.opgp_document.specs.Text.{IsStrayAt, ends_cr, has_stray}
use Rattle.opgp_document.specs.declared.canonical_text.CanonicalText.{CanonicalText}

-- the greatest place that is told, which stands for those behind it too
abbrev pub last_place : ℕ
last_place = 2 ^ 64 - 1

-- whether these octets end in a carriage return, and at which place
abbrev pub IsLastReturn : Option ℕ → List ℕ → Type 0
IsLastReturn None document = ends_cr false document ≡ false
IsLastReturn (Some pos) document =
    (ends_cr false document ≡ true) × (pos ≡ min (length document - 1) last_place)

-- It was given these octets of a document, where a line feed follows each carriage return but one
-- at their end.
pub record IsRead (t : CanonicalText) (document : List ℕ) : Type 0 where
  pub clean : has_stray false document ≡ false
  pub given : t.given ≡ min (length document) last_place
  pub last_return : IsLastReturn t.last_return document

-- this is the place of the first stray carriage return of the document
pub record TellsStray (document : List ℕ) (pos : ℕ) : Type 0 where
  pub place : ℕ
  pub is_stray : IsStrayAt document place
  pub told : pos ≡ min place last_place
