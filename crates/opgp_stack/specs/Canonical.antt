-- The canonical text of a document, or why it has none (RFC 9580, 5.2.1.2).
use Rattle.std.specs.Prelude.{◌≡◌, ℕ, ◌^◌, ◌<◌, ◌≤◌, ◌⊎◌, false, List, ◌++◌, length}
use Rattle.std.specs.Prelude.{Option, Some, None, Result, Ok, Err}
use Rattle.opgp_octets.specs.Limits.{input_limit}
use Rattle.opgp_octets.specs.declared.limits.Limits.{Limits}
use Rattle.opgp_document.specs.CanonicalText.{IsRead, TellsStray}
use Rattle.opgp_document.specs.StrayReturn.{text_fault}
use Rattle.opgp_document.specs.Text.{HasText, IsStrayAt, to_text}
use Rattle.opgp_codec.specs.Reading.{Outcome, too_long}
use Rattle.opgp_codec.specs.declared.draft.Draft.{Draft}
use Rattle.opgp_stack.specs.Running.{Made, Text, Refused}
use Rattle.opgp_stack.specs.declared.canonical.TextDraft.{TextDraft}
use Rattle.opgp_stack.specs.declared.run_fault.RunFault.{RunFault}
use Rattle.opgp_stack.specs.declared.run_fault.RunFault.TheVariants as run

-- The canonical text of the document; or the fault of the first stray carriage return, or of a
-- document that is too long.
abbrev pub OfText : Limits → List ℕ → Made → Type 0
OfText limits document made =
    ((length document ≤ input_limit limits) × (text : List ℕ) × HasText document text
    × (made ≡ Text text))
    ⊎ (((length document ≤ input_limit limits) × (pos : ℕ) × IsStrayAt document pos
    × (made ≡ Refused (text_fault pos)))
    ⊎ ((input_limit limits < length document) × (made ≡ Refused (too_long limits))))

-- ---- while the document comes
-- what is held is the text so far, unless a carriage return was stray
abbrev pub IsTextBy : {S : Type 0} → (Draft S → List ℕ → Type 0) → TextDraft S → Option ℕ → List ℕ
    → Type 0
IsTextBy has t None document = IsRead t.canonical document × has t.draft (to_text false document)
IsTextBy has t (Some pos) document = (more : List ℕ) → TellsStray (document ++ more) pos

abbrev pub HasTextOf : {S : Type 0} → (Draft S → List ℕ → Type 0) → TextDraft S → List ℕ → Type 0
HasTextOf has t document = IsTextBy has t t.stray document

-- the text of the whole document, or the fault of one that has none
abbrev pub IsEndOf : {A : Type 0} → (A → List ℕ → Type 0) → List ℕ → Result A RunFault → Type 0
IsEndOf has document (Ok draft) = (text : List ℕ) × HasText document text × has draft text
IsEndOf has document (Err (run.Refused fault)) = (pos : ℕ) × TellsStray document pos
    × (fault ≡ text_fault pos)
IsEndOf has document (Err other) = ⊥

-- .. within the limit
abbrev pub IsTextOf : {A : Type 0} → (A → List ℕ → Type 0) → Limits → List ℕ → Outcome A → Type 0
IsTextOf has limits document (Ok draft) = (length document ≤ input_limit limits)
    × (text : List ℕ) × HasText document text × has draft text
IsTextOf has limits document (Err fault) = ((length document ≤ input_limit limits) × (pos : ℕ)
    × IsStrayAt document pos × (fault ≡ text_fault pos))
    ⊎ ((input_limit limits < length document) × (fault ≡ too_long limits))

-- what is held of a document that came whole; or the fault of one that is too long
abbrev pub IsHeldOf : {S : Type 0} → (Draft S → List ℕ → Type 0) → Limits → TextDraft S → List ℕ
    → Outcome Unit → Type 0
IsHeldOf has limits t document (Ok done) = (length document ≤ input_limit limits)
    × HasTextOf has t document × (input_limit limits < 2 ^ 63)
IsHeldOf has limits t document (Err fault) =
    (input_limit limits < length document) × (fault ≡ too_long limits)
