-- The fault of a text that is no cleartext message: its first line that may not come where it is.
use Rattle.std.specs.Prelude.{◌≡◌, ℕ, ◌<◌, nat_eq, nat_lt, if◌then◌else◌, ◌⊎◌, List}
use Rattle.std.specs.Prelude.{◌∷◌, ◌++◌, length}
use Rattle.std.specs.List.{starts_with, AllByRecursion}
use Rattle.std.specs.Str.{bytes_eq}
use Rattle.opgp_armor.specs.Text.{Line, begin_mark, content, lines, offset}
use Rattle.opgp_octets.specs.declared.fault.Fault.{Fault}
use Rattle.opgp_octets.specs.declared.fault.Layer.TheVariants as layer
use Rattle.opgp_octets.specs.declared.fault.Reason.{Reason}
use Rattle.opgp_octets.specs.declared.fault.Reason.TheVariants as reason
use Rattle.opgp_cleartext.specs.Cleartext.{IsBegin, IsBlank, IsHashLine, IsHead, IsSignatureLine}
use Rattle.opgp_cleartext.specs.Cleartext.{IsText, Says, signature_line}
use Rattle.opgp_cleartext.specs.Line.{has_return, without_return}

-- Where the next line is: in front of the message, among its headers, or in its text, of which
-- these lines came.
pub data Situation : Type 0 where
  InFront : Situation
  Headers : Situation
  Text : List (List ℕ) → Situation

-- the lines of a text lead there
abbrev pub LeadsTo : ℕ → List Line → Situation → Type 0
LeadsTo most ls InFront = AllByRecursion (IsBlank most) ls
LeadsTo most ls Headers = IsHead most ls
LeadsTo most ls (Text document) = IsText most ls document

-- the line may come there
abbrev pub MayCome : ℕ → Situation → Line → Type 0
MayCome most InFront l = IsBlank most l ⊎ IsBegin most l
MayCome most Headers l = IsBlank most l ⊎ IsHashLine most l
MayCome most (Text document) l =
    ((shown : List ℕ) × Says most l shown) ⊎ (IsSignatureLine most l × (0 < length document))

-- why a line that may not come there is refused
abbrev pub short_reason : Situation → Line → Reason
short_reason InFront l = if starts_with nat_eq l begin_mark then reason.Label else reason.Outside
short_reason Headers l = reason.Header
short_reason (Text document) l =
    if has_return (without_return l) then reason.StrayReturn
    else if bytes_eq (content l) signature_line then reason.NoText
    else reason.Unescaped

abbrev pub reason_of : ℕ → Situation → Line → Reason
reason_of most s l = if nat_lt most (length l) then reason.LineTooLong else short_reason s l

-- The first line that may not come where it is.
pub record LineFault (most : ℕ) (text : List ℕ) (why : Reason) (pos : ℕ) : Type 0 where
  pub before : List Line
  pub line : Line
  pub after : List Line
  pub situation : Situation
  pub are : lines text ≡ before ++ line ∷ after
  pub leads : LeadsTo most before situation
  pub refused : MayCome most situation line → ⊥
  pub why_is : why ≡ reason_of most situation line
  pub pos_is : pos ≡ offset before

abbrev pub end_reason : Situation → Reason
end_reason InFront = reason.NoMessage
end_reason Headers = reason.Unfinished
end_reason (Text document) = reason.Unfinished

-- Each line may come where it is, and the text ends before its signatures.
pub record EndFault (most : ℕ) (text : List ℕ) (why : Reason) (pos : ℕ) : Type 0 where
  pub situation : Situation
  pub leads : LeadsTo most (lines text) situation
  pub why_is : why ≡ end_reason situation
  pub pos_is : pos ≡ length text

abbrev pub CleartextFault : ℕ → List ℕ → Reason → ℕ → Type 0
CleartextFault most text why pos = LineFault most text why pos ⊎ EndFault most text why pos

-- The fault of a text, as it is reported.
pub record IsCleartextFault (most : ℕ) (text : List ℕ) (f : Fault) : Type 0 where
  pub layer_is : f.layer ≡ layer.Cleartext
  pub block_is : f.block ≡ 0
  pub inner_is : f.inner ≡ 0
  pub found : CleartextFault most text f.reason f.pos
