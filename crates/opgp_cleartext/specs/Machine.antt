-- A cleartext message, read line after line.
use Rattle.std.specs.Prelude.{◌≡◌, ℕ, ◌+◌, nat_eq, nat_lt, Bool, true}
use Rattle.std.specs.Prelude.{false, if◌then◌else◌, List, []}
use Rattle.std.specs.Prelude.{◌∷◌, ◌++◌, length, Result, Ok, Err}
use Rattle.std.specs.List.{fold, starts_with}
use Rattle.std.specs.Str.{bytes_eq}
use Rattle.std.specs.declared.option.Option.{Option}
use Rattle.std.specs.declared.option.Option.TheVariants.{None, Some}
use Rattle.opgp_armor.specs.Text.{Line, begin_mark, content}
use Rattle.opgp_octets.specs.declared.fault.Fault.{Fault}
use Rattle.opgp_octets.specs.declared.fault.Layer.TheVariants as layer
use Rattle.opgp_octets.specs.declared.fault.Reason.{Reason}
use Rattle.opgp_octets.specs.declared.fault.Reason.TheVariants as reason
use Rattle.opgp_cleartext.specs.Cleartext.{message_line, signature_line}
use Rattle.opgp_cleartext.specs.Faults.{Situation, InFront, Headers, Text, end_reason}
use Rattle.opgp_cleartext.specs.Hashes.{is_hash_header}
use Rattle.opgp_cleartext.specs.Line.{has_return, shown_of, unescaped_of, without_return}

-- ---- what a line does, if it isn't too long: whether it ends the part that it is in
abbrev pub front_end : Line → List ℕ → Result Bool Reason
front_end l [] = Ok false
front_end l (c ∷ cs) =
    if bytes_eq (c ∷ cs) message_line then Ok true
    else Err (if starts_with nat_eq l begin_mark then reason.Label else reason.Outside)

abbrev pub headers_end : List ℕ → Result Bool Reason
headers_end [] = Ok true
headers_end (c ∷ cs) = if is_hash_header (c ∷ cs) then Ok false else Err reason.Header

abbrev pub escaped_end : Option (List ℕ) → List ℕ → Result Bool Reason
escaped_end (Some octets) content = Ok false
escaped_end None content =
    if bytes_eq content signature_line then Ok true else Err reason.Unescaped

abbrev pub text_end : Line → Result Bool Reason
text_end l =
    if has_return (without_return l) then Err reason.StrayReturn
    else escaped_end (unescaped_of (without_return l)) (content l)

-- ---- a step
pub data Step : Type 0 where
  Next : Situation → Step
  Last : List (List ℕ) → Step
  Refused : Reason → Step

abbrev pub turn : Situation → Situation → Result Bool Reason → Step
turn behind here (Ok true) = Next behind
turn behind here (Ok false) = Next here
turn behind here (Err why) = Refused why

abbrev pub closing : List (List ℕ) → Step
closing [] = Refused reason.NoText
closing (s ∷ ss) = Last (s ∷ ss)

abbrev pub text_turn : List (List ℕ) → Line → Result Bool Reason → Step
text_turn document l (Ok true) = closing document
text_turn document l (Ok false) = Next (Text (document ++ shown_of l ∷ []))
text_turn document l (Err why) = Refused why

abbrev pub short_step : Situation → Line → Step
short_step InFront l = turn Headers InFront (front_end l (content l))
short_step Headers l = turn (Text []) Headers (headers_end (content l))
short_step (Text document) l = text_turn document l (text_end l)

unfoldable pub step : ℕ → Situation → Line → Step
step most s l = if nat_lt most (length l) then Refused reason.LineTooLong else short_step s l

-- ---- all lines
-- the situation and the place of the next line; the document, and where its signatures begin; why
-- a line is refused, and where it begins
pub data Progress : Type 0 where
  Going : Situation → ℕ → Progress
  Found : List (List ℕ) → ℕ → Progress
  Failed : Reason → ℕ → Progress

abbrev pub moved : Step → ℕ → ℕ → Progress
moved (Next s) at size = Going s (at + (size + 1))
moved (Last document) at size = Found document at
moved (Refused why) at size = Failed why at

abbrev pub go : ℕ → Progress → Line → Progress
go most (Going s at) l = moved (step most s l) at (length l)
go most (Found document at) l = Found document at
go most (Failed why at) l = Failed why at

-- what is read of a text of this size: the document and the place, or the fault
abbrev pub ended : ℕ → Progress → Result (List (List ℕ) × ℕ) (Reason × ℕ)
ended size (Going s at) = Err (end_reason s, size)
ended size (Found document at) = Ok (document, at)
ended size (Failed why at) = Err (why, at)

unfoldable pub reading : ℕ → ℕ → Situation → ℕ → List Line
    → Result (List (List ℕ) × ℕ) (Reason × ℕ)
reading most size s at ls = ended size (fold (go most) (Going s at) ls)

-- the reading fails so
pub record FailsSo (read : Result (List (List ℕ) × ℕ) (Reason × ℕ)) (f : Fault) : Type 0 where
  pub layer_is : f.layer ≡ layer.Cleartext
  pub block_is : f.block ≡ 0
  pub inner_is : f.inner ≡ 0
  pub read_is : read ≡ Err (f.reason, f.pos)
