-- A part of a cleartext message (RFC 9580, 7), or why its text is refused.
use Rattle.std.specs.Prelude.{◌≡◌, ℕ, ◌⊎◌, List, Result, Ok, Err}
use Rattle.std.specs.Global.{Vec}
use Rattle.opgp_octets.specs.declared.fault.Fault.{Fault}
use Rattle.opgp_octets.specs.declared.limits.Limits.{Limits}
use Rattle.opgp_octets.specs.Limits.{line_limit}
use Rattle.opgp_frame.specs.Packet.{PacketValue}
use Rattle.opgp_cleartext.specs.Cleartext.{HasCleartext, joined, joined_canonically}
use Rattle.opgp_codec.specs.Cleartext.{CleartextAnswer}
use Rattle.opgp_stack.specs.Running.{Made, Text, Refused}
use Rattle.opgp_stack.specs.declared.cleartext.CleartextPart.{CleartextPart}
use Rattle.opgp_stack.specs.declared.cleartext.CleartextPart.TheVariants as part
use Rattle.opgp_stack.specs.declared.run_fault.RunFault.{RunFault}
use Rattle.opgp_stack.specs.declared.run_fault.RunFault.TheVariants as run

-- of a message with these lines of its document, and this behind them
abbrev pub part_octets : CleartextPart → List (List ℕ) → List ℕ → List ℕ
part_octets part.Document document rest = joined document
part_octets part.Hashed document rest = joined_canonically document
part_octets part.Signatures document rest = rest

-- The text is a message with signatures, and the octets are this part of it.
pub record IsPartOf (limits : Limits) (p : CleartextPart) (text octets : List ℕ) : Type 0 where
  pub document : List (List ℕ)
  pub rest : List ℕ
  pub has : HasCleartext (line_limit limits) text document rest
  pub packets : List PacketValue
  pub answer : CleartextAnswer limits text (Ok (document, packets))
  pub is : octets ≡ part_octets p document rest

-- The part of the message; or the one fault of a text that is none, or is too long.
abbrev pub OfCleartext : Limits → CleartextPart → List ℕ → Made → Type 0
OfCleartext limits p text made =
    ((octets : List ℕ) × IsPartOf limits p text octets × (made ≡ Text octets))
    ⊎ ((fault : Fault) × CleartextAnswer limits text (Err fault) × (made ≡ Refused fault))

-- the part of a text, or its fault, unless memory ran out
abbrev pub HasPart : Limits → CleartextPart → List ℕ → Result (Vec ℕ) RunFault → Type 0
HasPart limits p text (Ok octets) = IsPartOf limits p text octets.items
HasPart limits p text (Err (run.Refused fault)) = CleartextAnswer limits text (Err fault)
HasPart limits p text (Err run.Memory) = Unit {0}
HasPart limits p text (Err other) = ⊥
