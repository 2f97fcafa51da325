-- What the calls say that read a keyring in pieces.
use Rattle.std.specs.Prelude.{◌≡◌, List, [], ◌∷◌, true, Ok, Err}
use Rattle.opgp_octets.specs.declared.fault.Fault.{Fault}
use Rattle.opgp_octets.specs.declared.limits.Limits.{Limits}
use Rattle.opgp_keyring.specs.Composed.{PartValue, parts_of}
use Rattle.opgp_keyring.specs.Parts.{AreParts}
use Rattle.opgp_codec.specs.declared.mode.Mode.TheVariants.{Auto}
use Rattle.opgp_codec.specs.PartReader.{Ends, IsUsed, Use, waits}
use Rattle.opgp_codec.specs.Waiting.{parts_in}
use Rattle.opgp_handles.specs.declared.reader.Reader.{Reader}
use Rattle.opgp_handles.specs.declared.slot.Reading.{Reading}
use Rattle.opgp_handles.specs.declared.ring.Ring.{Ring}
use Rattle.opgp_handles.specs.declared.slot.Reading.TheVariants.{Going, Ended, Refused, Lost}

-- a reading that was begun within these limits, armored or binary, and was given nothing yet
abbrev pub begun : Limits → Use
begun limits = record { mode = Auto; limits = limits; input = []; taken = [] }

-- the reading was used so, and hasn't ended
abbrev pub IsGoing : Use → Reading → Type 0
IsGoing u (Going reader) = IsUsed u reader
IsGoing u (Ended waiting) = ⊥
IsGoing u (Refused fault) = ⊥
IsGoing u Lost = ⊥

-- the reading was used so, and all its octets are a keyring
abbrev pub IsEnded : Use → Reading → Type 0
IsEnded u (Going reader) = ⊥
IsEnded u (Ended waiting) = Ends u (Ok waiting)
IsEnded u (Refused fault) = ⊥
IsEnded u Lost = ⊥

-- the reading was used so, and all its octets are refused for this
abbrev pub IsRefused : Use → Reading → Fault → Type 0
IsRefused u (Going reader) fault = ⊥
IsRefused u (Ended waiting) fault = ⊥
IsRefused u (Refused found) fault = (found ≡ fault) × Ends u (Err found)
IsRefused u Lost fault = ⊥

-- the reading was used so; nothing is known of one that ran out of memory
abbrev pub IsReading : Use → Reading → Type 0
IsReading u (Going reader) = IsUsed u reader
IsReading u (Ended waiting) = Ends u (Ok waiting)
IsReading u (Refused fault) = Ends u (Err fault)
IsReading u Lost = Unit {0}

-- the reading was used so, and has ended
abbrev pub HasEnded : Use → Reading → Type 0
HasEnded u (Going reader) = ⊥
HasEnded u (Ended waiting) = Ends u (Ok waiting)
HasEnded u (Refused fault) = Ends u (Err fault)
HasEnded u Lost = ⊥

-- the reading was used so, and has ended, or ran out of memory
abbrev pub IsOver : Use → Reading → Type 0
IsOver u (Going reader) = ⊥
IsOver u (Ended waiting) = Ends u (Ok waiting)
IsOver u (Refused fault) = Ends u (Err fault)
IsOver u Lost = Unit {0}

-- the parts that wait to be taken, in order
abbrev pub waiting_in : Reading → List PartValue
waiting_in (Going reader) = waits reader
waiting_in (Ended waiting) = parts_in waiting
waiting_in (Refused fault) = []
waiting_in Lost = []

-- a reading goes on if it did, and has ended in the same way if it had
abbrev pub StaysWhat : Reading → Reading → Type 0
StaysWhat (Going a) (Going b) = Unit {0}
StaysWhat (Ended a) (Ended b) = Unit {0}
StaysWhat (Refused a) (Refused b) = a ≡ b
StaysWhat Lost Lost = Unit {0}
StaysWhat (Going a) (Ended b) = ⊥
StaysWhat (Going a) (Refused b) = ⊥
StaysWhat (Going a) Lost = ⊥
StaysWhat (Ended a) (Going b) = ⊥
StaysWhat (Ended a) (Refused b) = ⊥
StaysWhat (Ended a) Lost = ⊥
StaysWhat (Refused a) (Going b) = ⊥
StaysWhat (Refused a) (Ended b) = ⊥
StaysWhat (Refused a) Lost = ⊥
StaysWhat Lost (Going b) = ⊥
StaysWhat Lost (Ended b) = ⊥
StaysWhat Lost (Refused b) = ⊥

-- a handle holds a keyring of this part alone, if it is a part of a keyring
abbrev pub HoldsPart : Ring → PartValue → Type 0
HoldsPart ring part = (ring.is_open ≡ true)
    × (AreParts (part ∷ []) → parts_of ring.slot.held.keyring ≡ part ∷ [])

-- the handle, if it is open, holds a reading that was used so
abbrev pub Holds : Use → Reader → Type 0
Holds u reader = reader.is_open ≡ true → IsReading u reader.slot.held
