-- The events that lines yield, one a line at most, and the blocks that events build.
use Rattle.std.specs.Prelude.{ℕ, ◌+◌, Bool, true, false, List, [], ◌∷◌, ◌++◌, length}
use Rattle.std.specs.List.{fold}
use Rattle.std.specs.declared.option.Option.{Option}
use Rattle.std.specs.declared.option.Option.TheVariants.{None, Some}
use Rattle.opgp_armor.specs.declared.label.Label.{Label}
use Rattle.opgp_armor.specs.declared.label.Label.TheVariants.{Message}
use Rattle.opgp_armor.specs.declared.event.ArmorEvent.{ArmorEvent}
use Rattle.opgp_armor.specs.declared.event.ArmorEvent.TheVariants as armor
use Rattle.opgp_armor.specs.Armored.{Block}

-- what becomes ready
pub data Event : Type 0 where
  Begin : Label → Event
  Header : List ℕ → List ℕ → Event
  Octets : List ℕ → Event
  End : Event

-- an event, by the contents of its vectors
abbrev pub event_of : ArmorEvent → Event
event_of (armor.Begin l) = Begin l
event_of (armor.Header key value) = Header key.items value.items
event_of (armor.Octets o) = Octets o.items
event_of armor.End = End

abbrev pub events_of : Option ArmorEvent → List Event
events_of None = []
events_of (Some e) = event_of e ∷ []

-- Events in the order of blocks, after an open block (true) or none (false): a block begins where
-- none is open, then come its headers and octets, and it ends.
abbrev pub AreInOrder : Bool → List Event → Type 0
AreInOrder inside [] = Unit {0}
AreInOrder false (Begin l ∷ es) = AreInOrder true es
AreInOrder false (Header key value ∷ es) = ⊥
AreInOrder false (Octets o ∷ es) = ⊥
AreInOrder false (End ∷ es) = ⊥
AreInOrder true (Begin l ∷ es) = ⊥
AreInOrder true (Header key value ∷ es) = AreInOrder true es
AreInOrder true (Octets o ∷ es) = AreInOrder true es
AreInOrder true (End ∷ es) = AreInOrder false es

-- after the events a block is open, where one was (true) or none was (false) before them
abbrev pub is_open_behind : Bool → List Event → Bool
is_open_behind inside [] = inside
is_open_behind inside (Begin l ∷ es) = is_open_behind true es
is_open_behind inside (Header key value ∷ es) = is_open_behind inside es
is_open_behind inside (Octets o ∷ es) = is_open_behind inside es
is_open_behind inside (End ∷ es) = is_open_behind false es

-- how many blocks the events end
abbrev pub ends_in : List Event → ℕ
ends_in [] = 0
ends_in (End ∷ es) = 1 + ends_in es
ends_in (Begin l ∷ es) = ends_in es
ends_in (Header key value ∷ es) = ends_in es
ends_in (Octets o ∷ es) = ends_in es

-- ---- octets
-- the octets of events: keys, values and data
abbrev pub event_octets : List Event → ℕ
event_octets [] = 0
event_octets (Begin l ∷ es) = event_octets es
event_octets (Header key value ∷ es) = length key + length value + event_octets es
event_octets (Octets o ∷ es) = length o + event_octets es
event_octets (End ∷ es) = event_octets es

-- the octets of an unfinished line, of an unfinished group, and of what is ready
abbrev pub octets_held : List ℕ → List ℕ → Option ArmorEvent → ℕ
octets_held line letters ready = length line + length letters + event_octets (events_of ready)

-- ---- blocks
-- what events have built: the finished blocks, and the one that is open
pub record Built : Type 0 where
  pub blocks : List Block
  pub label : Label
  pub headers : List (List ℕ × List ℕ)
  pub octets : List ℕ

-- the open block, ended
abbrev pub open_block : Built → Block
open_block b = record { label = b.label; headers = b.headers; octets = b.octets }

abbrev pub absorb : Built → Event → Built
absorb b (Begin l) = record b { label = l; headers = []; octets = [] }
absorb b (Header key value) = record b { headers = b.headers ++ (key, value) ∷ [] }
absorb b (Octets o) = record b { octets = b.octets ++ o }
absorb b End =
    record { blocks = b.blocks ++ open_block b ∷ []; label = b.label; headers = []; octets = [] }

abbrev pub nothing_built : Built
nothing_built = record { blocks = []; label = Message; headers = []; octets = [] }

unfoldable pub built : List Event → Built
built events = fold absorb nothing_built events
