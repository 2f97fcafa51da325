-- The labels and packets of what comes from a source.
use Rattle.std.specs.Prelude.{◌≡◌, ℕ, ◌+◌, ◌-◌, ◌*◌, ◌^◌, ◌≤◌, ◌⊎◌, Bool, true, List, ◌++◌, length, take, drop, Option}
use Rattle.std.specs.Io.KnownBytes.{Consumes, IsAtEnd}
use Rattle.opgp_octets.specs.Limits.{input_limit}
use Rattle.opgp_octets.specs.Octets.{IsOctets}
use Rattle.opgp_octets.specs.declared.limits.Limits.{Limits}
use Rattle.opgp_keyring.specs.Composition.{Item}
use Rattle.opgp_codec.specs.declared.accepts.Accepts.{Accepts}
use Rattle.opgp_codec.specs.declared.incoming.Incoming.{Incoming}
use Rattle.opgp_codec.specs.declared.mode.Mode.{Mode}
use Rattle.opgp_frame.specs.declared.packet.Placed.{Placed}
use Rattle.opgp_codec.specs.Blocks.{FindsIf}
use Rattle.opgp_codec.specs.Found.{IsFound}
use Rattle.opgp_codec.specs.Items.{Fed, IsDone, left_of, octets_of}

-- the octets of the piece that didn't go through yet
abbrev pub waiting_of : Incoming → List ℕ
waiting_of r = take (r.filled - r.at) (drop r.at r.piece.items)

-- those of the piece in which the packet found last lies
abbrev pub lent_of : Incoming → List ℕ
lent_of r = take (r.filled - r.lent) (drop r.lent r.piece.items)

-- the packet that was found last, where one was
abbrev pub IsHere : Incoming → List Placed → Type 0
IsHere r packets = IsFound r.items.framer.found (octets_of r.items.front (lent_of r)) packets

-- the label and the packet that were found last, where anything was
abbrev pub FoundIf : (more : Bool) → Incoming → List Item → Type 0
FoundIf more r found = FindsIf more r.items.framer (octets_of r.items.front (lent_of r)) found

-- the source has no more, or one octet past the limit has come
abbrev pub HasEnded : Incoming → Option (List ℕ) → Type 0
HasEnded r now = ((r.count ≤ r.limit) × IsAtEnd now) ⊎ (r.count ≡ r.limit + 1)

-- Of what the source had before, octets have come up to where it is now. But for those that wait
-- they went through, and these are the labels and packets that were found.
pub record Came (accepts : Accepts) (mode : Mode) (limits : Limits) (before now : Option (List ℕ))
    (r : Incoming) (items : List Item) : Type 0 where
  pub octets : List ℕ
  pub each : IsOctets (octets ++ waiting_of r)
  pub taken : Consumes before now (octets ++ waiting_of r)
  pub fed : Fed accepts mode limits r.items octets items
  pub limit : r.limit ≡ input_limit limits
  pub count : r.count ≡ length (octets ++ waiting_of r)
  pub within : r.count ≤ r.limit + 1
  pub over : r.ended ≡ true → HasEnded r now

-- what a loop over steps has left: it lessens with each step
abbrev pub rest_left : Incoming → ℕ
rest_left r = left_of r.items (r.filled - r.at)

abbrev pub left_in : Incoming → ℕ
left_in r = (r.limit + 1 - r.count) * 2 ^ 90 + rest_left r

-- nothing waits any more
pub record IsThrough (r : Incoming) : Type 0 where
  pub all : r.filled ≤ r.at
  pub done : IsDone r.items

-- once it has ended, the source stays as it is: it isn't read again
abbrev pub IsLeftAlone : {R : Type 0} → Incoming → Incoming → R → R → Type 0
IsLeftAlone r r' source source' = r.ended ≡ true → (r'.ended ≡ true) × (source' ≡ source)
