-- What the calls of the library say.
use Rattle.std.specs.Prelude.{◌≡◌, ◌≢◌, ◌<◌, ◌↔◌, ◌⊎◌, ◌++◌, ◌==◌, if◌then◌else◌, ℕ, List, length, drop}
use Rattle.std.specs.Prelude.{Bool, not, true, false, Err, Option, Some, None}
use Rattle.opgp_octets.specs.declared.fault.Fault.{Fault}
use Rattle.opgp_octets.specs.declared.limits.Limits.{Limits}
use Rattle.opgp_keyring.specs.Keyring.{KeyringValue}
use Rattle.opgp_keyring.specs.Normal.{normal_of}
use Rattle.opgp_codec.specs.Keyrings.{ComposesTo, key_label}
use Rattle.opgp_codec.specs.Reading.{AnswerOf, Outcome}
use Rattle.opgp_codec.specs.declared.mode.Mode.{Mode}
use Rattle.opgp_codec.specs.declared.mode.Mode.TheVariants.{Auto, Armor, Binary}
use Rattle.opgp_codec.specs.declared.out.Out.{Out}
use Rattle.opgp_codec.specs.declared.out.Out.TheVariants as written
use Rattle.opgp_merge.specs.Merged.{merged_of}
use Rattle.opgp_merge.specs.declared.choice.Choice.{Choice}
use Rattle.opgp_tables.specs.declared.fault_row.FaultRow.{FaultRow}
use Rattle.opgp_tables.specs.declared.given_limits.GivenLimits.{GivenLimits}
use Rattle.opgp_tables.specs.FaultRow.{fault_row}
use Rattle.opgp_tables.specs.GivenLimits.{AreThese}
use Rattle.opgp_tables.specs.Names.{name_in}
use Rattle.opgp_tables.specs.declared.names.NumberTable.{NumberTable}
use Rattle.opgp_handles.specs.declared.making.Making.{Making}
use Rattle.opgp_handles.specs.declared.making.Making.TheVariants.{Normal, Merged}
use Rattle.opgp_handles.specs.declared.ring.Ring.{Ring}
use Rattle.opgp_handles.specs.declared.sizes.Sizes.{Sizes}

-- this is the answer to an input that is read by a mode, within the given limits
abbrev pub AnswersBy : Mode → GivenLimits → List ℕ → Outcome KeyringValue → Type 0
AnswersBy mode given input answer =
    (l : Limits) × AreThese l given × AnswerOf key_label (ComposesTo l) mode l input answer

-- the input is refused for the fault of this row
abbrev pub RefusesBy : Mode → GivenLimits → List ℕ → FaultRow → Type 0
RefusesBy mode given input row =
    (f : Fault) × AnswersBy mode given input (Err f) × (row ≡ fault_row f)

-- the same of an input that is armored or binary, as its first octet says
abbrev pub Answers : GivenLimits → List ℕ → Outcome KeyringValue → Type 0
Answers = AnswersBy Auto

abbrev pub Refuses : GivenLimits → List ℕ → FaultRow → Type 0
Refuses = RefusesBy Auto

-- the mode of a number, if there is one
abbrev pub mode_by : ℕ → Option Mode
mode_by n = if n == 0 then Some Auto else if n == 1 then Some Armor else if n == 2 then Some Binary
    else None

-- a table that begins with these items, and else is as it was
abbrev pub IsFilled : {A : Type 0} → List A → List A → List A → Type 0
IsFilled items before after = after ≡ items ++ drop (length items) before

-- one of two tables has less room than its items want
abbrev pub IsShort : {A : Type 0} → List A → List ℕ → List A → List ℕ → Type 0
IsShort rows bytes row_room byte_room =
    (length row_room < length rows) ⊎ (length byte_room < length bytes)

-- how many these are
abbrev pub AreSized : {A : Type 0} → List A → List ℕ → Sizes → Type 0
AreSized rows bytes sizes = (sizes.rows ≡ length rows) × (sizes.bytes ≡ length bytes)

-- the handle holds what it held
abbrev pub HoldsTheSame : Ring → Ring → Type 0
HoldsTheSame before after = (after.is_open ≡ before.is_open)
    × (before.is_open ≡ true → after.slot.held ≡ before.slot.held)

-- A call puts two tables of the keyring that a handle holds: they begin with its rows and octets
-- (0); or they are as they were, and too short (2), or memory ran out (3), or the handle holds
-- nothing (5). The sizes say what is wanted.
pub record PutsTables {A : Type 0} (rows_of : KeyringValue → List A)
    (bytes_of : KeyringValue → List ℕ) (ring ring' : Ring) (rows rows' : List A)
    (bytes bytes' : List ℕ) (sizes : Sizes) (status : ℕ) : Type 0 where
  pub done : status ≡ 0 → IsFilled (rows_of ring.slot.held.keyring) rows rows'
      × IsFilled (bytes_of ring.slot.held.keyring) bytes bytes'
  pub room : status ≡ 2 → IsShort (rows_of ring.slot.held.keyring)
      (bytes_of ring.slot.held.keyring) rows bytes
  pub kept : status ≢ 0 → (rows' ≡ rows) × (bytes' ≡ bytes)
  pub sized : (status ≡ 0) ⊎ (status ≡ 2) → AreSized (rows_of ring.slot.held.keyring)
      (bytes_of ring.slot.held.keyring) sizes
  pub closed : (status ≡ 5) ↔ (ring.is_open ≡ false)
  pub holds : HoldsTheSame ring ring'
  pub one_of : (status ≡ 0) ⊎ ((status ≡ 2) ⊎ ((status ≡ 3) ⊎ (status ≡ 5)))

-- the keyring in the current format, or merged
abbrev pub made_by : Making → KeyringValue → KeyringValue
made_by Normal = normal_of
made_by Merged = merged_of

-- A call keeps what is made of the keyring that a handle holds in another handle (0), which else is
-- as it was: memory ran out (3), or the handle holds nothing (5).
pub record KeepsMade (made : KeyringValue → KeyringValue) (ring ring' into into' : Ring)
    (status : ℕ) : Type 0 where
  pub done : status ≡ 0 → (into'.is_open ≡ true)
      × (into'.slot.held.keyring ≡ made ring.slot.held.keyring)
  pub kept : status ≢ 0 → into' ≡ into
  pub closed : (status ≡ 5) ↔ (ring.is_open ≡ false)
  pub holds : HoldsTheSame ring ring'
  pub one_of : (status ≡ 0) ⊎ ((status ≡ 3) ⊎ (status ≡ 5))

-- any number but 0 says yes
abbrev pub is_set : ℕ → Bool
is_set n = not (n == 0)

-- the choice that these numbers ask for: own signatures alone, no attributes, user IDs of these
-- numbers
pub record IsChoice (own_signatures no_attributes : ℕ) (user_ids : List ℕ)
    (choice : Choice) : Type 0 where
  pub own : choice.own_signatures ≡ is_set own_signatures
  pub attributes : choice.no_attributes ≡ is_set no_attributes
  pub named : choice.user_ids.now ≡ user_ids

-- any number but 0 asks for armor
abbrev pub out_of : ℕ → Out
out_of armor = if armor == 0 then written.Binary else written.Armor

-- the name that a table, if there is one, has for a number
abbrev pub name_by : Option NumberTable → ℕ → Option (List ℕ)
name_by (Some table) number = name_in table number
name_by None number = None
