-- Which octets a reader of labels and packets has been given, and which of these it has found.
use Rattle.std.specs.Prelude.{◌≡◌, ℕ, ◌+◌, ◌*◌, ◌<◌, ◌^◌, ◌⊎◌, Bool, true, false, List, [], ◌++◌, length, Option, None, Ok, Err}
use Rattle.opgp_octets.specs.declared.limits.Limits.{Limits}
use Rattle.opgp_keyring.specs.Composition.{Item}
use Rattle.opgp_codec.specs.declared.accepts.Accepts.{Accepts}
use Rattle.opgp_codec.specs.declared.found.Opening.{Opening}
use Rattle.opgp_codec.specs.declared.blocks.Blocks.{Blocks}
use Rattle.opgp_codec.specs.declared.items.Front.{Front}
use Rattle.opgp_codec.specs.declared.items.Front.TheVariants.{Undecided, Binary, Armored}
use Rattle.opgp_codec.specs.declared.items.Items.{Items}
use Rattle.opgp_codec.specs.declared.mode.Mode.{Mode}
use Rattle.opgp_codec.specs.declared.mode.Mode.TheVariants.{Auto}
use Rattle.opgp_codec.specs.Found.{opened}
use Rattle.opgp_codec.specs.Blocks.{Framed, has_begun}
use Rattle.opgp_codec.specs.Reading.{Outcome, is_binary}
use Rattle.opgp_codec.specs.Skipped.{foreign_of}
use Rattle.opgp_codec.specs.Text.{IsDrained, Through, lent_octets, work_of}

-- whatever follows these octets, the input is binary, or it is not
abbrev pub Decides : Mode → List ℕ → Bool → Type 0
Decides mode seen binary = (more : List ℕ) → is_binary mode (seen ++ more) ≡ binary

-- how much waits
abbrev pub work_in : Front → ℕ
work_in Undecided = 0
work_in Binary = 0
work_in (Armored t) = work_of t

-- Where the octets went, and what was found: those that were seen decide whether the input is
-- binary.
abbrev pub Passed : Accepts → Mode → Limits → Front → Blocks → List ℕ → List ℕ → List Item → Type 0
Passed accepts mode limits Undecided f seen input items =
    (mode ≡ Auto) × (seen ≡ []) × (input ≡ []) × (has_begun f ≡ false)
    × Framed accepts limits f [] None input items
Passed accepts mode limits Binary f seen input items =
    Decides mode seen true × Framed accepts limits f [] None input items
Passed accepts mode limits (Armored t) f seen input items =
    Decides mode seen false × (0 < work_of t → Decides mode input false)
    × Through accepts limits t f input items

-- how many octets outside of armored blocks were passed over, if they are no text; else 0
abbrev pub skipped_by : Front → ℕ
skipped_by Undecided = 0
skipped_by Binary = 0
skipped_by (Armored t) = foreign_of t.skipped

abbrev pub skipped_in : Items → ℕ
skipped_in p = skipped_by p.front

-- the octets given
abbrev pub count_of : Items → ℕ
count_of p = p.given

-- the octets from which the last packet was lent
abbrev pub octets_of : Front → List ℕ → List ℕ
octets_of Undecided piece = piece
octets_of Binary piece = piece
octets_of (Armored t) piece = lent_octets t

-- nothing waits
abbrev pub IsLast : Front → Type 0
IsLast Undecided = Unit {0}
IsLast Binary = Unit {0}
IsLast (Armored t) = IsDrained t

abbrev pub IsDone : Items → Type 0
IsDone p = IsLast p.front

-- octets of a piece were taken, or less waits
abbrev pub Moves : Front → Front → ℕ → Type 0
Moves old new n = (0 < n) ⊎ (work_in new < work_in old)

-- what a loop over steps has left, with so many octets of a piece: it lessens with each step
abbrev pub left_of : Items → ℕ → ℕ
left_of p rest = rest * 2 ^ 66 + work_in p.front

-- In this mode, within these limits, the reader was given these octets, and has found these labels
-- and packets.
pub record Fed (accepts : Accepts) (mode : Mode) (limits : Limits) (p : Items) (input : List ℕ)
    (items : List Item) : Type 0 where
  pub limits_kept : p.limits ≡ limits
  pub count : p.given ≡ length input
  pub passed : Passed accepts mode limits p.front p.framer input input items

-- behind these labels and packets there is at most the label of the last block
abbrev pub IsRest : List Item → List Item → Outcome (Option Opening) → Type 0
IsRest items all (Ok opening) = all ≡ items ++ opened opening
IsRest items all (Err fault) = ⊥
