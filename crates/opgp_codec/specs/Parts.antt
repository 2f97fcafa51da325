-- A keyring that is read in pieces, whose parts are handed out as they come.
use Rattle.std.specs.Prelude.{◌≡◌, ℕ, ◌+◌, List, [], ◌∷◌, ◌++◌, take, Option, Some, None, Ok, Err, MatchResult}
use Rattle.opgp_octets.specs.declared.limits.Limits.{Limits}
use Rattle.opgp_octets.specs.Limits.{body_limit, cert_limit, line_limit, pieces_limit}
use Rattle.opgp_armor.specs.Fed.{held_of as text_held}
use Rattle.opgp_frame.specs.Fed.{held_of as packet_held}
use Rattle.opgp_keyring.specs.Composed.{PartValue, parts_of}
use Rattle.opgp_keyring.specs.Composition.{Item}
use Rattle.opgp_keyring.specs.Fed.{held_of as part_held}
use Rattle.opgp_keyring.specs.Fed.{Fed as IsComposed}
use Rattle.opgp_keyring.specs.Keyring.{KeyringValue}
use Rattle.opgp_keyring.specs.State.{part_of, ready_parts}
use Rattle.opgp_keyring.specs.declared.ready.Ready.{Ready}
use Rattle.opgp_codec.specs.declared.accepts.Accepts.TheVariants.{Keys}
use Rattle.opgp_codec.specs.declared.items.Front.{Front}
use Rattle.opgp_codec.specs.declared.items.Front.TheVariants.{Undecided, Binary, Armored}
use Rattle.opgp_codec.specs.declared.parts.Parts.{Parts}
use Rattle.opgp_codec.specs.Items.{Fed}
use Rattle.opgp_codec.specs.Items.{IsDone as IsThrough, count_of as items_count, left_of as items_left}
use Rattle.opgp_codec.specs.Keyrings.{ComposesTo, key_label}
use Rattle.opgp_codec.specs.Reading.{AnswerOf, Outcome}
pub use Rattle.opgp_codec.specs.Used.{UseOf, given, taking, unused}

-- how a reader of parts was used
abbrev pub Use : Type 0
Use = UseOf PartValue

-- The reader was used so: the composer was given the labels and packets of what the input begins
-- with, and the parts that were taken are those that it handed out.
abbrev pub IsUsed : Use → Parts → Type 0
IsUsed u p = (items : List Item) × Fed Keys u.mode u.limits p.items u.input items
    × IsComposed u.limits p.composer items u.taken

-- how many octets it was given
abbrev pub count_of : Parts → ℕ
count_of p = items_count p.items

-- all that it was given has gone through
abbrev pub IsDone : Parts → Type 0
IsDone p = IsThrough p.items

-- what a loop has left, with so many octets of a piece
abbrev pub left_of : Parts → ℕ → ℕ
left_of p rest = items_left p.items rest

-- the octets that a call takes of a piece, and the part that it hands out
abbrev pub taken_by : Option (ℕ × Ready) → List ℕ → List ℕ
taken_by None piece = piece
taken_by (Some (n, part)) piece = take n piece

abbrev pub part_by : Option (ℕ × Ready) → List PartValue
part_by None = []
part_by (Some (n, part)) = part_of part ∷ []

-- how it was used after that call
abbrev pub after : Use → List ℕ → Option (ℕ × Ready) → Use
after u piece r = taking (given u (taken_by r piece)) (part_by r)

-- the octets that the reader of armor holds; a binary input has none
abbrev pub front_held : Front → ℕ
front_held Undecided = 0
front_held Binary = 0
front_held (Armored t) = text_held t.dearmor

-- What its three readers hold together: of the armor an unfinished line, the unfinished packet, and
-- the unfinished part.
abbrev pub held_of : Parts → ℕ
held_of p = front_held p.items.front + packet_held p.items.framer.deframe + part_held p.composer

-- the most that is
abbrev pub most_held : Limits → ℕ
most_held l = line_limit l + body_limit l + pieces_limit l + cert_limit l + 32

-- The answer to all octets: their one keyring, whose parts are those that were taken and the last
-- one; or the one fault.
abbrev pub Ends : Use → Outcome (Option Ready) → Type 0
Ends u answer = MatchResult answer
    (λ last. (r : KeyringValue)
    × AnswerOf key_label (ComposesTo u.limits) u.mode u.limits u.input (Ok r)
    × (parts_of r ≡ u.taken ++ ready_parts last))
    (λ fault. AnswerOf {A = KeyringValue} key_label (ComposesTo u.limits)
    u.mode u.limits u.input (Err fault))
