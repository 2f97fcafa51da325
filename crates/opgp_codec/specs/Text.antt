-- Armored text on its way to framed blocks.
use Rattle.std.specs.Prelude.{◌≡◌, ℕ, ◌+◌, ◌-◌, ◌<◌, ◌≤◌, ◌^◌, Bool, true, false, List, [], ◌∷◌, ◌++◌, length, drop, map, Option}
use Rattle.std.specs.Prelude.{Some, Result}
use Rattle.std.specs.Result.{MatchResult}
use Rattle.opgp_octets.specs.declared.fault.Fault.{Fault}
use Rattle.opgp_octets.specs.declared.limits.Limits.{Limits}
use Rattle.opgp_armor.specs.declared.label.Label.{Label}
use Rattle.opgp_armor.specs.Events.{Event, Begin, Header, Octets, End, Built, built}
use Rattle.opgp_armor.specs.Events.{is_open_behind}
use Rattle.opgp_armor.specs.Rules.{line_rule}
use Rattle.opgp_armor.specs.Fed.{Fed, SaysTheSame, is_ready, has_ended, rule_of}
use Rattle.opgp_armor.specs.Fed.{count_of as text_count}
use Rattle.opgp_keyring.specs.Composition.{Item}
use Rattle.opgp_codec.specs.declared.accepts.Accepts.{Accepts}
use Rattle.opgp_codec.specs.declared.found.Opening.{Opening}
use Rattle.opgp_codec.specs.declared.blocks.Blocks.{Blocks}
use Rattle.opgp_codec.specs.declared.text.Behind.{Behind}
use Rattle.opgp_codec.specs.declared.text.Behind.TheVariants as behind
use Rattle.opgp_codec.specs.declared.text.Text.{Text}
use Rattle.opgp_codec.specs.Found.{opened}
use Rattle.opgp_codec.specs.Blocks.{Framed, has_begun}
use Rattle.opgp_codec.specs.Reading.{TextBlock, armored_block, Holds, IsTextFault}

-- ---- what waits
-- the octets of lines that aren't framed yet
abbrev pub waiting_in : Text → List ℕ
waiting_in t = drop t.at t.octets.items

-- those from which the last packet was lent
abbrev pub lent_octets : Text → List ℕ
lent_octets t = drop t.lent t.octets.items

-- what comes behind them
abbrev pub events_behind : Behind → List Event
events_behind behind.Nothing = []
events_behind (behind.Begin label) = Begin label ∷ []
events_behind behind.End = End ∷ []

-- nothing waits
pub record IsDrained (t : Text) : Type 0 where
  pub octets : length t.octets.items ≤ t.at
  pub behind : t.behind ≡ behind.Nothing

-- how much waits
abbrev pub work_behind : Behind → ℕ
work_behind behind.Nothing = 0
work_behind (behind.Begin label) = 1
work_behind behind.End = 1

abbrev pub work_of : Text → ℕ
work_of t = (length t.octets.items - t.at) + work_behind t.behind

-- how many octets were taken
abbrev pub count_of : Text → ℕ
count_of t = text_count t.dearmor

-- ---- one line more
-- Where nothing was behind these octets that waited, what a line yields waits now: its octets
-- behind those, or a line that begins or ends a block. A header changes nothing.
abbrev pub Waits : List ℕ → Text → List Event → Type 0
Waits octets new [] = (new.octets.items ≡ octets) × (new.behind ≡ behind.Nothing)
Waits octets new (Octets o ∷ es) = (new.octets.items ≡ octets ++ o) × (new.behind ≡ behind.Nothing)
Waits octets new (Header key value ∷ es) =
    (new.octets.items ≡ octets) × (new.behind ≡ behind.Nothing)
Waits octets new (Begin label ∷ es) =
    (new.octets.items ≡ octets) × (new.behind ≡ behind.Begin label)
Waits octets new (End ∷ es) = (new.octets.items ≡ octets) × (new.behind ≡ behind.End)

-- so it is, and the reader says what it said
pub record Keeps (old new : Text) (events : List Event) : Type 0 where
  pub waits : Waits old.octets.items new events
  pub reader : SaysTheSame old.dearmor new.dearmor
  pub at : new.at ≡ old.at

-- ---- what went through
-- the framer was given what events have built, but for the last octets of the open block, which
-- wait
abbrev pub FramesBut : Accepts → Limits → Blocks → List ℕ → Built → List Item → Type 0
FramesBut accepts limits f waiting b items = (octets : List ℕ) × (b.octets ≡ octets ++ waiting)
    × Framed accepts limits f (map armored_block b.blocks) (Some b.label) octets items

-- whether an open block is known: its label was found, or octets of it wait
abbrev pub is_known : Blocks → List ℕ → Bool
is_known f [] = has_begun f
is_known f (o ∷ os) = true

-- The reader was given these octets of a text, and the framer what the events built that were taken
-- from it, but for what waits; and it has found these labels and packets.
pub record Through (accepts : Accepts) (limits : Limits) (t : Text) (f : Blocks) (input : List ℕ)
    (items : List Item) : Type 0 where
  pub before : List Event
  pub fed : Fed t.dearmor input (before ++ events_behind t.behind)
  pub framed : FramesBut accepts limits f (waiting_in t) (built before) items
  pub inside : is_known f (waiting_in t) ≡ true → is_open_behind false before ≡ true
  pub quiet : is_ready t.dearmor ≡ false
  pub going : has_ended t.dearmor ≡ false
  pub rule : rule_of t.dearmor ≡ line_rule limits
  pub few : text_count t.dearmor < 2 ^ 63

-- The framer was given all blocks of an input, and has found these labels and packets.
pub record Ended (accepts : Accepts) (binary : Bool) (limits : Limits) (f : Blocks) (input : List ℕ)
    (items : List Item) : Type 0 where
  pub blocks : List TextBlock
  pub holds : Holds binary limits input blocks
  pub label : Option Label
  pub octets : List ℕ
  pub framed : Framed accepts limits f blocks label octets items
  pub closed : has_begun f ≡ false

-- The outcome at the end of an input: the framer has its blocks, and has found these labels and
-- packets, and perhaps the label of the last block; or it isn't an armored text.
abbrev pub IsEnd : Accepts → Bool → Limits → Blocks → List ℕ → List Item
    → Option Opening × Result Unit Fault → Type 0
IsEnd accepts binary limits f input items (opening, ended) =
    MatchResult ended (λ _. Ended accepts binary limits f input (items ++ opened opening))
    (IsTextFault binary limits input)
