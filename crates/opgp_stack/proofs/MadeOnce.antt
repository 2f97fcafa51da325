-- A task makes one thing of octets.
use Rattle.std.proofs.Common.{◌≡◌, ◌∙◌, ℕ, true, false, List, Some, None, sym, ap, refl}
use Rattle.opgp_octets.specs.Octets.{IsOctets}
use Rattle.opgp_octets.specs.declared.limits.Limits.{Limits}
use Rattle.opgp_frame.specs.Packet.{PacketValue}
use Rattle.opgp_keyring.specs.Composition.{Item}
use Rattle.opgp_keyring.specs.Keyring.{KeyringValue}
use Rattle.opgp_codec.specs.Keyrings.{ComposesTo, key_label}
use Rattle.opgp_codec.specs.Packets.{ArePackets, BlockValue, any_label}
use Rattle.opgp_codec.specs.Reading.{AnswerOf, Outcome, Wanted}
use Rattle.opgp_stack.specs.Running.{Made, Makes, MakesBy, OfLiteral, OfPackets, OfRing, on_value}
use Rattle.opgp_codec.specs.Signed.{AreSigned, message_label}
use Rattle.opgp_codec.specs.declared.mode.Mode.{Mode}
use Rattle.opgp_stack.specs.declared.task.Action.{Action}
use Rattle.opgp_stack.specs.declared.task.Action.TheVariants as action
use Rattle.opgp_stack.specs.declared.task.Top.TheVariants as top
use Rattle.opgp_stack.specs.declared.task.Task.{Task}

-- all octets have one answer at most
abbrev pub OneOf : {A : Type 0} → Wanted → (Limits → List Item → Outcome A → Type 0) → Type 0
OneOf {A} wanted top = (mode : Mode) (limits : Limits) (input : List ℕ) → IsOctets input → (a b : Outcome A) → AnswerOf wanted (top limits) mode limits input a → AnswerOf wanted (top limits) mode limits input b → a ≡ b

-- all octets have some answer
abbrev pub SomeOf : {A : Type 0} → Wanted → (Limits → List Item → Outcome A → Type 0) → Type 0
SomeOf {A} wanted top = (mode : Mode) (limits : Limits) (input : List ℕ) → IsOctets input → (a : Outcome A) × AnswerOf wanted (top limits) mode limits input a

-- what is promised of what input is read as
pub record AnswersAreOne : Type 0 where
  pub packets : OneOf any_label ArePackets
  pub ring : OneOf key_label ComposesTo
  pub signed : OneOf message_label AreSigned

pub record AnswersAreSome : Type 0 where
  pub packets : SomeOf any_label ArePackets
  pub ring : SomeOf key_label ComposesTo
  pub signed : SomeOf message_label AreSigned

one_of : {A : Type 0} (Answers : Outcome A → Type 0) (make : Outcome A → Made) → ((x y : Outcome A) → Answers x → Answers y → x ≡ y) → (a b : Made)
    → ((x : Outcome A) × Answers x × (a ≡ make x)) → ((x : Outcome A) × Answers x × (b ≡ make x)) → a ≡ b
one_of Answers make one a b (x, h, e) (y, k, d) = e ∙ ap make (one x y h k) ∙ sym d

-- what is so whatever is made of packets, of a keyring or of a signed literal, is so of each action
by_top : (P : (Task → List ℕ → Made → Type 0) → Type 0) → ((make : List BlockValue → Made) → P (OfPackets make)) → ((make : KeyringValue → Made) → P (OfRing make)) → ((make : List PacketValue → Made) → P (OfLiteral make)) → (a : Action) → P (MakesBy a)
by_top P packets ring literal action.Show = packets _
by_top P packets ring literal action.ShowValues = packets _
by_top P packets ring literal action.List = ring _
by_top P packets ring literal action.ListValues = ring _
by_top P packets ring literal action.Check = ring _
by_top P packets ring literal action.CheckFingerprints = ring _
by_top P packets ring literal action.CheckPlaces = ring _
by_top P packets ring literal (action.Octets row top.Ring) = ring _
by_top P packets ring literal (action.Explain row top.Ring) = ring _
by_top P packets ring literal (action.Octets row top.Literal) = literal _
by_top P packets ring literal (action.Explain row top.Literal) = literal _
by_top P packets ring literal action.OctetsAll = ring _
by_top P packets ring literal (action.Write out) = ring _
by_top P packets ring literal (action.WriteChosen out choice) = ring _
by_top P packets ring literal (action.Normalise out) = ring _
by_top P packets ring literal (action.Split out None) = ring _
by_top P packets ring literal (action.Split out (Some n)) = ring _
by_top P packets ring literal (action.SplitKeys out keys except) = ring _
by_top P packets ring literal (action.Join out false) = ring _
by_top P packets ring literal (action.Join out true) = ring _

pub one_made : AnswersAreOne → (task : Task) (octets : List ℕ) → IsOctets octets → (a b : Made) → Makes task octets a → Makes task octets b → a ≡ b
one_made w task octets each a b = by_top (λ makes. makes task octets a → makes task octets b → a ≡ b)
    (λ make. one_of (λ x. AnswerOf any_label (ArePackets task.limits) task.mode task.limits octets x) (on_value make) (w.packets task.mode task.limits octets each) a b)
    (λ make. one_of (λ x. AnswerOf key_label (ComposesTo task.limits) task.mode task.limits octets x) (on_value make) (w.ring task.mode task.limits octets each) a b)
    (λ make. one_of (λ x. AnswerOf message_label (AreSigned task.limits) task.mode task.limits octets x) (on_value make) (w.signed task.mode task.limits octets each) a b) task.action

pub some_made : AnswersAreSome → (task : Task) (octets : List ℕ) → IsOctets octets → (made : Made) × Makes task octets made
some_made w task octets each = by_top (λ makes. (made : Made) × makes task octets made)
    (λ make. let (x, h) = w.packets task.mode task.limits octets each in (on_value make x, (x, h, refl)))
    (λ make. let (x, h) = w.ring task.mode task.limits octets each in (on_value make x, (x, h, refl)))
    (λ make. let (x, h) = w.signed task.mode task.limits octets each in (on_value make x, (x, h, refl))) task.action
