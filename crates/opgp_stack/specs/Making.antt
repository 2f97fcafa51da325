-- What an action makes of a keyring, and what is made of the parts that came so far.
use denote.Ref.{Bor}
use Rattle.std.specs.Prelude.{◌≡◌, ℕ, Bool, true, false, List, [], map, slice_get}
use Rattle.std.specs.Prelude.{MatchResult, Option, Some, None, Ok, Err}
use Rattle.std.specs.List.{flat_map}
use Rattle.opgp_octets.specs.declared.limits.Limits.{Limits}
use Rattle.opgp_keyring.specs.Composed.{PartValue, parts_of}
use Rattle.opgp_keyring.specs.Keyring.{KeyringValue, flat}
use Rattle.opgp_keyring.specs.Normal.{normal_of}
use Rattle.opgp_keyring.specs.Parts.{HasParts}
use Rattle.opgp_merge.specs.Chosen.{chosen_keyring}
use Rattle.opgp_merge.specs.Merged.{merged_of}
use Rattle.opgp_report.specs.Asked.{asked_of, question_in}
use Rattle.opgp_report.specs.Fingerprinted.{fingerprinted_report_of}
use Rattle.opgp_report.specs.Fingerprinting.{ReportsPrints}
use Rattle.opgp_report.specs.Left.{says_left}
use Rattle.opgp_report.specs.Report.{report_of}
use Rattle.opgp_report.specs.Reporting.{Reports}
use Rattle.opgp_codec.specs.IncomingParts.{IsOver, PartsCame}
use Rattle.opgp_codec.specs.declared.draft.Draft.{Draft}
use Rattle.opgp_codec.specs.declared.incoming_parts.IncomingParts.{IncomingParts}
use Rattle.opgp_codec.specs.declared.mode.Mode.{Mode}
use Rattle.opgp_codec.specs.declared.out.Out.{Out}
use Rattle.opgp_codec.specs.declared.out.Out.TheVariants as outs
use Rattle.opgp_codec.specs.Keyrings.{ComposesTo, key_label}
use Rattle.opgp_codec.specs.Reading.{AnswerOf, Outcome}
use Rattle.opgp_codec.specs.Writing.{certificates_text, packets_text}
use Rattle.opgp_stack.specs.AllOctets.{HasRows, octets_rows}
use Rattle.opgp_stack.specs.ByKey.{HasNamed}
use Rattle.opgp_stack.specs.KeyName.{name_octets}
use Rattle.opgp_stack.specs.Listing.{listing}
use Rattle.opgp_stack.specs.OnePart.{IsNth, IsRow, asked_among, certificates_in}
use Rattle.opgp_stack.specs.PartText.{text_of_part}
use Rattle.opgp_state.specs.Places.{placed_lines, places_of}
use Rattle.opgp_state.specs.Placing.{HasPlaces}
use Rattle.opgp_state.specs.Report.{fingerprinted_lines, report_lines}
use Rattle.opgp_stack.specs.Running.{Made, Text, named_made, one_text, question_made}
use Rattle.opgp_stack.specs.ValuedListing.{valued_listing}
use Rattle.opgp_stack.specs.declared.key_name.KeyName.{KeyName}
use Rattle.opgp_stack.specs.declared.keyring_text.KeyringText.{KeyringText}
use Rattle.opgp_stack.specs.declared.making.Making.{Making}
use Rattle.opgp_stack.specs.declared.making.Making.TheVariants as making
use Rattle.opgp_stack.specs.declared.named_certificates.NamedCertificates.{NamedCertificates}
use Rattle.opgp_stack.specs.declared.part_text.PartText.{PartText}
use Rattle.opgp_stack.specs.declared.part_text.PartText.TheVariants as texts
use Rattle.opgp_stack.specs.declared.task.Action.{Action}
use Rattle.opgp_stack.specs.declared.task.Action.TheVariants as action
use Rattle.opgp_stack.specs.declared.task.Task.{Task}
use Rattle.opgp_stack.specs.declared.task.Top.TheVariants as top

-- an action makes something of a keyring; the others, of packets or of a signed literal
abbrev pub is_of_parts : Action → Bool
is_of_parts action.Show = false
is_of_parts action.ShowValues = false
is_of_parts (action.Octets row top.Literal) = false
is_of_parts (action.Explain row top.Literal) = false
is_of_parts other = true

-- ---- of the parts that came so far
-- each is written in this way
abbrev pub HasTexts : {S : Type 0} → (Draft S → List ℕ → Type 0) → PartText → KeyringText S
    → List PartValue → Type 0
HasTexts has text k parts = (k.text ≡ text) × has k.draft (flat_map (text_of_part text) parts)

-- the certificates with keys of these names, or the others, are written in this way, each on its
-- own
abbrev pub HasNames : {S : Type 0} → (Draft S → List ℕ → Type 0) → Out → Bor (List KeyName) → Bool
    → NamedCertificates S → List PartValue → Type 0
HasNames has out keys except k parts = (k.out ≡ out) × (k.except ≡ except)
    × (k.wanted.names ≡ keys) × HasNamed has out (map name_octets keys.now) except k.wanted.notes
    k.draft (certificates_in parts)

-- what an action has made of them, where a draft has a text by `has`
unfoldable pub HasMade : {S : Type 0} → (Draft S → List ℕ → Type 0) → Action → Making S
    → List PartValue → Type 0
HasMade has action.List (making.Text k) parts = HasTexts has texts.Lines k parts
HasMade has action.ListValues (making.Text k) parts = HasTexts has texts.ValuedLines k parts
HasMade has action.Check (making.Report k) parts = Reports k.rows (certificates_in parts)
HasMade has action.CheckFingerprints (making.Fingerprinted k) parts =
    ReportsPrints k.rows (certificates_in parts)
HasMade has action.CheckPlaces (making.Placed k) parts =
    Reports k.checking.rows (certificates_in parts) × HasPlaces k.places parts
HasMade has (action.Octets row top.Ring) (making.Row k) parts =
    IsRow row k.left k.found (certificates_in parts)
HasMade has (action.Explain row top.Ring) (making.Row k) parts =
    IsRow row k.left k.found (certificates_in parts)
HasMade has action.OctetsAll (making.AllOctets k) parts =
    HasRows has k.rows k.draft (asked_among (certificates_in parts))
HasMade has (action.Write out) (making.Text k) parts = HasTexts has texts.AsTheyAre k parts
HasMade has (action.WriteChosen out choice) (making.Text k) parts =
    HasTexts has (texts.Chosen choice) k parts
HasMade has (action.Normalise out) (making.Text k) parts = HasTexts has texts.Normalised k parts
HasMade has (action.Split out None) (making.Text k) parts = HasTexts has (texts.Alone out) k parts
HasMade has (action.Split out (Some number)) (making.Nth k) parts =
    IsNth number k.left k.found (certificates_in parts)
HasMade has (action.SplitKeys out keys except) (making.Named k) parts =
    HasNames has out keys except k parts
HasMade has (action.Join out false) (making.Text k) parts = HasTexts has texts.AsTheyAre k parts
HasMade has (action.Join out true) (making.Ring ring) parts = HasParts ring parts
HasMade has other k parts = ⊥

-- Parts came up to the end of what a source had, but for the one that its end completes, and each
-- was kept.
pub record Keeps {R S : Type 0} (has : Draft S → List ℕ → Type 0) (left : R → Option (List ℕ))
    (failed : R → Bool) (old new : R) (p p' : IncomingParts) (m m' : Making S) : Type 0 where
  pub parts : List PartValue
  pub sound : failed new ≡ false
  pub came : (mode : Mode) (limits : Limits) (before : Option (List ℕ))
      → PartsCame mode limits before (left old) p []
      → PartsCame mode limits before (left new) p' parts
  pub over : IsOver p' (left new)
  pub made : (a : Action) → HasMade has a m [] → HasMade has a m' parts

-- ---- of the whole keyring
-- how what an action made of a keyring is written: in binary, if the parts have their form already
abbrev pub out_of : Action → Out
out_of (action.Write out) = out
out_of (action.WriteChosen out choice) = out
out_of (action.Normalise out) = out
out_of (action.Split out (Some number)) = out
out_of (action.Join out merges) = out
out_of other = outs.Binary

-- whether the octets that a question hashes are explained
abbrev pub explains_of : Action → Bool
explains_of (action.Explain row top) = true
explains_of other = false

-- what an action makes of a keyring; nothing, where it makes something else
abbrev pub ring_made : Action → KeyringValue → Made
ring_made action.List r = Text (listing (flat r))
ring_made action.ListValues r = Text (valued_listing (flat r))
ring_made action.Check r = Text (report_lines 0 (report_of says_left r))
ring_made action.CheckFingerprints r =
    Text (fingerprinted_lines 0 (fingerprinted_report_of says_left r))
ring_made action.CheckPlaces r = Text (placed_lines 0 (report_of says_left r) (places_of r))
ring_made (action.Octets row top.Ring) r =
    question_made false (question_in (slice_get (asked_of r) row))
ring_made (action.Explain row top.Ring) r =
    question_made true (question_in (slice_get (asked_of r) row))
ring_made action.OctetsAll r = Text (octets_rows (asked_of r))
ring_made (action.Write out) r = Text (packets_text out (flat r))
ring_made (action.WriteChosen out choice) r =
    Text (packets_text out (flat (chosen_keyring choice r)))
ring_made (action.Normalise out) r = Text (packets_text out (flat (normal_of r)))
ring_made (action.Split out None) r = Text (certificates_text out r.certificates)
ring_made (action.Split out (Some number)) r = one_text out (slice_get r.certificates number)
ring_made (action.SplitKeys out keys except) r = named_made out keys.now except r.certificates
ring_made (action.Join out false) r = Text (packets_text out (flat r))
ring_made (action.Join out true) r = Text (packets_text out (flat (merged_of r)))
ring_made other r = Text []

-- ---- of octets
-- they are a keyring, and this is made of all its parts; or this is their fault
abbrev pub IsMadeOf : {S : Type 0} → (Draft S → List ℕ → Type 0)
    → Task → List ℕ → Outcome (Making S)
    → Type 0
IsMadeOf has task octets answer = MatchResult answer
    (λ m. (r : KeyringValue)
    × AnswerOf key_label (ComposesTo task.limits) task.mode task.limits octets (Ok r)
    × HasMade has task.action m (parts_of r))
    (λ fault. AnswerOf {A = KeyringValue} key_label (ComposesTo task.limits)
    task.mode task.limits octets
    (Err fault))

-- the same of what is lent to be made of them
abbrev pub IsFilledOf : {S : Type 0} → (Draft S → List ℕ → Type 0)
    → Task → Making S → List ℕ → Outcome Unit
    → Type 0
IsFilledOf has task m octets answer = MatchResult answer
    (λ _. (r : KeyringValue)
    × AnswerOf key_label (ComposesTo task.limits) task.mode task.limits octets (Ok r)
    × HasMade has task.action m (parts_of r))
    (λ fault. AnswerOf {A = KeyringValue} key_label (ComposesTo task.limits)
    task.mode task.limits octets
    (Err fault))
