-- What a run of the program makes of an input.
use Rattle.std.specs.Prelude.{◌≡◌, ◌⊎◌, ℕ, Bool, true, false, List, Option, Some, None, Result, Ok, Err}
use Rattle.std.specs.Prelude.{map, slice_get}
use Rattle.opgp_octets.specs.declared.fault.Fault.{Fault}
use Rattle.opgp_octets.specs.declared.limits.Limits.{Limits}
use Rattle.opgp_frame.specs.Packet.{PacketValue}
use Rattle.opgp_explain.specs.Lines.{explained}
use Rattle.opgp_hash.specs.Hashed.{hashed}
use Rattle.opgp_hash.specs.QuestionValue.{QuestionValue}
use Rattle.opgp_report.specs.Asked.{asked_of, question_in}
use Rattle.opgp_report.specs.Fingerprinted.{fingerprinted_report_of}
use Rattle.opgp_report.specs.Left.{says_left}
use Rattle.opgp_report.specs.Report.{report_of}
use Rattle.opgp_keyring.specs.Composition.{Item}
use Rattle.opgp_keyring.specs.Keyring.{KeyringValue, CertificateValue, certificate_packets, flat}
use Rattle.opgp_keyring.specs.Normal.{normal_of}
use Rattle.opgp_merge.specs.Chosen.{chosen_keyring}
use Rattle.opgp_merge.specs.Merged.{merged_of}
use Rattle.opgp_codec.specs.declared.draft_error.DraftError.{DraftError}
use Rattle.opgp_codec.specs.declared.draft_error.DraftError.TheVariants as draft
use Rattle.opgp_codec.specs.declared.engine_error.EngineError.{EngineError}
use Rattle.opgp_codec.specs.declared.engine_error.EngineError.TheVariants as engine
use Rattle.opgp_stack.specs.declared.run_fault.RunFault.{RunFault}
use Rattle.opgp_stack.specs.declared.run_fault.RunFault.TheVariants as run
use Rattle.opgp_stack.specs.declared.task.Action.{Action}
use Rattle.opgp_stack.specs.declared.task.Action.TheVariants as action
use Rattle.opgp_codec.specs.declared.out.Out.{Out}
use Rattle.opgp_stack.specs.declared.task.Top.TheVariants as top
use Rattle.opgp_stack.specs.declared.task.Task.{Task}
use Rattle.opgp_stack.specs.AllOctets.{octets_rows}
use Rattle.opgp_stack.specs.Hashing.{message_asked}
use Rattle.opgp_codec.specs.Draft.{IsDrafted}
use Rattle.opgp_codec.specs.Keyrings.{ComposesTo, key_label}
use Rattle.opgp_stack.specs.KeyName.{missing_in, name_octets, picked}
use Rattle.opgp_stack.specs.declared.key_name.KeyName.{KeyName}
use Rattle.opgp_stack.specs.Listing.{listing}
use Rattle.opgp_codec.specs.Packets.{ArePackets, BlockValue, any_label}
use Rattle.opgp_codec.specs.Pulled.{OfAll}
use Rattle.opgp_codec.specs.Reading.{AnswerOf, Outcome, Wanted}
use Rattle.opgp_state.specs.Places.{placed_lines, places_of}
use Rattle.opgp_state.specs.Report.{fingerprinted_lines, report_lines}
use Rattle.opgp_stack.specs.Showing.{shown_blocks}
use Rattle.opgp_stack.specs.ValuedListing.{valued_listing}
use Rattle.opgp_stack.specs.Values.{valued_blocks}
use Rattle.opgp_codec.specs.Signed.{AreSigned, message_label}
use Rattle.opgp_codec.specs.Writing.{certificates_text, packets_text}
use Rattle.opgp_codec.specs.Written.{IsWritten}

-- ---- what is made
-- a text to write, or why there is none
pub data Made : Type 0 where
  Text : List ℕ → Made
  Refused : Fault → Made
  NoSuchRow : Made
  NoSuchCertificate : Made
  NoSuchKey : ℕ → Made
  OtherVerdicts : Made

-- the octets that a question hashes, or if they are explained a line for each field of them
abbrev pub question_made : Bool → Option QuestionValue → Made
question_made false (Some q) = Text (hashed q)
question_made true (Some q) = Text (explained q)
question_made false None = NoSuchRow
question_made true None = NoSuchRow

-- the same of the signature of this number on the literal among packets
abbrev pub message_made : Bool → ℕ → List PacketValue → Made
message_made explains row packets =
    question_made explains (question_in (slice_get (message_asked packets) row))

-- one certificate, if there is one
abbrev pub one_text : Out → Option CertificateValue → Made
one_text out (Some c) = Text (packets_text out (certificate_packets c))
one_text out None = NoSuchCertificate

-- the text of what was looked for, unless the name of this number is that of no key
abbrev pub found_made : Option ℕ → List ℕ → Made
found_made None text = Text text
found_made (Some n) text = NoSuchKey n

-- the certificates with a key of one of some names, or but for those, the others, each on its own;
-- nothing, if one of the names is that of no key
abbrev pub named_made : Out → List KeyName → Bool → List CertificateValue → Made
named_made out keys except cs = found_made (missing_in (map name_octets keys) cs)
    (certificates_text out (picked (map name_octets keys) except cs))

-- what is made of an answer: a refusal stays one
abbrev pub on_value : {A : Type 0} → (A → Made) → Outcome A → Made
on_value make (Ok value) = make value
on_value make (Err fault) = Refused fault

-- what a layer on top makes of the octets, and what is made of that
abbrev pub Asks : {A : Type 0} → Wanted → (Limits → List Item → Outcome A → Type 0) → (A → Made)
    → Task → List ℕ → Made → Type 0
Asks {A} wanted top make task octets made = (answer : Outcome A)
    × AnswerOf wanted (top task.limits) task.mode task.limits octets answer
    × (made ≡ on_value make answer)

-- what is made of the packets, of the keyring, and of the signed literal
abbrev pub OfPackets : (List BlockValue → Made) → Task → List ℕ → Made → Type 0
OfPackets = Asks any_label ArePackets

abbrev pub OfRing : (KeyringValue → Made) → Task → List ℕ → Made → Type 0
OfRing = Asks key_label ComposesTo

abbrev pub OfLiteral : (List PacketValue → Made) → Task → List ℕ → Made → Type 0
OfLiteral = Asks message_label AreSigned

-- what each action makes of octets
abbrev pub MakesBy : Action → Task → List ℕ → Made → Type 0
MakesBy action.Show = OfPackets (λ blocks. Text (shown_blocks blocks))
MakesBy action.ShowValues = OfPackets (λ blocks. Text (valued_blocks blocks))
MakesBy action.List = OfRing (λ r. Text (listing (flat r)))
MakesBy action.ListValues = OfRing (λ r. Text (valued_listing (flat r)))
MakesBy action.Check = OfRing (λ r. Text (report_lines 0 (report_of says_left r)))
MakesBy action.CheckFingerprints =
    OfRing (λ r. Text (fingerprinted_lines 0 (fingerprinted_report_of says_left r)))
MakesBy action.CheckPlaces =
    OfRing (λ r. Text (placed_lines 0 (report_of says_left r) (places_of r)))
MakesBy (action.Octets row top.Ring) =
    OfRing (λ r. question_made false (question_in (slice_get (asked_of r) row)))
MakesBy (action.Octets row top.Literal) = OfLiteral (message_made false row)
MakesBy (action.Explain row top.Ring) =
    OfRing (λ r. question_made true (question_in (slice_get (asked_of r) row)))
MakesBy (action.Explain row top.Literal) = OfLiteral (message_made true row)
MakesBy action.OctetsAll = OfRing (λ r. Text (octets_rows (asked_of r)))
MakesBy (action.Write out) = OfRing (λ r. Text (packets_text out (flat r)))
MakesBy (action.WriteChosen out choice) =
    OfRing (λ r. Text (packets_text out (flat (chosen_keyring choice r))))
MakesBy (action.Normalise out) = OfRing (λ r. Text (packets_text out (flat (normal_of r))))
MakesBy (action.Split out None) = OfRing (λ r. Text (certificates_text out r.certificates))
MakesBy (action.Split out (Some n)) = OfRing (λ r. one_text out (slice_get r.certificates n))
MakesBy (action.SplitKeys out keys except) =
    OfRing (λ r. named_made out keys.now except r.certificates)
MakesBy (action.Join out false) = OfRing (λ r. Text (packets_text out (flat r)))
MakesBy (action.Join out true) = OfRing (λ r. Text (packets_text out (flat (merged_of r))))

abbrev pub Makes : Task → List ℕ → Made → Type 0
Makes task = MakesBy task.action task

-- ---- how a run ends
abbrev pub ended : Result Unit EngineError → Result Unit RunFault
ended (Ok done) = Ok done
ended (Err engine.Read) = Err run.Read
ended (Err engine.Write) = Err run.Write
ended (Err engine.Memory) = Err run.Memory

-- The text is written, as writing goes; or the run ends with its fault, and nothing is written.
abbrev pub IsMade : {W : Type 0} → (W → Option (List ℕ)) → (W → Bool) → W → W
    → Result Unit RunFault → Made → Type 0
IsMade held failed old new result (Text text) = (written : Result Unit EngineError)
    × (result ≡ ended written) × IsWritten held failed old new written text
IsMade held failed old new result (Refused fault) =
    (result ≡ Err (run.Refused fault)) × (new ≡ old)
IsMade held failed old new result NoSuchRow = (result ≡ Err run.NoSuchRow) × (new ≡ old)
IsMade held failed old new result NoSuchCertificate =
    (result ≡ Err run.NoSuchCertificate) × (new ≡ old)
IsMade held failed old new result (NoSuchKey n) = (result ≡ Err (run.NoSuchKey n)) × (new ≡ old)
IsMade held failed old new result OtherVerdicts =
    (result ≡ Err run.OtherVerdicts) × (new ≡ old)

-- A run makes this of all that the source gives, and this is so of the sink; or the source fails,
-- or memory runs out while it is read, and nothing is written.
pub data RunsOf {R W : Type 0} (left : R → Option (List ℕ)) (has_failed : R → Bool)
    (Ends : W → W → Result Unit RunFault → Made → Type 0) (limits : Limits)
    (Of : List ℕ → Made → Type 0) (reader reader' : R) (writer writer' : W)
    (result : Result Unit RunFault) : Type 0 where
  makes : OfAll left has_failed reader reader' limits (λ octets. (made : Made)
      × Of octets made × Ends writer writer' result made)
      → RunsOf left has_failed Ends limits Of reader reader' writer writer' result
  fails : result ≡ Err run.Read → has_failed reader' ≡ true → writer' ≡ writer
      → RunsOf left has_failed Ends limits Of reader reader' writer writer' result
  lacks : result ≡ Err run.Memory → has_failed reader' ≡ false → writer' ≡ writer
      → RunsOf left has_failed Ends limits Of reader reader' writer writer' result

-- .. what its task says
abbrev pub RunsBy : {R W : Type 0} → (R → Option (List ℕ)) → (R → Bool)
    → (W → W → Result Unit RunFault → Made → Type 0) → Task → R → R → W → W
    → Result Unit RunFault → Type 0
RunsBy left has_failed Ends task = RunsOf left has_failed Ends task.limits (Makes task)

-- It is made.
abbrev pub RunsAs : {R W : Type 0} → (R → Option (List ℕ)) → (R → Bool) → (W → Option (List ℕ))
    → (W → Bool) → Task → R → R → W → W → Result Unit RunFault → Type 0
RunsAs left has_failed held failed = RunsBy left has_failed (IsMade held failed)

-- ---- with a spool
abbrev pub spool_ended : Result Unit DraftError → Result Unit RunFault
spool_ended (Ok done) = Ok done
spool_ended (Err draft.Write) = Err run.Write
spool_ended (Err draft.Spool) = Err run.Spool

-- The text is written, as drafts are.
abbrev pub IsSpooled : {W : Type 0} → Bool → Bool → (W → Option (List ℕ)) → (W → Bool) → W → W
    → Result Unit RunFault → Made → Type 0
IsSpooled serves tells held failed old new result (Text text) = (written : Result Unit DraftError)
    × (result ≡ spool_ended written) × IsDrafted serves tells held failed old new written text
IsSpooled serves tells held failed old new result made = ⊥

-- It is made, or a text is written from a spool.
abbrev pub RunsSpooled : {R W : Type 0} → Bool → Bool → (R → Option (List ℕ)) → (R → Bool)
    → (W → Option (List ℕ)) → (W → Bool) → Task → R → R → W → W → Result Unit RunFault → Type 0
RunsSpooled serves tells left has_failed held failed = RunsBy left has_failed
    (λ old new result made. IsMade held failed old new result made
    ⊎ IsSpooled serves tells held failed old new result made)

-- What is read for a run: the result, or the source has failed, or memory ran out.
abbrev pub ReadsFor : {A : Type 0} → (Outcome A → Type 0) → (failed sound : Type 0)
    → Result A RunFault → Type 0
ReadsFor answer failed sound (Ok value) = answer (Ok value)
ReadsFor answer failed sound (Err (run.Refused fault)) = answer (Err fault)
ReadsFor answer failed sound (Err run.Read) = failed
ReadsFor answer failed sound (Err run.Memory) = sound
ReadsFor answer failed sound (Err other) = ⊥
