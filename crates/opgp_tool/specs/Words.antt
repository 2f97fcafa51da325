-- What a command line says: the command's name, and its options, a row each, as `clap` finds them.
use Rattle.std.specs.Prelude.{◌≡◌, ℕ, ◌<◌, ◌^◌, ◌||◌, Bool, List, [], Option, Some, None, true, false}
use Rattle.std.specs.Prelude.{MatchOption, codes, if◌then◌else◌, is_some, option_map, unwrap_or}
use Rattle.std.specs.List.{AllZip}
use Rattle.std.specs.Str.{bytes_eq}
use Rattle.std.specs.Str.Parse.{IsNumeral, digits_value, without_leading_plus}
use Rattle.clap.specs.Words.{Row, Text, all_of, first_of, one_of}
use Rattle.opgp_octets.specs.declared.limits.Limits.{Limits}
use Rattle.opgp_octets.specs.Limits.{line_limit, body_limit, cert_limit, input_limit, pieces_limit}
use Rattle.opgp_octets.specs.Limits.{outside_of as policy_of, malformed_of as signature_policy_of}
use Rattle.opgp_octets.specs.declared.malformed.Malformed.{Malformed}
use Rattle.opgp_octets.specs.declared.malformed.Malformed.TheVariants as malformed
use Rattle.opgp_octets.specs.declared.outside.Outside.{Outside}
use Rattle.opgp_octets.specs.declared.outside.Outside.TheVariants as outside
use Rattle.opgp_codec.specs.declared.mode.Mode.{Mode}
use Rattle.opgp_codec.specs.declared.mode.Mode.TheVariants as mode
use Rattle.opgp_codec.specs.declared.out.Out.{Out}
use Rattle.opgp_codec.specs.declared.out.Out.TheVariants as out
use Rattle.opgp_stack.specs.KeyText.{IsKeyText}
use Rattle.opgp_stack.specs.Time.{IsTime}
use Rattle.opgp_stack.specs.declared.key_name.KeyName.{KeyName}
use Rattle.opgp_stack.specs.declared.task.Top.{Top}
use Rattle.opgp_stack.specs.declared.task.Top.TheVariants as top
use Rattle.opgp_stack.specs.declared.task.Action.{Action}
use Rattle.opgp_stack.specs.declared.task.Action.TheVariants as action
use Rattle.opgp_stack.specs.declared.task.Task.{Task as InputTask}
use Rattle.opgp_stack.specs.declared.bounding.BoundTask.{BoundTask}
use Rattle.opgp_stack.specs.declared.stating.StateTask.{StateTask}
use Rattle.opgp_valid.specs.declared.policy.Policy.{Policy}
use Rattle.opgp_valid.specs.declared.policy.Policy.TheVariants.{Usual, Any}
use Rattle.opgp_stack.specs.declared.around.Around.{Around}
use Rattle.opgp_stack.specs.declared.around.Around.TheVariants as around
use Rattle.opgp_stack.specs.declared.cleartext.CleartextPart.{CleartextPart}
use Rattle.opgp_stack.specs.declared.cleartext.CleartextPart.TheVariants as part
use Rattle.opgp_tool.specs.declared.task.Hints.{Hints}
use Rattle.opgp_tool.specs.declared.task.Hints.TheVariants.{Auto, Always, Never}
use Rattle.opgp_tool.specs.declared.task.Beside.{Beside}
use Rattle.opgp_tool.specs.declared.task.Request.{Request}
use Rattle.opgp_tool.specs.declared.document.DocumentAction.{DocumentAction}
use Rattle.opgp_tool.specs.declared.document.DocumentAction.TheVariants as said
use Rattle.opgp_tool.specs.declared.split.SplitAction.{SplitAction}
use Rattle.opgp_tool.specs.declared.split.SplitAction.TheVariants as split
use Rattle.opgp_tool.specs.declared.write.WriteTask.{WriteTask}
use Rattle.opgp_tool.specs.declared.task.Task.{Task}
use Rattle.opgp_tool.specs.declared.task.Task.TheVariants as tasks

-- the text is this number of 64 bits, in decimal digits, perhaps after a plus
pub record IsNumber (text : Text) (n : ℕ) : Type 0 where
  pub digits : IsNumeral 10 (without_leading_plus text)
  pub value : n ≡ digits_value 10 (without_leading_plus text)
  pub fits : digits_value 10 (without_leading_plus text) < 2 ^ 64

-- the option has a text that is this number
abbrev pub HasNumber : List Row → Text → ℕ → Type 0
HasNumber options id n = (text : Text) × (one_of id options ≡ Some text) × IsNumber text n

-- `--mode`: `armor`, `binary`, or else `auto`
abbrev pub mode_of : Option Text → Mode
mode_of None = mode.Auto
mode_of (Some word) = if bytes_eq word (codes "armor") then mode.Armor
    else (if bytes_eq word (codes "binary") then mode.Binary else mode.Auto)

-- `--outside`: `refuse`, or else `skip`
abbrev pub outside_of : Option Text → Outside
outside_of None = outside.Skip
outside_of (Some word) =
    if bytes_eq word (codes "refuse") then outside.Refuse else outside.Skip

-- `--malformed`: `keep`, or else `refuse`
abbrev pub malformed_of : Option Text → Malformed
malformed_of None = malformed.Refuse
malformed_of (Some word) =
    if bytes_eq word (codes "keep") then malformed.Keep else malformed.Refuse

-- `--out`: `binary`, or else `armor`
abbrev pub out_of : Option Text → Out
out_of None = out.Armor
out_of (Some word) = if bytes_eq word (codes "binary") then out.Binary else out.Armor

-- `--of`: `literal`, or else `ring`
abbrev pub top_of : Option Text → Top
top_of None = top.Ring
top_of (Some word) = if bytes_eq word (codes "literal") then top.Literal else top.Ring

-- the number that an option's text is, or none if it isn't given
abbrev pub IsGivenNumber : List Row → Text → Option ℕ → Type 0
IsGivenNumber options id given = MatchOption given (first_of id options ≡ None)
    (HasNumber options id)

-- the texts of an option that may be given again and again, in order
abbrev pub texts_of : Text → List Row → List Text
texts_of id options = unwrap_or (all_of id options) []

-- the numbers that they are
abbrev pub HasNumbers : List Row → Text → List ℕ → Type 0
HasNumbers options id ns = AllZip IsNumber (texts_of id options) ns

-- `--key`: the keys that its texts name
abbrev pub HasKeys : List Row → List KeyName → Type 0
HasKeys options keys = AllZip IsKeyText (texts_of (codes "key") options) keys

-- a flag: given, for which `clap` writes the value `true`, or not
abbrev pub is_given : Option Text → Bool
is_given None = false
is_given (Some word) = bytes_eq word (codes "true")

-- each limit is the number of the option of its name, and the policies are those of `--outside` and
-- `--malformed`
pub record HasLimits (options : List Row) (limits : Limits) : Type 0 where
  pub line : HasNumber options (codes "line") (line_limit limits)
  pub body : HasNumber options (codes "body") (body_limit limits)
  pub cert : HasNumber options (codes "cert") (cert_limit limits)
  pub input : HasNumber options (codes "input") (input_limit limits)
  pub pieces : HasNumber options (codes "pieces") (pieces_limit limits)
  pub outside : policy_of limits ≡ outside_of (first_of (codes "outside") options)
  pub malformed : signature_policy_of limits
      ≡ malformed_of (first_of (codes "malformed") options)

-- the action of the command of this name with these options; `write` and `split` come below
abbrev pub IsAction : Text → List Row → Action → Type 0
IsAction name options action.Show = (name ≡ codes "show")
    × (is_given (first_of (codes "values") options) ≡ false)
IsAction name options action.ShowValues = (name ≡ codes "show")
    × (is_given (first_of (codes "values") options) ≡ true)
IsAction name options action.List = (name ≡ codes "list")
    × (is_given (first_of (codes "values") options) ≡ false)
IsAction name options action.ListValues = (name ≡ codes "list")
    × (is_given (first_of (codes "values") options) ≡ true)
IsAction name options action.Check = (name ≡ codes "check")
    × (is_given (first_of (codes "fingerprints") options) ≡ false)
    × (is_given (first_of (codes "places") options) ≡ false)
IsAction name options action.CheckFingerprints = (name ≡ codes "check")
    × (is_given (first_of (codes "fingerprints") options) ≡ true)
    × (is_given (first_of (codes "places") options) ≡ false)
IsAction name options action.CheckPlaces = (name ≡ codes "check")
    × (is_given (first_of (codes "fingerprints") options) ≡ false)
    × (is_given (first_of (codes "places") options) ≡ true)
IsAction name options (action.Octets row top) = (name ≡ codes "octets")
    × HasNumber options (codes "row") row × (top ≡ top_of (first_of (codes "of") options))
    × (is_given (first_of (codes "all") options) ≡ false)
    × (is_given (first_of (codes "explain") options) ≡ false)
IsAction name options (action.Explain row top) = (name ≡ codes "octets")
    × HasNumber options (codes "row") row × (top ≡ top_of (first_of (codes "of") options))
    × (is_given (first_of (codes "all") options) ≡ false)
    × (is_given (first_of (codes "explain") options) ≡ true)
IsAction name options action.OctetsAll = (name ≡ codes "octets")
    × (is_given (first_of (codes "all") options) ≡ true)
    × (top_of (first_of (codes "of") options) ≡ top.Ring)
    × (first_of (codes "row") options ≡ None)
    × (is_given (first_of (codes "explain") options) ≡ false)
IsAction name options (action.Normalise out) = (name ≡ codes "normalise")
    × (out ≡ out_of (first_of (codes "out") options))
IsAction name options (action.Join out merge) = (name ≡ codes "join")
    × (out ≡ out_of (first_of (codes "out") options))
    × (merge ≡ is_given (first_of (codes "merge") options))
IsAction name options other = ⊥

-- the task of the command of this name with these options
pub record IsTask (name : Text) (options : List Row) (task : InputTask) : Type 0 where
  pub mode : task.mode ≡ mode_of (first_of (codes "mode") options)
  pub limits : HasLimits options task.limits
  pub action : IsAction name options task.action

-- `--at`: the time that its text says
abbrev pub HasTime : List Row → ℕ → Type 0
HasTime options n = (text : Text) × (first_of (codes "at") options ≡ Some text) × IsTime text n

-- ---- the command `write`
-- which parts of certificates it writes, and how: `--own-signatures`, `--no-attributes`,
-- `--user-id`; the name of the file of `--verdicts`, by which it writes bound parts alone; and the
-- time of `--newest`
pub record Chosen : Type 0 where
  pub out : Out
  pub own_signatures : Bool
  pub no_attributes : Bool
  pub user_ids : List ℕ
  pub verdicts : Option Text
  pub newest_at : Option ℕ

-- `--bound` takes `--verdicts`, which takes `--bound`; they don't take `--user-id`
abbrev pub AreVerdicts : List Row → Option Text → Type 0
AreVerdicts options None = (is_given (first_of (codes "bound") options) ≡ false)
    × (first_of (codes "verdicts") options ≡ None)
AreVerdicts options (Some file) = (is_given (first_of (codes "bound") options) ≡ true)
    × (first_of (codes "verdicts") options ≡ Some file)
    × (first_of (codes "user-id") options ≡ None)

-- `--newest` takes `--bound` and `--at`, which takes `--newest`
abbrev pub AreNewest : List Row → Option ℕ → Type 0
AreNewest options None = (is_given (first_of (codes "newest") options) ≡ false)
    × (first_of (codes "at") options ≡ None)
AreNewest options (Some n) = (is_given (first_of (codes "newest") options) ≡ true)
    × HasTime options n × (is_given (first_of (codes "bound") options) ≡ true)

pub record IsChosen (options : List Row) (chosen : Chosen) : Type 0 where
  pub out : chosen.out ≡ out_of (first_of (codes "out") options)
  pub own_signatures : chosen.own_signatures
      ≡ is_given (first_of (codes "own-signatures") options)
  pub no_attributes : chosen.no_attributes
      ≡ is_given (first_of (codes "no-attributes") options)
  pub user_ids : HasNumbers options (codes "user-id") chosen.user_ids
  pub verdicts : AreVerdicts options chosen.verdicts
  pub newest : AreNewest options chosen.newest_at

pub record IsWrite (name : Text) (options : List Row) (mode : Mode) (limits : Limits)
    (chosen : Chosen) : Type 0 where
  pub named : name ≡ codes "write"
  pub read : mode ≡ mode_of (first_of (codes "mode") options)
  pub within : HasLimits options limits
  pub made : IsChosen options chosen

-- the action that writes these parts: all, or those of a choice
abbrev pub Writes : Chosen → Action → Type 0
Writes chosen (action.Write out) = (out ≡ chosen.out) × (chosen.own_signatures ≡ false)
    × (chosen.no_attributes ≡ false) × (chosen.user_ids ≡ [])
Writes chosen (action.WriteChosen out choice) = (out ≡ chosen.out)
    × (choice.own_signatures ≡ chosen.own_signatures)
    × (choice.no_attributes ≡ chosen.no_attributes) × (choice.user_ids.now ≡ chosen.user_ids)
Writes chosen other = ⊥

-- the task that writes those of them that are bound
abbrev pub WritesBound : Chosen → BoundTask → Type 0
WritesBound chosen task = (task.out ≡ chosen.out)
    × (task.choice.own_signatures ≡ chosen.own_signatures)
    × (task.choice.no_attributes ≡ chosen.no_attributes)
    × (task.choice.user_ids.now ≡ chosen.user_ids) × (task.newest_at ≡ chosen.newest_at)

-- ---- the command `split`
-- every certificate, or that of a number; or those with keys that are named, and that are named in
-- a file, if there is one, or all but those
pub data SplitWork : Type 0 where
  of_number : Out → Option ℕ → SplitWork
  of_keys : Out → List KeyName → Option Text → Bool → SplitWork

-- `--key` or `--keys` is given
abbrev pub names_keys : List Row → Bool
names_keys options =
    is_some (first_of (codes "key") options) || is_some (first_of (codes "keys") options)

-- `--except` takes `--key` or `--keys`; these don't take `--nth`
abbrev pub IsSplitWork : List Row → SplitWork → Type 0
IsSplitWork options (of_number out nth) = (names_keys options ≡ false)
    × (out ≡ out_of (first_of (codes "out") options)) × IsGivenNumber options (codes "nth") nth
    × (is_given (first_of (codes "except") options) ≡ false)
IsSplitWork options (of_keys out keys file except) = (names_keys options ≡ true)
    × (out ≡ out_of (first_of (codes "out") options)) × HasKeys options keys
    × (file ≡ first_of (codes "keys") options)
    × (except ≡ is_given (first_of (codes "except") options))
    × (first_of (codes "nth") options ≡ None)

pub record IsSplit (name : Text) (options : List Row) (mode : Mode) (limits : Limits)
    (work : SplitWork) : Type 0 where
  pub named : name ≡ codes "split"
  pub read : mode ≡ mode_of (first_of (codes "mode") options)
  pub within : HasLimits options limits
  pub made : IsSplitWork options work

-- ---- the commands on detached signatures and their documents
-- what each makes; the text is the name of the file of signatures
pub data DocumentWork : Type 0 where
  of_signatures : DocumentWork
  of_digests : Text → DocumentWork
  of_around : Text → ℕ → Around → DocumentWork
  of_canonical : DocumentWork
  of_cleartext : CleartextPart → DocumentWork

-- `--salt`: what a signature hashes in front of its document, or else what it hashes behind it
abbrev pub part_of : Bool → Around
part_of true = around.Front
part_of false = around.Behind

-- `--of` of a cleartext message: `hashed`, `signatures`, or else `document`
abbrev pub cleartext_part_of : Option Text → CleartextPart
cleartext_part_of None = part.Document
cleartext_part_of (Some word) = if bytes_eq word (codes "hashed") then part.Hashed
    else (if bytes_eq word (codes "signatures") then part.Signatures else part.Document)

-- the work of the command of this name with these options
abbrev pub IsDocumentWork : Text → List Row → DocumentWork → Type 0
IsDocumentWork name options of_signatures = name ≡ codes "signatures"
IsDocumentWork name options (of_digests file) = (name ≡ codes "digest")
    × (first_of (codes "signatures") options ≡ Some file)
    × (first_of (codes "octets") options ≡ None)
    × (is_given (first_of (codes "salt") options) ≡ false)
IsDocumentWork name options (of_around file row part) = (name ≡ codes "digest")
    × (first_of (codes "signatures") options ≡ Some file) × HasNumber options (codes "octets") row
    × (part ≡ part_of (is_given (first_of (codes "salt") options)))
IsDocumentWork name options of_canonical = name ≡ codes "canonical"
IsDocumentWork name options (of_cleartext part) = (name ≡ codes "cleartext")
    × (part ≡ cleartext_part_of (first_of (codes "of") options))

-- ---- the command `state`
-- `--policy`: `any`, or else `usual`
abbrev pub reliance_of : Option Text → Policy
reliance_of None = Usual
reliance_of (Some word) = if bytes_eq word (codes "any") then Any else Usual

pub record IsStatesWith (options : List Row) (task : StateTask) : Type 0 where
  pub mode : task.mode ≡ mode_of (first_of (codes "mode") options)
  pub limits : HasLimits options task.limits
  pub policy : task.policy ≡ reliance_of (first_of (codes "policy") options)
  pub at : HasTime options task.at
  pub values : task.values ≡ is_given (first_of (codes "values") options)

-- the states of the command of this name with these options, and the name of the file of
-- `--verdicts`, if it is given
pub record IsStates (name : Text) (options : List Row) (task : StateTask) (file : Option Text)
    : Type 0 where
  pub named : name ≡ codes "state"
  pub judged : IsStatesWith options task
  pub verdicts : file ≡ first_of (codes "verdicts") options

-- ---- the command `diff`
-- the name of the file of `--old`
pub record IsDifference (name : Text) (options : List Row) (mode : Mode) (limits : Limits)
    (file : Text) : Type 0 where
  pub named : name ≡ codes "diff"
  pub read : mode ≡ mode_of (first_of (codes "mode") options)
  pub within : HasLimits options limits
  pub old : first_of (codes "old") options ≡ Some file

-- ---- all of them
-- a task; or how the input is read, within which limits, and what is made of signatures, or is
-- written; or states, by the verdicts of a file, if there is one; or what changed from the keyring
-- in a file
pub data AskedWork : Type 0 where
  of_task : InputTask → AskedWork
  of_document : Mode → Limits → DocumentWork → AskedWork
  of_states : StateTask → Option Text → AskedWork
  of_difference : Mode → Limits → Text → AskedWork
  of_write : Mode → Limits → Chosen → AskedWork
  of_split : Mode → Limits → SplitWork → AskedWork

pub record IsDocument (name : Text) (options : List Row) (mode : Mode) (limits : Limits)
    (work : DocumentWork) : Type 0 where
  pub read : mode ≡ mode_of (first_of (codes "mode") options)
  pub within : HasLimits options limits
  pub made : IsDocumentWork name options work

abbrev pub IsWork : Text → List Row → AskedWork → Type 0
IsWork name options (of_task task) = IsTask name options task
IsWork name options (of_document mode limits work) = IsDocument name options mode limits work
IsWork name options (of_states task file) = IsStates name options task file
IsWork name options (of_difference mode limits old) = IsDifference name options mode limits old
IsWork name options (of_write mode limits chosen) = IsWrite name options mode limits chosen
IsWork name options (of_split mode limits work) = IsSplit name options mode limits work

-- it is neither that of `write` nor that of `split`
abbrev pub is_other : AskedWork → Bool
is_other (of_write mode limits chosen) = false
is_other (of_split mode limits work) = false
is_other other = true

-- `--quiet` is the same as `--hints never`; else `--hints` says it: `always`, `never`, or `auto`
abbrev pub hints_of : Bool → Option Text → Hints
hints_of true word = Never
hints_of false None = Auto
hints_of false (Some word) = if bytes_eq word (codes "always") then Always
    else (if bytes_eq word (codes "never") then Never else Auto)

-- a line for people is written: always, never, or where standard error is a terminal or the line
-- tells of a loss
abbrev pub shows : Hints → Bool → Bool → Bool
shows Always is_terminal is_loss = true
shows Never is_terminal is_loss = false
shows Auto is_terminal is_loss = is_terminal || is_loss

-- what a command line asks for beside its task: whether `--progress` is given, when a line for
-- people is written, and the directory of `--spool`, if it is given
pub record AskedBeside : Type 0 where
  pub progress : Bool
  pub hints : Hints
  pub spool : Option Text

abbrev pub nothing_asked : AskedBeside
nothing_asked = record { progress = false; hints = Auto; spool = None }

pub record IsBeside (options : List Row) (beside : AskedBeside) : Type 0 where
  pub progress : beside.progress ≡ is_given (first_of (codes "progress") options)
  pub hints : beside.hints ≡ hints_of (is_given (first_of (codes "quiet") options))
      (first_of (codes "hints") options)
  pub spool : beside.spool ≡ first_of (codes "spool") options

-- what a command line asks for: the work of its task, and what is asked beside it
pub record Asked : Type 0 where
  pub work : AskedWork
  pub beside : AskedBeside

abbrev pub document_said : DocumentAction → DocumentWork
document_said said.Signatures = of_signatures
document_said (said.Digests file) = of_digests file.now
document_said (said.Around file row part) = of_around file.now row part
document_said said.Canonical = of_canonical
document_said (said.Cleartext part) = of_cleartext part

abbrev pub chosen_said : WriteTask → Chosen
chosen_said task = record {
  out = task.out;
  own_signatures = task.own_signatures;
  no_attributes = task.no_attributes;
  user_ids = task.user_ids.items;
  verdicts = option_map (λ word. word.now) task.verdicts;
  newest_at = task.newest_at;
}

abbrev pub split_said : SplitAction → SplitWork
split_said (split.Number out nth) = of_number out nth
split_said (split.Keys out keys file except) =
    of_keys out keys.items (option_map (λ word. word.now) file) except

abbrev pub work_said : Task → AskedWork
work_said (tasks.Input input) = of_task input
work_said (tasks.Document document) =
    of_document document.mode document.limits (document_said document.action)
work_said (tasks.States states) =
    of_states states.task (option_map (λ word. word.now) states.verdicts)
work_said (tasks.Difference difference) =
    of_difference difference.mode difference.limits difference.old.now
work_said (tasks.Write written) = of_write written.mode written.limits (chosen_said written)
work_said (tasks.Split parted) = of_split parted.mode parted.limits (split_said parted.action)

abbrev pub beside_said : Beside → AskedBeside
beside_said beside = record {
  progress = beside.progress;
  hints = beside.hints;
  spool = option_map (λ word. word.now) beside.spool;
}

abbrev pub asked_by : Request → Asked
asked_by request = record {
  work = work_said request.task;
  beside = beside_said request.beside;
}

pub record IsRequest (name : Text) (options : List Row) (asked : Asked) : Type 0 where
  pub work : IsWork name options asked.work
  pub beside : IsBeside options asked.beside
