-- What an option's text says as a number, and limits that are said.
use Rattle.std.proofs.lemmas.Option.{none-some, same_Some}
use Rattle.std.proofs.Common.{◌≡◌, ◌∙◌, ap, subst, sym, refl, Bool, true, false, ◌||◌, is_some, ℕ, List, Option, Some, None, Result}
use Rattle.std.specs.Prelude.{IfSome, IfNone, codes}
use Rattle.std.specs.Str.{bytes_eq}
use Rattle.std.specs.Str.Parse.{ParsesUnsigned}
use Rattle.clap.specs.Words.{Row, Text, first_of, one_of}
use Rattle.clap.specs.Matches.{ReadsOne}
use Rattle.opgp_octets.specs.declared.limits.Limits.{Limits}
use Rattle.opgp_codec.specs.declared.mode.Mode.{Mode}
use Rattle.opgp_stack.specs.declared.task.Task.{Task as InputTask}
use Rattle.opgp_stack.specs.declared.task.Action.{Action}
use Rattle.opgp_stack.specs.declared.task.Action.TheVariants as action
use Rattle.opgp_stack.specs.declared.task.Top.TheVariants as top
use Rattle.opgp_stack.specs.declared.key_name.KeyName.{KeyName}
use Rattle.opgp_tool.specs.Words.{Chosen, HasKeys, HasNumber, IsAction, IsGivenNumber, IsSplit, IsSplitWork, IsWrite, SplitWork, is_given, is_other, names_keys, top_of}
use Rattle.opgp_tool.specs.Words.{AskedWork, DocumentWork, IsDifference, IsDocument, IsDocumentWork, IsTask, IsWork}
use Rattle.opgp_tool.specs.Words.{of_around, of_canonical, of_cleartext, of_difference, of_digests, of_document, of_keys, of_number, of_signatures, of_split, of_states, of_task, of_write}
use Rattle.opgp_tool.specs.Words.{AreNewest, HasTime, IsStates}
use Rattle.opgp_stack.specs.Time.{IsTime}
use Rattle.opgp_stack.specs.declared.stating.StateTask.{StateTask}

module _ (E : Type 0) (Gives : List ℕ → Result ℕ E → Type 0)
    (parses : (t : List ℕ) (r : Result ℕ E) → Gives t r → ParsesUnsigned 64 10 t r)
    (options : List Row) (id : Text) where
  pub number_read : (r : Option ℕ) → (one_of id options ≡ None → r ≡ None)
      → ((t : List ℕ) → one_of id options ≡ Some t → ReadsOne Gives t r)
      → IfSome r (HasNumber options id)
  number_read None none value = tt
  number_read (Some n) none value = go (one_of id options) refl
    where
      go : (o : Option Text) → one_of id options ≡ o → HasNumber options id n
      go None is = absurd (cc (none is))
      go (Some t) is =
          let read = parses _ _ (value t is) in (t, is, record { digits = read.0.0; value = read.1; fits = read.0.1 })

  pub no_number_read : (r : Option ℕ)
      → ((t : List ℕ) → one_of id options ≡ Some t → ReadsOne Gives t r)
      → IfNone r ((n : ℕ) → HasNumber options id n → ⊥)
  no_number_read (Some n) value = tt
  no_number_read None value = λ n has.
      let read = value has.0 has.1 in parses _ _ read.1 (has.2.digits, has.2.fits)

pub always : {A P : Type 0} (o : Option A) → P → IfNone o P
always None p = p
always (Some a) p = tt

pub where_none : {A P : Type 0} (o : Option A) → o ≡ None → IfNone o P → P
where_none None is holds = holds
where_none (Some a) is holds = absurd (cc is)

-- an option whose text isn't a number gives none
pub no_given_number : (options : List Row) (id word : Text)
    → ((n : ℕ) → HasNumber options id n → ⊥)
    → first_of id options ≡ Some word → (given : Option ℕ) → IsGivenNumber options id given → ⊥
no_given_number options id word none is None said = none-some word (sym said ∙ is)
no_given_number options id word none is (Some n) said = none n said

pub apart : true ≡ false → ⊥
apart e = absurd cc

abbrev is_octets : Text → Bool
is_octets name = bytes_eq name (codes "octets")

-- options of octets that say neither one row nor all of a keyring are no action
pub no_octets : (options : List Row) → ((row : ℕ) → HasNumber options (codes "row") row → is_given (first_of (codes "all") options) ≡ false → ⊥)
    → (is_given (first_of (codes "all") options) ≡ true → top_of (first_of (codes "of") options) ≡ top.Ring → first_of (codes "row") options ≡ None → is_given (first_of (codes "explain") options) ≡ false → ⊥)
    → (a : Action) → IsAction (codes "octets") options a → ⊥
no_octets options one all action.Show said = absurd (apart (ap is_octets said.0))
no_octets options one all action.ShowValues said = absurd (apart (ap is_octets said.0))
no_octets options one all action.List said = absurd (apart (ap is_octets said.0))
no_octets options one all action.ListValues said = absurd (apart (ap is_octets said.0))
no_octets options one all action.Check said = absurd (apart (ap is_octets said.0))
no_octets options one all action.CheckFingerprints said = absurd (apart (ap is_octets said.0))
no_octets options one all action.CheckPlaces said = absurd (apart (ap is_octets said.0))
no_octets options one all (action.Octets row top) said = one row said.1 said.3
no_octets options one all (action.Explain row top) said = one row said.1 said.3
no_octets options one all action.OctetsAll said = all said.1 said.2 said.3 said.4
no_octets options one all (action.Write out) said = absurd said
no_octets options one all (action.WriteChosen out choice) said = absurd said
no_octets options one all (action.Normalise out) said = absurd (apart (ap is_octets said.0))
no_octets options one all (action.Split out nth) said = absurd said
no_octets options one all (action.SplitKeys out keys except) said = absurd said
no_octets options one all (action.Join out merge) said = absurd (apart (ap is_octets said.0))

abbrev is_check : Text → Bool
is_check name = bytes_eq name (codes "check")

-- fingerprints and places together are no action
pub no_check : (options : List Row) → is_given (first_of (codes "fingerprints") options) ≡ true → is_given (first_of (codes "places") options) ≡ true → (a : Action) → IsAction (codes "check") options a → ⊥
no_check options prints places action.Show said = absurd (apart (ap is_check said.0))
no_check options prints places action.ShowValues said = absurd (apart (ap is_check said.0))
no_check options prints places action.List said = absurd (apart (ap is_check said.0))
no_check options prints places action.ListValues said = absurd (apart (ap is_check said.0))
no_check options prints places action.Check said = absurd (cc (prints, said.1))
no_check options prints places action.CheckFingerprints said = absurd (cc (places, said.2))
no_check options prints places action.CheckPlaces said = absurd (cc (prints, said.1))
no_check options prints places (action.Octets row top) said = absurd (apart (ap is_check said.0))
no_check options prints places (action.Explain row top) said = absurd (apart (ap is_check said.0))
no_check options prints places action.OctetsAll said = absurd (apart (ap is_check said.0))
no_check options prints places (action.Write out) said = absurd said
no_check options prints places (action.WriteChosen out choice) said = absurd said
no_check options prints places (action.Normalise out) said = absurd (apart (ap is_check said.0))
no_check options prints places (action.Split out nth) said = absurd said
no_check options prints places (action.SplitKeys out keys except) said = absurd said
no_check options prints places (action.Join out merge) said = absurd (apart (ap is_check said.0))

abbrev is_digest : Text → Bool
is_digest name = bytes_eq name (codes "digest")

-- options of digest whose `--octets` is no number are no work
pub no_digest : (options : List Row) → ((row : Option ℕ) → IsGivenNumber options (codes "octets") row → ⊥)
    → (work : DocumentWork) → IsDocumentWork (codes "digest") options work → ⊥
no_digest options none of_signatures said = absurd (apart (ap is_digest said))
no_digest options none (of_digests file) said = none None said.2
no_digest options none (of_around file row part) said = none (Some row) said.2
no_digest options none of_canonical said = absurd (apart (ap is_digest said))
no_digest options none (of_cleartext part) said = absurd (apart (ap is_digest said.0))

-- what is no task, no document's work, no states and no difference is no work
pub no_work : (name : Text) (options : List Row) → ((task : InputTask) → IsTask name options task → ⊥)
    → ((mode : Mode) (limits : Limits) (work : DocumentWork) → IsDocument name options mode limits work → ⊥)
    → ((task : StateTask) (file : Option Text) → IsStates name options task file → ⊥)
    → ((mode : Mode) (limits : Limits) (old : Text) → IsDifference name options mode limits old → ⊥)
    → (work : AskedWork) → is_other work ≡ true → IsWork name options work → ⊥
no_work name options tasks documents states differences (of_task task) other said = tasks task said
no_work name options tasks documents states differences (of_document mode limits work) other said = documents mode limits work said
no_work name options tasks documents states differences (of_states task file) other said = states task file said
no_work name options tasks documents states differences (of_difference mode limits old) other said = differences mode limits old said
no_work name options tasks documents states differences (of_write mode limits chosen) other said = absurd (cc other)
no_work name options tasks documents states differences (of_split mode limits work) other said = absurd (cc other)

-- ---- the commands `write` and `split`
abbrev is_write : Text → Bool
is_write name = bytes_eq name (codes "write")

abbrev pub is_chooser : Text → Bool
is_chooser name = bytes_eq name (codes "write") || bytes_eq name (codes "split")

-- no action of a task is theirs
pub task_apart : (name : Text) (options : List Row) (a : Action) → IsAction name options a → is_chooser name ≡ false
task_apart name options action.Show said = ap is_chooser said.0
task_apart name options action.ShowValues said = ap is_chooser said.0
task_apart name options action.List said = ap is_chooser said.0
task_apart name options action.ListValues said = ap is_chooser said.0
task_apart name options action.Check said = ap is_chooser said.0
task_apart name options action.CheckFingerprints said = ap is_chooser said.0
task_apart name options action.CheckPlaces said = ap is_chooser said.0
task_apart name options (action.Octets row top) said = ap is_chooser said.0
task_apart name options (action.Explain row top) said = ap is_chooser said.0
task_apart name options action.OctetsAll said = ap is_chooser said.0
task_apart name options (action.Write out) said = absurd said
task_apart name options (action.WriteChosen out choice) said = absurd said
task_apart name options (action.Normalise out) said = ap is_chooser said.0
task_apart name options (action.Split out nth) said = absurd said
task_apart name options (action.SplitKeys out keys except) said = absurd said
task_apart name options (action.Join out merge) said = ap is_chooser said.0

document_apart : (name : Text) (options : List Row) (w : DocumentWork) → IsDocumentWork name options w → is_chooser name ≡ false
document_apart name options of_signatures said = ap is_chooser said
document_apart name options (of_digests file) said = ap is_chooser said.0
document_apart name options (of_around file row part) said = ap is_chooser said.0
document_apart name options of_canonical said = ap is_chooser said
document_apart name options (of_cleartext part) said = ap is_chooser said.0

pub other_apart : (name : Text) (options : List Row) (w : AskedWork) → is_other w ≡ true → IsWork name options w → is_chooser name ≡ false
other_apart name options (of_task task) other said = task_apart name options task.action said.action
other_apart name options (of_document mode limits work) other said = document_apart name options work said.made
other_apart name options (of_states task file) other said = ap is_chooser said.named
other_apart name options (of_difference mode limits old) other said = ap is_chooser said.named
other_apart name options (of_write mode limits chosen) other said = absurd (cc other)
other_apart name options (of_split mode limits work) other said = absurd (cc other)

pub write_named : (name : Text) (options : List Row) (mode : Mode) (limits : Limits) (chosen : Chosen) → IsWrite name options mode limits chosen → is_chooser name ≡ true
write_named name options mode limits chosen said = ap is_chooser said.named

pub split_named : (name : Text) (options : List Row) (mode : Mode) (limits : Limits) (work : SplitWork) → IsSplit name options mode limits work → is_chooser name ≡ true
split_named name options mode limits work said = ap is_chooser said.named

pub not_both : {P : Type 0} (name : Text) → name ≡ codes "write" → name ≡ codes "split" → P
not_both name write split = absurd (apart (sym (ap is_write write) ∙ ap is_write split))

-- options of `write`, or of `split`, that say nothing are no work
pub no_write : (name : Text) (options : List Row) → name ≡ codes "write" → ((mode : Mode) (limits : Limits) (chosen : Chosen) → IsWrite (codes "write") options mode limits chosen → ⊥) → (work : AskedWork) → IsWork name options work → ⊥
no_write name options is none (of_task task) said = apart (sym (ap is_chooser is) ∙ other_apart name options (of_task task) refl said)
no_write name options is none (of_document mode limits work) said = apart (sym (ap is_chooser is) ∙ other_apart name options (of_document mode limits work) refl said)
no_write name options is none (of_states task file) said = apart (sym (ap is_chooser is) ∙ other_apart name options (of_states task file) refl said)
no_write name options is none (of_difference mode limits old) said = apart (sym (ap is_chooser is) ∙ other_apart name options (of_difference mode limits old) refl said)
no_write name options is none (of_write mode limits chosen) said = none mode limits chosen (subst (λ (n : Text). IsWrite n options mode limits chosen) is said)
no_write name options is none (of_split mode limits work) said = not_both name is said.named

pub no_split : (name : Text) (options : List Row) → name ≡ codes "split" → ((mode : Mode) (limits : Limits) (work : SplitWork) → IsSplit (codes "split") options mode limits work → ⊥) → (work : AskedWork) → IsWork name options work → ⊥
no_split name options is none (of_task task) said = apart (sym (ap is_chooser is) ∙ other_apart name options (of_task task) refl said)
no_split name options is none (of_document mode limits work) said = apart (sym (ap is_chooser is) ∙ other_apart name options (of_document mode limits work) refl said)
no_split name options is none (of_states task file) said = apart (sym (ap is_chooser is) ∙ other_apart name options (of_states task file) refl said)
no_split name options is none (of_difference mode limits old) said = apart (sym (ap is_chooser is) ∙ other_apart name options (of_difference mode limits old) refl said)
no_split name options is none (of_write mode limits chosen) said = not_both name said.named is
no_split name options is none (of_split mode limits work) said = none mode limits work (subst (λ (n : Text). IsSplit n options mode limits work) is said)

-- nor is another command's, where it is none of those
pub no_other : (name : Text) (options : List Row) → (name ≡ codes "write" → ⊥) → (name ≡ codes "split" → ⊥) → ((work : AskedWork) → is_other work ≡ true → IsWork name options work → ⊥) → (work : AskedWork) → IsWork name options work → ⊥
no_other name options write split none (of_task task) said = none (of_task task) refl said
no_other name options write split none (of_document mode limits work) said = none (of_document mode limits work) refl said
no_other name options write split none (of_states task file) said = none (of_states task file) refl said
no_other name options write split none (of_difference mode limits old) said = none (of_difference mode limits old) refl said
no_other name options write split none (of_write mode limits chosen) said = write said.named
no_other name options write split none (of_split mode limits work) said = split said.named

pub on_none : {A P Q : Type 0} (o : Option A) → (P → Q) → IfNone o P → IfNone o Q
on_none None f p = f p
on_none (Some a) f p = tt

-- options of `split` that name keys say no number, and the others no keys
pub no_number_split : (options : List Row) → names_keys options ≡ false → ((nth : Option ℕ) → IsGivenNumber options (codes "nth") nth → is_given (first_of (codes "except") options) ≡ false → ⊥) → (work : SplitWork) → IsSplitWork options work → ⊥
no_number_split options lacks none (of_number out nth) said = none nth said.2 said.3
no_number_split options lacks none (of_keys out keys file except) said = apart (sym said.0 ∙ lacks)

pub no_keys_split : (options : List Row) → names_keys options ≡ true → ((keys : List KeyName) → HasKeys options keys → first_of (codes "nth") options ≡ None → ⊥) → (work : SplitWork) → IsSplitWork options work → ⊥
no_keys_split options has none (of_number out nth) said = apart (sym has ∙ said.0)
no_keys_split options has none (of_keys out keys file except) said = none keys said.2 said.5

pub nth_given : (o : Option Text) → is_some o ≡ true → o ≡ None → ⊥
nth_given None given lacks = absurd (cc given)
nth_given (Some t) given lacks = absurd (cc lacks)

-- a text that says no time gives none
pub no_time : (options : List Row) (text : Text) (r : Option ℕ) → Some text ≡ first_of (codes "at") options → IfNone r ((n : ℕ) → IsTime text n → ⊥) → IfNone r ((n : ℕ) → HasTime options n → ⊥)
no_time options text None is none = λ n has. none n (subst (λ (t : Text). IsTime t n) (same_Some has.0 text (sym has.1 ∙ sym is)) has.2)
no_time options text (Some n) is none = tt

pub no_newest : (options : List Row) (text : Text) → Some text ≡ first_of (codes "at") options → ((n : ℕ) → IsTime text n → ⊥) → (at : Option ℕ) → AreNewest options at → ⊥
no_newest options text is none None says = none-some text (sym says.1 ∙ sym is)
no_newest options text is none (Some n) says = none n (subst (λ (t : Text). IsTime t n) (same_Some says.1.0 text (sym says.1.1 ∙ sym is)) says.1.2)
