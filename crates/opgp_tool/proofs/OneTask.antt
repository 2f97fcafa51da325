-- Words name one task at most.
use Rattle.std.proofs.Common.{◌≡◌, ◌∙◌, ap, sym, subst, refl, Bool, true, false, ◌||◌, ℕ, List, Option, Some, None, codes}
use Rattle.std.proofs.lemmas.Option.{same_Some, none-some}
use Rattle.std.specs.Prelude.{slice_get, option_and_then, option_map}
use Rattle.std.specs.Str.{bytes_eq}
use Rattle.std.specs.Str.Parse.{digits_value, without_leading_plus}
use Rattle.clap.specs.Walk.{row_text}
use Rattle.clap.specs.Words.{App, Row, Text, read_as, subcommand_of}
use Rattle.opgp_octets.specs.declared.limits.Limits.{Limits}
use Rattle.opgp_codec.specs.declared.mode.Mode.{Mode}
use Rattle.opgp_codec.specs.declared.out.Out.{Out}
use Rattle.opgp_stack.specs.declared.task.Action.{Action}
use Rattle.opgp_stack.specs.declared.task.Action.TheVariants as action
use Rattle.opgp_stack.specs.declared.task.Task.{Task as InputTask}
use Rattle.opgp_stack.specs.KeyText.{IsKeyText}
use Rattle.opgp_stack.specs.Time.{IsTime}
use Rattle.opgp_stack.specs.declared.stating.StateTask.{StateTask}
use Rattle.opgp_valid.specs.declared.policy.Policy.{Policy}
use Rattle.opgp_stack.specs.declared.key_name.KeyName.{KeyName}
use Rattle.opgp_stack.proofs.KeyTexts.{one_name}
use Rattle.opgp_stack.proofs.Times.{one_time_said}
use Rattle.opgp_stack.proofs.Zips.{zip_same}
use Rattle.opgp_tool.specs.Saying.{SaysRequest, SaysTask}
use Rattle.opgp_tool.specs.declared.task.Hints.{Hints}
use Rattle.opgp_tool.specs.Words.{AreNewest, AreVerdicts, Asked, AskedBeside, AskedWork, Chosen, DocumentWork, HasKeys, HasLimits, HasNumber, HasNumbers, HasTime, IsAction, IsBeside, IsChosen, IsDocumentWork, IsGivenNumber, IsNumber, IsRequest, IsSplitWork, IsStatesWith, IsTask, IsWork, SplitWork, texts_of}
use Rattle.opgp_tool.specs.Words.{of_around, of_canonical, of_cleartext, of_difference, of_digests, of_document, of_keys, of_number, of_signatures, of_split, of_states, of_task, of_write}
use Rattle.opgp_tool.proofs.Reading.{apart, not_both, other_apart, split_named, write_named}
use Rattle.opgp_tool.proofs.SameLimits.{same_limits}

one_number : (options : List Row) (id : Text) (m n : ℕ) → HasNumber options id m
    → HasNumber options id n → m ≡ n
one_number options id m n a b =
    let same : a.0 ≡ b.0 = same_Some a.0 b.0 (sym a.1 ∙ b.1) in
    a.2.value ∙ ap (λ (t : Text). digits_value 10 (without_leading_plus t)) same ∙ sym b.2.value

no_text : (o : Option Row) (t : Text) → option_and_then (λ r. slice_get r.values 0) o ≡ None
    → option_and_then row_text o ≡ Some t → ⊥
no_text None t none some = none-some t some
no_text (Some r) t none some =
    none-some t (sym (ap (option_map (read_as r.reading)) none) ∙ some)

one_given : (options : List Row) (id : Text) (m n : Option ℕ) → IsGivenNumber options id m → IsGivenNumber options id n → m ≡ n
one_given options id None None a b = refl
one_given options id None (Some n) a b = absurd (no_text _ b.0 a b.1)
one_given options id (Some m) None a b = absurd (no_text _ a.0 b a.1)
one_given options id (Some m) (Some n) a b = ap {B = Option ℕ} Some (one_number options _ m n a b)

one_list : (options : List Row) (id : Text) (m n : List ℕ) → HasNumbers options id m → HasNumbers options id n → m ≡ n
one_list options id m n a b = zip_same IsNumber (texts_of id options) m n (λ text x y p q. p.value ∙ sym q.value) a b

keys_once : (options : List Row) (a b : List KeyName) → HasKeys options a → HasKeys options b → a ≡ b
keys_once options a b x y = zip_same IsKeyText (texts_of (codes "key") options) a b (λ text k l p q. one_name text k l p q) x y

-- the command of an action
abbrev name_of : Action → Text
name_of action.Show = codes "show"
name_of action.ShowValues = codes "show"
name_of action.List = codes "list"
name_of action.ListValues = codes "list"
name_of action.Check = codes "check"
name_of action.CheckFingerprints = codes "check"
name_of action.CheckPlaces = codes "check"
name_of (action.Octets row top) = codes "octets"
name_of (action.Explain row top) = codes "octets"
name_of action.OctetsAll = codes "octets"
name_of (action.Write out) = codes "write"
name_of (action.WriteChosen out choice) = codes "write"
name_of (action.Normalise out) = codes "normalise"
name_of (action.Split out nth) = codes "split"
name_of (action.SplitKeys out keys except) = codes "split"
name_of (action.Join out merge) = codes "join"

named : (name : Text) (options : List Row) (a : Action) → IsAction name options a → name ≡ name_of a
named name options action.Show said = said.0
named name options action.ShowValues said = said.0
named name options action.List said = said.0
named name options action.ListValues said = said.0
named name options action.Check said = said.0
named name options action.CheckFingerprints said = said.0
named name options action.CheckPlaces said = said.0
named name options (action.Octets row top) said = said.0
named name options (action.Explain row top) said = said.0
named name options action.OctetsAll said = said.0
named name options (action.Write out) said = absurd said
named name options (action.WriteChosen out choice) said = absurd said
named name options (action.Normalise out) said = said.0
named name options (action.Split out nth) said = absurd said
named name options (action.SplitKeys out keys except) said = absurd said
named name options (action.Join out merge) said = said.0

one_action : (name : Text) (options : List Row) (a b : Action) → IsAction name options a
    → IsAction name options b → a ≡ b
one_action name options action.Show action.Show a b = refl
one_action name options action.ShowValues action.ShowValues a b = refl
one_action name options action.Show action.ShowValues a b = absurd (cc (a.1, b.1))
one_action name options action.ShowValues action.Show a b = absurd (cc (a.1, b.1))
one_action name options action.List action.List a b = refl
one_action name options action.ListValues action.ListValues a b = refl
one_action name options action.List action.ListValues a b = absurd (cc (a.1, b.1))
one_action name options action.ListValues action.List a b = absurd (cc (a.1, b.1))
one_action name options action.Check action.Check a b = refl
one_action name options action.CheckFingerprints action.CheckFingerprints a b = refl
one_action name options action.Check action.CheckFingerprints a b = absurd (cc (a.1, b.1))
one_action name options action.CheckFingerprints action.Check a b = absurd (cc (a.1, b.1))
one_action name options action.CheckPlaces action.CheckPlaces a b = refl
one_action name options action.Check action.CheckPlaces a b = absurd (cc (a.2, b.2))
one_action name options action.CheckPlaces action.Check a b = absurd (cc (a.2, b.2))
one_action name options action.CheckFingerprints action.CheckPlaces a b = absurd (cc (a.1, b.1))
one_action name options action.CheckPlaces action.CheckFingerprints a b = absurd (cc (a.1, b.1))
one_action name options (action.Octets row top) (action.Octets more other) a b =
    let rows : row ≡ more = one_number options _ row more a.1 b.1 in cc (rows, a.2, b.2)
one_action name options (action.Explain row top) (action.Explain more other) a b =
    let rows : row ≡ more = one_number options _ row more a.1 b.1 in cc (rows, a.2, b.2)
one_action name options (action.Octets row top) (action.Explain more other) a b = absurd (cc (a.4, b.4))
one_action name options (action.Explain row top) (action.Octets more other) a b = absurd (cc (a.4, b.4))
one_action name options action.OctetsAll action.OctetsAll a b = refl
one_action name options (action.Octets row top) action.OctetsAll a b = absurd (cc (a.3, b.1))
one_action name options action.OctetsAll (action.Octets row top) a b = absurd (cc (a.1, b.3))
one_action name options (action.Explain row top) action.OctetsAll a b = absurd (cc (a.3, b.1))
one_action name options action.OctetsAll (action.Explain row top) a b = absurd (cc (a.1, b.3))
one_action name options (action.Write out) y a b = absurd a
one_action name options (action.WriteChosen out choice) y a b = absurd a
one_action name options (action.Split out nth) y a b = absurd a
one_action name options (action.SplitKeys out keys except) y a b = absurd a
one_action name options (action.Normalise out) (action.Normalise other) a b = cc (a.1, b.1)
one_action name options (action.Join out merge) (action.Join other m) a b = cc (a.1, a.2, b.1, b.2)
one_action name options x y a b =
    let same : name_of x ≡ name_of y = sym (named name options x a) ∙ named name options y b in
    absurd (apart (ap (λ (t : Text). bytes_eq t (name_of x)) same))

one_limits : (options : List Row) (a b : Limits) → HasLimits options a → HasLimits options b → a ≡ b
one_limits options a b m n = same_limits a b (one_number options _ _ _ m.line n.line)
    (one_number options _ _ _ m.body n.body) (one_number options _ _ _ m.cert n.cert)
    (one_number options _ _ _ m.input n.input) (one_number options _ _ _ m.pieces n.pieces)
    (m.outside ∙ sym n.outside) (m.malformed ∙ sym n.malformed)

abbrev task_with : Mode → Limits → Action → InputTask
task_with mode limits action = record { mode = mode; limits = limits; action = action }

one_said : (name : Text) (options : List Row) (a b : InputTask) → IsTask name options a
    → IsTask name options b → a ≡ b
one_said name options a b m n =
    ap (λ (x : Mode). task_with x a.limits a.action) (m.mode ∙ sym n.mode)
    ∙ ap (λ (x : Limits). task_with b.mode x a.action) (one_limits options _ _ m.limits n.limits)
    ∙ ap (task_with b.mode b.limits) (one_action name options _ _ m.action n.action)

-- ---- the commands on signatures and documents
abbrev document_name : DocumentWork → Text
document_name of_signatures = codes "signatures"
document_name (of_digests file) = codes "digest"
document_name (of_around file row part) = codes "digest"
document_name of_canonical = codes "canonical"
document_name (of_cleartext part) = codes "cleartext"

document_named : (name : Text) (options : List Row) (w : DocumentWork) → IsDocumentWork name options w
    → name ≡ document_name w
document_named name options of_signatures said = said
document_named name options (of_digests file) said = said.0
document_named name options (of_around file row part) said = said.0
document_named name options of_canonical said = said
document_named name options (of_cleartext part) said = said.0

one_document_work : (name : Text) (options : List Row) (a b : DocumentWork)
    → IsDocumentWork name options a → IsDocumentWork name options b → a ≡ b
one_document_work name options of_signatures of_signatures a b = refl
one_document_work name options of_canonical of_canonical a b = refl
one_document_work name options (of_cleartext p) (of_cleartext q) a b = cc (a.1, b.1)
one_document_work name options (of_digests f) (of_digests g) a b =
    ap of_digests (same_Some f g (sym a.1 ∙ b.1))
one_document_work name options (of_around f m p) (of_around g n q) a b =
    let files : f ≡ g = same_Some f g (sym a.1 ∙ b.1) in
    let rows : m ≡ n = one_number options _ m n a.2 b.2 in
    cc (files, rows, a.3, b.3)
one_document_work name options (of_digests f) (of_around g n q) a b = absurd (no_text _ b.2.0 a.2 b.2.1)
one_document_work name options (of_around f m p) (of_digests g) a b = absurd (no_text _ a.2.0 b.2 a.2.1)
one_document_work name options x y a b =
    let same : document_name x ≡ document_name y = sym (document_named name options x a) ∙ document_named name options y b in
    absurd (apart (ap (λ (t : Text). bytes_eq t (document_name x)) same))

-- no task has their names, nor those of the states and of the difference
abbrev is_document : Text → Bool
is_document name = bytes_eq name (codes "signatures") || bytes_eq name (codes "digest") || bytes_eq name (codes "canonical") || bytes_eq name (codes "cleartext") || bytes_eq name (codes "state") || bytes_eq name (codes "diff")

of_no_task : (a : Action) → is_document (name_of a) ≡ false
of_no_task action.Show = refl
of_no_task action.ShowValues = refl
of_no_task action.List = refl
of_no_task action.ListValues = refl
of_no_task action.Check = refl
of_no_task action.CheckFingerprints = refl
of_no_task action.CheckPlaces = refl
of_no_task (action.Octets row top) = refl
of_no_task (action.Explain row top) = refl
of_no_task action.OctetsAll = refl
of_no_task (action.Write out) = refl
of_no_task (action.WriteChosen out choice) = refl
of_no_task (action.Normalise out) = refl
of_no_task (action.Split out nth) = refl
of_no_task (action.SplitKeys out keys except) = refl
of_no_task (action.Join out merge) = refl

of_documents : (w : DocumentWork) → is_document (document_name w) ≡ true
of_documents of_signatures = refl
of_documents (of_digests file) = refl
of_documents (of_around file row part) = refl
of_documents of_canonical = refl
of_documents (of_cleartext part) = refl

clash : (a : Action) (w : DocumentWork) → name_of a ≡ document_name w → ⊥
clash a w e = apart (sym (of_documents w) ∙ ap is_document (sym e) ∙ of_no_task a)

state_clash : (a : Action) → name_of a ≡ codes "state" → ⊥
state_clash a e = apart (sym (ap is_document e) ∙ of_no_task a)

of_no_states : (w : DocumentWork) → bytes_eq (document_name w) (codes "state") ≡ false
of_no_states of_signatures = refl
of_no_states (of_digests file) = refl
of_no_states (of_around file row part) = refl
of_no_states of_canonical = refl
of_no_states (of_cleartext part) = refl

document_clash : (w : DocumentWork) → document_name w ≡ codes "state" → ⊥
document_clash w e = apart (sym (ap (λ (t : Text). bytes_eq t (codes "state")) e) ∙ of_no_states w)

difference_clash : (a : Action) → name_of a ≡ codes "diff" → ⊥
difference_clash a e = apart (sym (ap is_document e) ∙ of_no_task a)

of_no_difference : (w : DocumentWork) → bytes_eq (document_name w) (codes "diff") ≡ false
of_no_difference of_signatures = refl
of_no_difference (of_digests file) = refl
of_no_difference (of_around file row part) = refl
of_no_difference of_canonical = refl
of_no_difference (of_cleartext part) = refl

documents_clash : (w : DocumentWork) → document_name w ≡ codes "diff" → ⊥
documents_clash w e = apart (sym (ap (λ (t : Text). bytes_eq t (codes "diff")) e) ∙ of_no_difference w)

states_clash : codes "state" ≡ codes "diff" → ⊥
states_clash e = apart (sym (ap (λ (t : Text). bytes_eq t (codes "diff")) e))

-- ---- states
one_at : (options : List Row) (m n : ℕ) → HasTime options m → HasTime options n → m ≡ n
one_at options m n a b =
    one_time_said b.0 m n (subst (λ (t : Text). IsTime t m) (same_Some a.0 b.0 (sym a.1 ∙ b.1)) a.2) b.2

abbrev states_with : Mode → Limits → Policy → ℕ → Bool → StateTask
states_with mode limits policy at values = record { mode = mode; limits = limits; policy = policy; at = at; values = values }

one_judged : (options : List Row) (a b : StateTask) → IsStatesWith options a → IsStatesWith options b → a ≡ b
one_judged options a b m n =
    ap (λ (x : Mode). states_with x a.limits a.policy a.at a.values) (m.mode ∙ sym n.mode)
    ∙ ap (λ (x : Limits). states_with b.mode x a.policy a.at a.values) (one_limits options _ _ m.limits n.limits)
    ∙ ap (λ (x : Policy). states_with b.mode b.limits x a.at a.values) (m.policy ∙ sym n.policy)
    ∙ ap (λ (x : ℕ). states_with b.mode b.limits b.policy x a.values) (one_at options a.at b.at m.at n.at)
    ∙ ap (states_with b.mode b.limits b.policy b.at) (m.values ∙ sym n.values)

-- ---- the commands `write` and `split`
abbrev chosen_with : Out → Bool → Bool → List ℕ → Option Text → Option ℕ → Chosen
chosen_with out own none ids file at = record { out = out; own_signatures = own; no_attributes = none; user_ids = ids; verdicts = file; newest_at = at }

one_file : (options : List Row) (f g : Option Text) → AreVerdicts options f → AreVerdicts options g → f ≡ g
one_file options None None a b = refl
one_file options (Some f) (Some g) a b = ap {B = Option Text} Some (same_Some f g (sym a.1 ∙ b.1))
one_file options None (Some g) a b = absurd (apart (sym b.0 ∙ a.0))
one_file options (Some f) None a b = absurd (apart (sym a.0 ∙ b.0))

one_newest : (options : List Row) (m n : Option ℕ) → AreNewest options m → AreNewest options n → m ≡ n
one_newest options None None a b = refl
one_newest options None (Some n) a b = absurd (apart (sym b.0 ∙ a.0))
one_newest options (Some m) None a b = absurd (apart (sym a.0 ∙ b.0))
one_newest options (Some m) (Some n) a b = ap {B = Option ℕ} Some (one_at options m n a.1 b.1)

one_chosen : (options : List Row) (x y : Chosen) → IsChosen options x → IsChosen options y → x ≡ y
one_chosen options x y a b =
    ap (λ (out : Out). chosen_with out x.own_signatures x.no_attributes x.user_ids x.verdicts x.newest_at) (a.out ∙ sym b.out)
    ∙ ap (λ (own : Bool). chosen_with y.out own x.no_attributes x.user_ids x.verdicts x.newest_at) (a.own_signatures ∙ sym b.own_signatures)
    ∙ ap (λ (none : Bool). chosen_with y.out y.own_signatures none x.user_ids x.verdicts x.newest_at) (a.no_attributes ∙ sym b.no_attributes)
    ∙ ap (λ (ids : List ℕ). chosen_with y.out y.own_signatures y.no_attributes ids x.verdicts x.newest_at) (one_list options _ x.user_ids y.user_ids a.user_ids b.user_ids)
    ∙ ap (λ (file : Option Text). chosen_with y.out y.own_signatures y.no_attributes y.user_ids file x.newest_at) (one_file options x.verdicts y.verdicts a.verdicts b.verdicts)
    ∙ ap (chosen_with y.out y.own_signatures y.no_attributes y.user_ids y.verdicts) (one_newest options x.newest_at y.newest_at a.newest b.newest)

one_split : (options : List Row) (x y : SplitWork) → IsSplitWork options x → IsSplitWork options y → x ≡ y
one_split options (of_number out nth) (of_number other m) a b =
    let same : nth ≡ m = one_given options _ nth m a.2 b.2 in cc (same, a.1, b.1)
one_split options (of_keys out keys file except) (of_keys other others f e) a b =
    let same : keys ≡ others = keys_once options keys others a.2 b.2 in cc (same, a.1, b.1, a.3, b.3, a.4, b.4)
one_split options (of_number out nth) (of_keys other others f e) a b = absurd (apart (sym b.0 ∙ a.0))
one_split options (of_keys out keys file except) (of_number other m) a b = absurd (apart (sym a.0 ∙ b.0))

abbrev document_with : Mode → Limits → DocumentWork → AskedWork
document_with mode limits work = of_document mode limits work

one_work : (name : Text) (options : List Row) (a b : AskedWork) → IsWork name options a → IsWork name options b → a ≡ b
one_work name options (of_task a) (of_task b) m n = ap of_task (one_said name options a b m n)
one_work name options (of_document x l w) (of_document y k v) m n =
    ap (λ (z : Mode). document_with z l w) (m.read ∙ sym n.read)
    ∙ ap (λ (z : Limits). document_with y z w) (one_limits options l k m.within n.within)
    ∙ ap (document_with y k) (one_document_work name options w v m.made n.made)
one_work name options (of_task a) (of_document y k v) m n =
    absurd (clash a.action v (sym (named name options a.action m.action) ∙ document_named name options v n.made))
one_work name options (of_document x l w) (of_task b) m n =
    absurd (clash b.action w (sym (named name options b.action n.action) ∙ document_named name options w m.made))
one_work name options (of_states a f) (of_states b g) m n =
    ap (λ (t : StateTask). of_states t f) (one_judged options a b m.judged n.judged) ∙ ap (of_states b) (m.verdicts ∙ sym n.verdicts)
one_work name options (of_task a) (of_states b g) m n = absurd (state_clash a.action (sym (named name options a.action m.action) ∙ n.named))
one_work name options (of_states a f) (of_task b) m n = absurd (state_clash b.action (sym (named name options b.action n.action) ∙ m.named))
one_work name options (of_document x l w) (of_states b g) m n = absurd (document_clash w (sym (document_named name options w m.made) ∙ n.named))
one_work name options (of_states a f) (of_document y k v) m n = absurd (document_clash v (sym (document_named name options v n.made) ∙ m.named))
one_work name options (of_difference x l f) (of_difference y k g) m n =
    ap (λ (z : Mode). of_difference z l f) (m.read ∙ sym n.read) ∙ ap (λ (z : Limits). of_difference y z f) (one_limits options l k m.within n.within)
    ∙ ap (of_difference y k) (same_Some f g (sym m.old ∙ n.old))
one_work name options (of_task a) (of_difference y k g) m n = absurd (difference_clash a.action (sym (named name options a.action m.action) ∙ n.named))
one_work name options (of_difference x l f) (of_task b) m n = absurd (difference_clash b.action (sym (named name options b.action n.action) ∙ m.named))
one_work name options (of_document x l w) (of_difference y k g) m n = absurd (documents_clash w (sym (document_named name options w m.made) ∙ n.named))
one_work name options (of_difference x l f) (of_document y k v) m n = absurd (documents_clash v (sym (document_named name options v n.made) ∙ m.named))
one_work name options (of_states a f) (of_difference y k g) m n = absurd (states_clash (sym m.named ∙ n.named))
one_work name options (of_difference x l f) (of_states b g) m n = absurd (states_clash (sym n.named ∙ m.named))
one_work name options (of_write x l c) (of_difference y k g) m n = absurd (apart (sym (write_named name options x l c m) ∙ other_apart name options (of_difference y k g) refl n))
one_work name options (of_split x l w) (of_difference y k g) m n = absurd (apart (sym (split_named name options x l w m) ∙ other_apart name options (of_difference y k g) refl n))
one_work name options (of_difference x l f) (of_write y k d) m n = absurd (apart (sym (write_named name options y k d n) ∙ other_apart name options (of_difference x l f) refl m))
one_work name options (of_difference x l f) (of_split y k v) m n = absurd (apart (sym (split_named name options y k v n) ∙ other_apart name options (of_difference x l f) refl m))
one_work name options (of_write x l c) (of_write y k d) m n =
    ap (λ (z : Mode). of_write z l c) (m.read ∙ sym n.read) ∙ ap (λ (z : Limits). of_write y z c) (one_limits options l k m.within n.within)
    ∙ ap (of_write y k) (one_chosen options c d m.made n.made)
one_work name options (of_split x l w) (of_split y k v) m n =
    ap (λ (z : Mode). of_split z l w) (m.read ∙ sym n.read) ∙ ap (λ (z : Limits). of_split y z w) (one_limits options l k m.within n.within)
    ∙ ap (of_split y k) (one_split options w v m.made n.made)
one_work name options (of_write x l c) (of_split y k v) m n = not_both name m.named n.named
one_work name options (of_split x l w) (of_write y k d) m n = not_both name n.named m.named
one_work name options (of_write x l c) (of_task b) m n = absurd (apart (sym (write_named name options x l c m) ∙ other_apart name options (of_task b) refl n))
one_work name options (of_write x l c) (of_document y k v) m n = absurd (apart (sym (write_named name options x l c m) ∙ other_apart name options (of_document y k v) refl n))
one_work name options (of_write x l c) (of_states b g) m n = absurd (apart (sym (write_named name options x l c m) ∙ other_apart name options (of_states b g) refl n))
one_work name options (of_split x l w) (of_task b) m n = absurd (apart (sym (split_named name options x l w m) ∙ other_apart name options (of_task b) refl n))
one_work name options (of_split x l w) (of_document y k v) m n = absurd (apart (sym (split_named name options x l w m) ∙ other_apart name options (of_document y k v) refl n))
one_work name options (of_split x l w) (of_states b g) m n = absurd (apart (sym (split_named name options x l w m) ∙ other_apart name options (of_states b g) refl n))
one_work name options (of_task a) (of_write y k d) m n = absurd (apart (sym (write_named name options y k d n) ∙ other_apart name options (of_task a) refl m))
one_work name options (of_document x l w) (of_write y k d) m n = absurd (apart (sym (write_named name options y k d n) ∙ other_apart name options (of_document x l w) refl m))
one_work name options (of_states a f) (of_write y k d) m n = absurd (apart (sym (write_named name options y k d n) ∙ other_apart name options (of_states a f) refl m))
one_work name options (of_task a) (of_split y k v) m n = absurd (apart (sym (split_named name options y k v n) ∙ other_apart name options (of_task a) refl m))
one_work name options (of_document x l w) (of_split y k v) m n = absurd (apart (sym (split_named name options y k v n) ∙ other_apart name options (of_document x l w) refl m))
one_work name options (of_states a f) (of_split y k v) m n = absurd (apart (sym (split_named name options y k v n) ∙ other_apart name options (of_states a f) refl m))

abbrev beside_with : Bool → Hints → Option Text → AskedBeside
beside_with progress hints spool = record { progress = progress; hints = hints; spool = spool }

one_beside : (options : List Row) (a b : AskedBeside) → IsBeside options a → IsBeside options b → a ≡ b
one_beside options a b m n =
    ap (λ (x : Bool). beside_with x a.hints a.spool) (m.progress ∙ sym n.progress)
    ∙ ap (λ (x : Hints). beside_with b.progress x a.spool) (m.hints ∙ sym n.hints)
    ∙ ap (beside_with b.progress b.hints) (m.spool ∙ sym n.spool)

abbrev asked_with : AskedWork → AskedBeside → Asked
asked_with work beside = record { work = work; beside = beside }

-- what is said by the same name and options
said_once : {A : Type 0} (Says : Text → List Row → A → Type 0) → ((name : Text) (options : List Row) (a b : A) → Says name options a → Says name options b → a ≡ b) → (program : App) (words : List Text) (a b : A)
    → ((name : Text) × (options : List Row) × (subcommand_of program words ≡ Some (name, options)) × Says name options a)
    → ((name : Text) × (options : List Row) × (subcommand_of program words ≡ Some (name, options)) × Says name options b) → a ≡ b
said_once Says one program words a b m n =
    let same : (m.0, m.1) ≡ (n.0, n.1) = same_Some _ _ (sym m.2 ∙ n.2) in
    one n.0 n.1 a b (subst (λ (p : Text × List Row). Says p.0 p.1 a) same m.3) n.3

pub one_task : (program : App) (words : List Text) (a b : AskedWork) → SaysTask program words a
    → SaysTask program words b → a ≡ b
one_task program words a b m n = said_once (λ name options work. IsWork name options work) one_work program words a b m n

one_asked : (name : Text) (options : List Row) (a b : Asked) → IsRequest name options a → IsRequest name options b → a ≡ b
one_asked name options a b m n =
    ap (λ (x : AskedWork). asked_with x a.beside) (one_work name options _ _ m.work n.work)
    ∙ ap (asked_with b.work) (one_beside options _ _ m.beside n.beside)

pub one_request : (program : App) (words : List Text) (a b : Asked) → SaysRequest program words a
    → SaysRequest program words b → a ≡ b
one_request program words a b m n = said_once (λ name options asked. IsRequest name options asked) one_asked program words a b m n
