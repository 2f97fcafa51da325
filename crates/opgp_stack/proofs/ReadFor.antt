-- What is read for a run, and how reading ends it.
use Rattle.std.proofs.Common.{◌≡◌, ℕ, Bool, true, false, List, refl, sym, ap, subst, Option, Result, Ok, Err, IsErr}
use Rattle.std.specs.Result.{IsErrAnd}
use Rattle.opgp_octets.specs.declared.fault.Fault.{Fault}
use Rattle.opgp_octets.specs.declared.limits.Limits.{Limits}
use Rattle.opgp_keyring.specs.Composed.{PartValue}
use Rattle.opgp_keyring.specs.Parts.{AreParts}
use Rattle.opgp_codec.specs.declared.draft.Draft.{Draft}
use Rattle.opgp_codec.specs.declared.mode.Mode.{Mode}
use Rattle.opgp_codec.specs.declared.read_error.ReadError.{ReadError}
use Rattle.opgp_codec.specs.declared.read_error.ReadError.TheVariants as read
use Rattle.opgp_codec.specs.Pulled.{OfAll, OfInput, ReadsAs}
use Rattle.opgp_codec.specs.IncomingParts.{EndsAs, IsKeyring}
use Rattle.opgp_codec.specs.Reading.{Outcome}
use Rattle.opgp_codec.proofs.Pulling.{some_gives}
use Rattle.opgp_stack.specs.Faults.{run_fault_of}
use Rattle.opgp_stack.specs.Making.{HasMade, IsFilledOf}
use Rattle.opgp_stack.specs.Running.{ReadsFor}
use Rattle.opgp_stack.specs.declared.making.Making.{Making}
use Rattle.opgp_stack.specs.declared.run_fault.RunFault.{RunFault}
use Rattle.opgp_stack.specs.declared.run_fault.RunFault.TheVariants as run
use Rattle.opgp_stack.specs.declared.task.Action.{Action}
use Rattle.opgp_stack.specs.declared.task.Task.{Task}

-- ---- errors
-- what a `?` returns
abbrev pub Returns : {A : Type 0} → Result A RunFault → RunFault → Type 0
Returns result e = IsErr result × IsErrAnd result (λ y. y ≡ e)

pub err_is : {A : Type 0} (result : Result A RunFault) (e : RunFault) → Returns result e → result ≡ Err e
err_is (Ok x) e h = cc h.0
err_is (Err y) e h = ap Err h.1

module _ {A : Type 0} (answer : Outcome A → Type 0) (failed sound : Type 0) where
  pub ends_with : (result : Result A RunFault) (e : RunFault) → Returns result e → ReadsFor answer failed sound (Err e) → ReadsFor answer failed sound result
  ends_with result e err h = subst (ReadsFor answer failed sound) (sym (err_is result e err)) h

  -- the source failed, or memory ran out, before the end
  stops_at : (e : ReadError) → (e ≡ read.Read → failed) → (e ≡ read.Memory → sound) → ((fault : Fault) → e ≡ read.Refused fault → ⊥) → ReadsFor answer failed sound (Err (run_fault_of e))
  stops_at (read.Refused fault) reads lacks other = absurd (other fault refl)
  stops_at read.Read reads lacks other = reads refl
  stops_at read.Memory reads lacks other = lacks refl

  pub unread : (result : Result A RunFault) (e : ReadError) → Returns result (run_fault_of e) → (e ≡ read.Read → failed) → (e ≡ read.Memory → sound) → ((fault : Fault) → e ≡ read.Refused fault → ⊥) → ReadsFor answer failed sound result
  unread result e err reads lacks other = ends_with result (run_fault_of e) err (stops_at e reads lacks other)

-- what is read at once
pub reads_for : {R A : Type 0} (left : R → Option (List ℕ)) (failed : R → Bool) (old new : R) (limits : Limits) (answers : List ℕ → Outcome A → Type 0) (e : ReadError) → ReadsAs left failed old new limits answers (Err e)
    → ReadsFor (λ answer. OfAll left failed old new limits (λ octets. answers octets answer)) (failed new ≡ true) (failed new ≡ false) (Err (run_fault_of e))
reads_for left failed old new limits answers (read.Refused fault) h = h
reads_for left failed old new limits answers read.Read h = h
reads_for left failed old new limits answers read.Memory h = h

-- ---- the end
-- all that came is all that the source had
pub all_came : {R : Type 0} (left : R → Option (List ℕ)) (failed : R → Bool) (old new : R) (limits : Limits) (P Q : List ℕ → Type 0) → ((octets : List ℕ) → P octets → Q octets) → failed new ≡ false → OfInput (left old) (left new) limits P
    → OfAll left failed old new limits Q
all_came left failed old new limits P Q f sound h = record { sound = sound; came = (h.came.0, h.came.1, f h.came.0 h.came.2); known = some_gives (left old) P Q f h.known }

-- ---- a keyring
pub parts_whole : (mode : Mode) (limits : Limits) (before now : Option (List ℕ)) (parts : List PartValue) → IsKeyring mode limits before now parts → AreParts parts
parts_whole mode limits before now parts h = record { ring = h.came.2.0; whole = h.came.2.2 }

pub made_same : {S : Type 0} (has : Draft S → List ℕ → Type 0) (a : Action) (m n : Making S) (parts : List PartValue) → m ≡ n → HasMade has a n parts → HasMade has a m parts
made_same {S} has a m n parts e h = subst (λ (x : Making S). HasMade has a x parts) (sym e) h

-- what ends reading ends what is made of it
module _ {A B : Type 0} (from : Outcome A → Type 0) (to : Outcome B → Type 0) (failed sound : Type 0) (by : (fault : Fault) → from (Err fault) → to (Err fault)) where
  pub ends_both : (e : RunFault) → ReadsFor from failed sound (Err e) → ReadsFor to failed sound (Err e)
  ends_both (run.Refused fault) h = by fault h
  ends_both run.Read h = h
  ends_both run.Memory h = h
  ends_both run.Write h = absurd h
  ends_both run.Spool h = absurd h
  ends_both run.NoSuchRow h = absurd h
  ends_both run.NoSuchCertificate h = absurd h
  ends_both (run.NoSuchKey n) h = absurd h
  ends_both run.TooManySignatures h = absurd h
  ends_both run.OtherVerdicts h = absurd h

module _ {R S : Type 0} (has : Draft S → List ℕ → Type 0) (task : Task) (left : R → Option (List ℕ)) (failed : R → Bool) (old new : R) (m : Making S) (sound : failed new ≡ false) where
  -- of its parts something is made
  pub filled_all : (parts : List PartValue) → IsKeyring task.mode task.limits (left old) (left new) parts → HasMade has task.action m parts → OfAll left failed old new task.limits (λ octets. IsFilledOf has task m octets (Ok tt))
  filled_all parts ring made = all_came left failed old new task.limits _ _ (λ octets h. (h.0, h.1, subst (HasMade has task.action m) (sym h.2) made)) sound ring

  -- octets that are none
  none_filled : (parts : List PartValue) (e : ReadError) → EndsAs task.mode task.limits (left old) (left new) parts (Err e)
      → ReadsFor (λ answer. OfAll left failed old new task.limits (λ octets. IsFilledOf has task m octets answer)) (failed new ≡ true) (failed new ≡ false) (Err (run_fault_of e))
  none_filled parts (read.Refused fault) h = all_came left failed old new task.limits _ _ (λ octets k. k) sound h
  none_filled parts read.Read h = absurd h
  none_filled parts read.Memory h = sound

  pub unfilled : (parts : List PartValue) (result : Result Unit RunFault) (e : ReadError) → Returns result (run_fault_of e) → EndsAs task.mode task.limits (left old) (left new) parts (Err e)
      → ReadsFor (λ answer. OfAll left failed old new task.limits (λ octets. IsFilledOf has task m octets answer)) (failed new ≡ true) (failed new ≡ false) result
  unfilled parts result e err h = ends_with (λ answer. OfAll left failed old new task.limits (λ octets. IsFilledOf has task m octets answer)) (failed new ≡ true) (failed new ≡ false) result (run_fault_of e) err (none_filled parts e h)
