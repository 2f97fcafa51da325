-- How a run goes by what was read and made.
use Rattle.std.proofs.Common.{◌≡◌, ◌⊎◌, inl, inr, ℕ, Bool, true, false, List, refl, sym, subst, Option, Result, Ok, Err}
use Rattle.opgp_octets.specs.declared.fault.Fault.{Fault}
use Rattle.opgp_octets.specs.declared.limits.Limits.{Limits}
use Rattle.opgp_stack.specs.declared.run_fault.RunFault.{RunFault}
use Rattle.opgp_stack.specs.declared.run_fault.RunFault.TheVariants as run
use Rattle.opgp_stack.specs.declared.task.Action.{Action}
use Rattle.opgp_stack.specs.declared.task.Task.{Task}
use Rattle.opgp_codec.specs.declared.draft_error.DraftError.TheVariants as draft
use Rattle.opgp_codec.specs.declared.engine_error.EngineError.TheVariants as engine
use Rattle.opgp_codec.specs.Pulled.{OfAll}
use Rattle.opgp_codec.specs.Reading.{Outcome}
use Rattle.opgp_stack.specs.Running.{IsMade, Made, MakesBy, ReadsFor, Refused, RunsAs, RunsBy, RunsOf, RunsSpooled, IsSpooled, Text, NoSuchRow, NoSuchCertificate, NoSuchKey, OtherVerdicts, makes, fails, lacks}
use Rattle.opgp_codec.proofs.Pulling.{of_all}
use Rattle.opgp_stack.proofs.ReadFor.{Returns, err_is}

-- what stopped a run ends it
module _ {R W A : Type 0} {left : R → Option (List ℕ)} {has_failed : R → Bool} {Ends : W → W → Result Unit RunFault → Made → Type 0} {limits : Limits} {Of : List ℕ → Made → Type 0} {reader reader' : R} {writer : W} (answers : List ℕ → Outcome A → Type 0) (refused : (fault : Fault) → Ends writer writer (Err (run.Refused fault)) (Refused fault)) where
  -- something is made of what was read
  pub ran_of : (writer' : W) (result end : Result Unit RunFault) (value : A) → ((octets : List ℕ) → answers octets (Ok value) → (made : Made) × Of octets made × Ends writer writer' end made)
      → OfAll left has_failed reader reader' limits (λ octets. answers octets (Ok value)) → result ≡ end → RunsOf left has_failed Ends limits Of reader reader' writer writer' result
  ran_of writer' result end value by read same =
      makes (of_all left has_failed reader reader' limits _ _ (λ octets h. let k = by octets h in (k.0, k.1, subst (λ (r : Result Unit RunFault). Ends writer writer' r k.0) (sym same) k.2)) read)

  stops : (e : RunFault) → ((octets : List ℕ) (fault : Fault) → answers octets (Err fault) → Of octets (Refused fault))
      → ReadsFor (λ answer. OfAll left has_failed reader reader' limits (λ octets. answers octets answer)) (has_failed reader' ≡ true) (has_failed reader' ≡ false) (Err e)
      → RunsOf left has_failed Ends limits Of reader reader' writer writer (Err e)
  stops (run.Refused fault) by read =
      makes (of_all left has_failed reader reader' limits _ _ (λ octets h. (Refused fault, by octets fault h, refused fault)) read)
  stops run.Read by read = fails refl read refl
  stops run.Memory by read = lacks refl read refl
  stops run.Write by read = absurd read
  stops run.Spool by read = absurd read
  stops run.NoSuchRow by read = absurd read
  stops run.NoSuchCertificate by read = absurd read
  stops (run.NoSuchKey n) by read = absurd read
  stops run.TooManySignatures by read = absurd read
  stops run.OtherVerdicts by read = absurd read

  -- there is nothing to make it of
  pub stopped_of : (result : Result Unit RunFault) (e : RunFault) → ((octets : List ℕ) (fault : Fault) → answers octets (Err fault) → Of octets (Refused fault))
      → ReadsFor (λ answer. OfAll left has_failed reader reader' limits (λ octets. answers octets answer)) (has_failed reader' ≡ true) (has_failed reader' ≡ false) (Err e)
      → Returns result e → RunsOf left has_failed Ends limits Of reader reader' writer writer result
  stopped_of result e by read err = subst (λ (r : Result Unit RunFault). RunsOf left has_failed Ends limits Of reader reader' writer writer r) (sym (err_is result e err)) (stops e by read)

-- the same of a task with this action
module _ {R W A : Type 0} {left : R → Option (List ℕ)} {has_failed : R → Bool} {Ends : W → W → Result Unit RunFault → Made → Type 0} {reader reader' : R} {writer : W} (task : Task) (answers : List ℕ → Outcome A → Type 0) (a : Action) (is : task.action ≡ a) (refused : (fault : Fault) → Ends writer writer (Err (run.Refused fault)) (Refused fault)) where
  pub ran : (writer' : W) (result end : Result Unit RunFault) (value : A) → ((octets : List ℕ) → answers octets (Ok value) → (made : Made) × MakesBy a task octets made × Ends writer writer' end made)
      → OfAll left has_failed reader reader' task.limits (λ octets. answers octets (Ok value)) → result ≡ end → RunsBy left has_failed Ends task reader reader' writer writer' result
  ran writer' result end value by read same =
      ran_of answers refused writer' result end value (λ octets h. let k = by octets h in (k.0, subst (λ (b : Action). MakesBy b task octets k.0) (sym is) k.1, k.2)) read same

  pub stopped : (result : Result Unit RunFault) (e : RunFault) → ((octets : List ℕ) (fault : Fault) → answers octets (Err fault) → MakesBy a task octets (Refused fault))
      → ReadsFor (λ answer. OfAll left has_failed reader reader' task.limits (λ octets. answers octets answer)) (has_failed reader' ≡ true) (has_failed reader' ≡ false) (Err e)
      → Returns result e → RunsBy left has_failed Ends task reader reader' writer writer result
  stopped result e by read err =
      stopped_of answers refused result e (λ octets fault h. subst (λ (b : Action). MakesBy b task octets (Refused fault)) (sym is) (by octets fault h)) read err

-- ---- with no spool
made_unspooled : {W : Type 0} (held : W → Option (List ℕ)) (failed : W → Bool) (old new : W) (r : Result Unit RunFault) (made : Made) → IsMade held failed old new r made ⊎ IsSpooled false false held failed old new r made → IsMade held failed old new r made
made_unspooled held failed old new r made (inl h) = h
made_unspooled held failed old new r (Text text) (inr (Ok done, e, k)) = (Ok tt, e, (k.1 refl, k.0))
made_unspooled held failed old new r (Text text) (inr (Err draft.Write, e, k)) = (Err engine.Write, e, (k.1 refl, k.0))
made_unspooled held failed old new r (Text text) (inr (Err draft.Spool, e, k)) = absurd (cc k.0)
made_unspooled held failed old new r (Refused fault) (inr h) = absurd h
made_unspooled held failed old new r NoSuchRow (inr h) = absurd h
made_unspooled held failed old new r NoSuchCertificate (inr h) = absurd h
made_unspooled held failed old new r (NoSuchKey n) (inr h) = absurd h
made_unspooled held failed old new r OtherVerdicts (inr h) = absurd h

pub unspooled : {R W : Type 0} {left : R → Option (List ℕ)} {has_failed : R → Bool} (held : W → Option (List ℕ)) (failed : W → Bool) (task : Task) {reader reader' : R} {writer writer' : W} {result : Result Unit RunFault}
    → RunsSpooled false false left has_failed held failed task reader reader' writer writer' result → RunsAs left has_failed held failed task reader reader' writer writer' result
unspooled {left} {has_failed} held failed task {reader} {reader'} {writer} {writer'} {result} (makes h) =
    makes (of_all left has_failed reader reader' task.limits _ _ (λ octets k. (k.0, k.1, made_unspooled held failed writer writer' result k.0 k.2)) h)
unspooled held failed task (fails e f g) = fails e f g
unspooled held failed task (lacks e f g) = lacks e f g

-- what was made with no spool
pub spooled : {R W : Type 0} {left : R → Option (List ℕ)} {has_failed : R → Bool} (held : W → Option (List ℕ)) (failed : W → Bool) (task : Task) {reader reader' : R} {writer writer' : W} {result : Result Unit RunFault} (serves tells : Bool)
    → RunsAs left has_failed held failed task reader reader' writer writer' result → RunsSpooled serves tells left has_failed held failed task reader reader' writer writer' result
spooled {left} {has_failed} held failed task {reader} {reader'} serves tells (makes h) =
    makes (of_all left has_failed reader reader' task.limits _ _ (λ octets k. (k.0, k.1, inl k.2)) h)
spooled held failed task serves tells (fails e f g) = fails e f g
spooled held failed task serves tells (lacks e f g) = lacks e f g
