-- What is read from a source.
use Rattle.std.specs.Prelude.{◌≡◌, ℕ, ◌+◌, ◌≤◌, ◌⊎◌, Bool, true, false, List, length}
use Rattle.std.specs.Prelude.{Option, Result, Ok, Err, IfSome}
use Rattle.std.specs.Io.KnownBytes.{Consumes, IsAtEnd}
use Rattle.opgp_octets.specs.Limits.{input_limit}
use Rattle.opgp_octets.specs.Octets.{IsOctets}
use Rattle.opgp_octets.specs.declared.limits.Limits.{Limits}
use Rattle.opgp_codec.specs.declared.engine_error.EngineError.{EngineError}
use Rattle.opgp_codec.specs.declared.engine_error.EngineError.TheVariants as engine
use Rattle.opgp_codec.specs.declared.read_error.ReadError.{ReadError}
use Rattle.opgp_codec.specs.declared.read_error.ReadError.TheVariants as read
use Rattle.opgp_codec.specs.Reading.{Outcome}

-- the octets were read: all that there were, or one more than the limit
pub record Pulls (before after : Option (List ℕ)) (limit : ℕ) (octets : List ℕ) : Type 0 where
  pub each : IsOctets octets
  pub taken : Consumes before after octets
  pub all : ((length octets ≤ limit) × IsAtEnd after) ⊎ (length octets ≡ limit + 1)

-- The source was read to its end or past the limit, and this is so of the octets that came; also of
-- all that it had, where those are known.
pub record OfInput (before now : Option (List ℕ)) (limits : Limits) (Holds : List ℕ → Type 0)
    : Type 0 where
  pub came : (octets : List ℕ) × Pulls before now (input_limit limits) octets × Holds octets
  pub known : IfSome before Holds

-- A source was read to its end or past the limit, and this is so of the octets that came; also of
-- all that it had, where those are known.
pub record OfAll {R : Type 0} (left : R → Option (List ℕ)) (failed : R → Bool) (old new : R)
    (limits : Limits) (Holds : List ℕ → Type 0) : Type 0 where
  pub sound : failed new ≡ false
  pub came : (octets : List ℕ) × Pulls (left old) (left new) (input_limit limits) octets
      × Holds octets
  pub known : IfSome (left old) Holds

-- What reading returns: the result for what was read; or the source has failed, or memory ran out.
abbrev pub ReadsAs : {R A : Type 0} → (R → Option (List ℕ)) → (R → Bool) → R → R → Limits
    → (List ℕ → Outcome A → Type 0) → Result A ReadError → Type 0
ReadsAs left failed old new limits answers (Ok value) =
    OfAll left failed old new limits (λ octets. answers octets (Ok value))
ReadsAs left failed old new limits answers (Err (read.Refused fault)) =
    OfAll left failed old new limits (λ octets. answers octets (Err fault))
ReadsAs left failed old new limits answers (Err read.Read) = failed new ≡ true
ReadsAs left failed old new limits answers (Err read.Memory) = failed new ≡ false

-- the value, or the refusal as an error
abbrev pub or_refused : {A : Type 0} → Outcome A → Result A ReadError
or_refused (Ok value) = Ok value
or_refused (Err fault) = Err (read.Refused fault)

-- A refusal is a result and not an error; nothing is written. What an answer says is the value or
-- the fault.
abbrev pub AnswersAs : {A B : Type 0} → (B → Outcome A) → (Result A ReadError → Type 0)
    → Result B EngineError → Type 0
AnswersAs told reads (Ok answer) = reads (or_refused (told answer))
AnswersAs told reads (Err engine.Read) = reads (Err read.Read)
AnswersAs told reads (Err engine.Write) = ⊥
AnswersAs told reads (Err engine.Memory) = reads (Err read.Memory)

-- The result at the end of what came, unless memory ran out.
abbrev pub ReadsTo : {A : Type 0} → Option (List ℕ) → Option (List ℕ) → Limits
    → (List ℕ → Outcome A → Type 0) → Result A ReadError → Type 0
ReadsTo before now limits answers (Ok value) =
    OfInput before now limits (λ octets. answers octets (Ok value))
ReadsTo before now limits answers (Err (read.Refused fault)) =
    OfInput before now limits (λ octets. answers octets (Err fault))
ReadsTo before now limits answers (Err read.Read) = ⊥
ReadsTo before now limits answers (Err read.Memory) = Unit {0}
