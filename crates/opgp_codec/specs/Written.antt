-- What writing leaves.
use Rattle.std.specs.Prelude.{◌≡◌, ℕ, Bool, true, false, List, Option, Result, Ok, Err}
use Rattle.std.specs.Io.KnownBytes.{Appends}
use Rattle.opgp_codec.specs.declared.engine_error.EngineError.{EngineError}
use Rattle.opgp_codec.specs.declared.engine_error.EngineError.TheVariants.{Read, Write, Memory}
use Rattle.opgp_io.specs.Stream.{AppendsPrefix}

-- The text is written; or the sink has failed, and holds a prefix of it; or memory ran out, and
-- nothing was written.
abbrev pub IsWritten : {W : Type 0} → (W → Option (List ℕ)) → (W → Bool) → W → W
    → Result Unit EngineError → List ℕ → Type 0
IsWritten held failed old new (Ok done) text =
    Appends (held old) (held new) text × (failed new ≡ false)
IsWritten held failed old new (Err Write) text =
    AppendsPrefix (held old) (held new) text × (failed new ≡ true)
IsWritten held failed old new (Err Memory) text = new ≡ old
IsWritten held failed old new (Err Read) text = ⊥
