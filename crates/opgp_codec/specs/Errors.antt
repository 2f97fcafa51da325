-- The numbers of what ends reading and writing, which stay.
use Rattle.std.specs.Prelude.{ℕ}
use Rattle.opgp_codec.specs.declared.engine_error.EngineError.{EngineError}
use Rattle.opgp_codec.specs.declared.engine_error.EngineError.TheVariants as engine

abbrev pub engine_number : EngineError → ℕ
engine_number engine.Read = 60
engine_number engine.Write = 61
engine_number engine.Memory = 62
