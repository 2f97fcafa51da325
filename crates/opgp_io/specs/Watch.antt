-- The parts of a watched reader or writer.
use Rattle.std.specs.Prelude.{Bool}
use Rattle.opgp_io.specs.declared.watched.Watched.{Watched}

-- the reader or writer that is watched
abbrev pub watched_inner : {T : Type 0} → Watched T → T
watched_inner w = w.inner

-- some call of it has failed
abbrev pub watched_failed : {T : Type 0} → Watched T → Bool
watched_failed w = w.has_failed
