use Rattle.std.proofs.Common.{take}
use Rattle.opgp_armor.specs.Blocks.{headers_of}
use Rattle.opgp_armor.specs.Written.{AreWritable}
use Rattle.opgp_calls.proofs.headers.are_writable.Given as goal

-- those so far can be written
abbrev pub invariant-loop-key : goal.invariant-loop-key
invariant-loop-key l = AreWritable (headers_of (take l.key-index l.headers))
