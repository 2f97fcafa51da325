use Rattle.std.proofs.Common.{◌≡◌, take}
use Rattle.opgp_armor.specs.Blocks.{headers_of}
use Rattle.opgp_armor.proofs.block.copy_headers.Given as goal

abbrev pub invariant-loop-key : goal.invariant-loop-key
invariant-loop-key l = headers_of l.copied.items ≡ headers_of (take l.key-index l.headers)
