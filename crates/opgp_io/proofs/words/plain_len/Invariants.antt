use Rattle.std.proofs.Common.{◌≡◌, take}
use Rattle.opgp_io.specs.Texts.{escaped}
use Rattle.opgp_io.proofs.words.plain_len.Given as goal

abbrev pub invariant-loop-i : goal.invariant-loop-i
invariant-loop-i l = escaped (take l.i l.octets) ≡ take l.i l.octets
