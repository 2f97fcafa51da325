use Rattle.opgp_keyring.specs.Block.{items_of}
use Rattle.opgp_keyring.specs.SignedGathering.{GathersSigned}
use Rattle.opgp_keyring.proofs.composing_signed.gather.Given as goal

-- the blocks so far were added
abbrev pub invariant-loop-block : goal.invariant-loop-block
invariant-loop-block l = GathersSigned l.fn.malformed l.gathering (items_of l.yielded)
