use Rattle.std.proofs.Common.{All, take}
use Rattle.opgp_keyring.specs.Bodies.{IsSound}
use Rattle.opgp_keyring.specs.Block.{placed_of}
use Rattle.opgp_keyring.proofs.checking.check_bodies_by.Given as goal

-- the packets of the blocks so far are sound
abbrev pub invariant-loop-block : goal.invariant-loop-block
invariant-loop-block l = All (IsSound l.malformed) (placed_of (take l.block-index l.blocks))
