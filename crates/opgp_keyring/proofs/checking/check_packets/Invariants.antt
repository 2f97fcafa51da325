use Rattle.std.proofs.Common.{All, take}
use Rattle.opgp_keyring.specs.Bodies.{IsSound}
use Rattle.opgp_keyring.proofs.checking.check_packets.Given as goal

-- the packets so far are sound
abbrev pub invariant-loop-placed : goal.invariant-loop-placed
invariant-loop-placed l = All (IsSound l.malformed) (take l.placed-index l.packets)
