use Rattle.std.proofs.Common.{◌≡◌, ◌++◌, length}
use Rattle.opgp_keyring.specs.Keyring.{flat}
use Rattle.opgp_keyring.specs.Packets.{packets_left}
use Rattle.opgp_keyring.proofs.flattening.flatten.Given as goal

abbrev pub invariant-members : goal.invariant-members
invariant-members l = flat l.ring ≡ l.packets.items ++ packets_left l.members

abbrev pub decreases-members : goal.decreases-members
decreases-members l = length (packets_left l.members)
