use Rattle.std.proofs.Common.{◌≡◌, ◌+◌, length}
use Rattle.opgp_keyring.specs.Member.{members_left}
use Rattle.opgp_state.proofs.place_maker.packets_behind.Given as goal

abbrev pub invariant-packets : goal.invariant-packets
invariant-packets l = l.number + length (members_left l.packets) ≡ l.fn.first + length (members_left l.fn.packets)

abbrev pub decreases-packets : goal.decreases-packets
decreases-packets l = length (members_left l.packets)
