use Rattle.std.proofs.Common.{◌≡◌, length}
use Rattle.opgp_keyring.specs.Grouped.{components_left}
use Rattle.opgp_keyring.specs.Member.{members_left}
use Rattle.opgp_keyring.proofs.component.Components.next.Given as goal

-- no component was passed
abbrev pub invariant-packets : goal.invariant-packets
invariant-packets l = components_left l.fn.self ≡ components_left l.self

abbrev pub decreases-packets : goal.decreases-packets
decreases-packets l = length (members_left l.self.left)
