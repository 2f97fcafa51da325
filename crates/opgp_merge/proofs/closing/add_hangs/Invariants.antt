use Rattle.std.proofs.Common.{◌≡◌, ◌++◌, drop}
use Rattle.opgp_keyring.specs.Keyring.{certificate_packets}
use Rattle.opgp_merge.proofs.closing.add_hangs.Given as goal

abbrev pub invariant-loop-packet : goal.invariant-loop-packet
invariant-loop-packet l = certificate_packets l.closed ++ drop l.packet-index l.hangs ≡ certificate_packets l.fn.closed ++ l.hangs
