use Rattle.std.proofs.Common.{length, map}
use Rattle.opgp_io.proofs.Extended.{ExtendsAllBut}
use Rattle.opgp_packet.specs.Flags.{flag_shown}
use Rattle.opgp_stack.specs.Values.{flag_words}
use Rattle.opgp_stack.proofs.values.add_each_flag.Given as goal

-- the names of all flags are added but those of the flags that are left
abbrev pub invariant-each : goal.invariant-each
invariant-each g l = ExtendsAllBut g.W.Sink.held g.W.Sink.has_failed l.fn.output l.output (flag_words l.flags (map flag_shown l.left)) (flag_words l.flags (map flag_shown l.fn.names))

abbrev pub decreases-each : goal.decreases-each
decreases-each g l = length l.left
