use Rattle.std.proofs.Common.{length}
use Rattle.opgp_keyring.specs.Packets.{packets_left}
use Rattle.opgp_io.proofs.Extended.{ExtendsAllBut}
use Rattle.opgp_stack.specs.ValuedListing.{valued_listing}
use Rattle.opgp_stack.proofs.valued_listing.add_valued_listing.Given as goal

-- all lines are added but those that are left
abbrev pub invariant-packets : goal.invariant-packets
invariant-packets g l = ExtendsAllBut g.W.Sink.held g.W.Sink.has_failed l.fn.output l.output (valued_listing (packets_left l.packets)) (valued_listing (packets_left l.initial.packets))

abbrev pub decreases-packets : goal.decreases-packets
decreases-packets g l = length (packets_left l.packets)
