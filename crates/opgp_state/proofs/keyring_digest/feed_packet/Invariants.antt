use Rattle.std.proofs.Common.{length}
use Rattle.opgp_frame.specs.Spelling.{octets_left}
use Rattle.opgp_state.proofs.Fed.{FedAllBut}
use Rattle.opgp_state.proofs.keyring_digest.feed_packet.Given as goal

-- the hasher was fed all of the packet but what is left of it
abbrev pub invariant-parts : goal.invariant-parts
invariant-parts g l = FedAllBut g.D.Digest.holds l.fn.hasher l.hasher (octets_left l.spelling) (octets_left l.initial.spelling)

abbrev pub decreases-parts : goal.decreases-parts
decreases-parts g l = length (octets_left l.spelling)
