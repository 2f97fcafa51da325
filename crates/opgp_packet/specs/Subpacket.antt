-- The value of a subpacket.
use Rattle.opgp_packet.specs.declared.subpacket.Subpacket.{Subpacket}
use Rattle.opgp_packet.specs.Subpackets.{Sub}

abbrev pub sub_seen : Subpacket → Sub
sub_seen s = record { len = s.len; kind = s.kind; octets = s.octets.now }
