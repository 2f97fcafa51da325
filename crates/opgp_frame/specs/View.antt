-- A packet, borrowed, and its place.
use Rattle.opgp_frame.specs.declared.packet.Placed.{Placed}
use Rattle.opgp_frame.specs.declared.view.PacketView.{PacketView}
use Rattle.opgp_frame.specs.declared.view.PlacedView.{PlacedView}
use Rattle.opgp_frame.specs.Packet.{PacketValue}

-- the packet
abbrev pub viewed_packet : PacketView → PacketValue
viewed_packet v = record { form = v.form.now; kind = v.kind; body = v.body.now }

-- the packet in its place
abbrev pub viewed : PlacedView → Placed
viewed v = record { packet = viewed_packet v.packet; block = v.block; pos = v.pos }
