-- What is written of each packet, by the kind of the text.
use Rattle.std.specs.Prelude.{ℕ, List}
use Rattle.opgp_frame.specs.declared.packet.Placed.{Placed}
use Rattle.opgp_stack.specs.Showing.{packet_lines}
use Rattle.opgp_stack.specs.Values.{valued_lines}
use Rattle.opgp_stack.specs.declared.packet_text.PacketText.{PacketText}
use Rattle.opgp_stack.specs.declared.packet_text.PacketText.TheVariants.{Plain, Valued}

abbrev pub lines_of_packet : PacketText → Placed → List ℕ
lines_of_packet Plain = packet_lines
lines_of_packet Valued = valued_lines
