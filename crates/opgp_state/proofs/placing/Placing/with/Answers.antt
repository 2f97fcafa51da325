use Rattle.std.proofs.Common.{◌∙◌, ◌+◌, List, ap, length, refl}
use Rattle.opgp_frame.specs.Packet.{PacketValue}
use Rattle.opgp_state.proofs.Placements.{lead_more}
use Rattle.opgp_state.proofs.placing.Placing.with.Goals as goal

pub returns-in_ok-packets-in-Lead : goal.returns-in_ok-packets-in-Lead
returns-in_ok-packets-in-Lead c parts so =
    rw c.in-Lead.is (lead_more c.args.self _ parts c.in-Lead.lead (c.in_ok-packets-in-Lead.ensures ∙ ap (λ (l : List PacketValue). c.args.self.packets + length l) c.packets.ensures.value) refl so)
