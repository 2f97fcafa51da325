use Rattle.std.proofs.Common.{◌++◌, ap, ◌∙◌, List}
use Rattle.opgp_frame.specs.Packet.{PacketValue}
use Rattle.opgp_keyring.specs.Keyring.{flat}
use Rattle.opgp_keyring.proofs.Joined.{joined_is, joined_flat}
use Rattle.opgp_keyring.proofs.joining.join.Goals as goal

pub new-requires : goal.new-requires
new-requires c =
    rw (c.in_ok-append.ensures.items, c.into_parts-lead.ensures.lead, c.into_parts-lead.ensures.certificates, c.into_parts-fillers.ensures.certificates)
    (joined_is c.in_ok-follow.field-0 c.args.second c.into_parts-lead.ensures.keyring c.into_parts-fillers.ensures.keyring)

pub returns : goal.returns
returns c =
    rw (c.new.ensures, c.in_ok-append.ensures.items, c.into_parts-lead.ensures.lead, c.into_parts-lead.ensures.certificates, c.into_parts-fillers.ensures.certificates)
    (joined_flat c.args.first c.args.second c.in_ok-follow.field-0 (c.in_ok-follow.ensures ∙ ap (λ (l : List PacketValue). flat c.args.first ++ l) c.into_parts-fillers.ensures.lead))
