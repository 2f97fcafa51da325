use Rattle.std.proofs.Common.{◌≡◌, ◌-◌, ◌<◌, List, ◌++◌, length, refl, ap, sym, ◌∙◌, append_assoc, arith}
use Rattle.std.specs.List.{flat_map}
use Rattle.opgp_frame.specs.Packet.{PacketValue}
use Rattle.opgp_keyring.specs.Keyring.{CertificateValue, certificate_packets, flat}
use Rattle.opgp_keyring.proofs.Hanging.{more_last}
use Rattle.opgp_keyring.proofs.joining.follow.Goals as goal

pub returns-in_ok-hang_all-in-Some : goal.returns-in_ok-hang_all-in-Some
returns-in_ok-hang_all-in-Some c =
    let parts = c.into_parts-lead in
    let fillers : List PacketValue = c.args.fillers in
    let v = parts.result.1 in
    let cs : List CertificateValue = v.items in
    let some : 0 < v.len = c.in-Some.ensures.variant.0 refl in
    let count : v.len ≡ length cs = v.ok.0 in
    let grown = more_last certificate_packets cs (v.len - 1) c.in-Some.last.now c.hang_all.new.self fillers (omega (arith, some, count)) c.in-Some.ensures.value c.in_ok-hang_all-in-Some.ensures.ok in
    ap flat c.new.ensures
    ∙ ap (λ (l : List PacketValue). parts.result.0 ++ l) grown
    ∙ sym (append_assoc parts.result.0 (flat_map certificate_packets cs) fillers)
    ∙ ap (λ (l : List PacketValue). (l ++ flat_map certificate_packets cs) ++ fillers) parts.ensures.lead
    ∙ ap (λ (l : List CertificateValue). (c.args.ring.lead ++ flat_map certificate_packets l) ++ fillers) parts.ensures.certificates
