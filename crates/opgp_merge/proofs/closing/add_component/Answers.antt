use Rattle.std.proofs.Common.{List, All, sym, ap, subst, ◌∙◌}
use Rattle.opgp_frame.specs.Packet.{PacketValue}
use Rattle.opgp_keyring.specs.Keyring.{ComponentValue, IsHung}
use Rattle.opgp_merge.proofs.closing.add_component.Goals as goal

pub add_hangs-requires : goal.add_hangs-requires
add_hangs-requires c =
    let P : List PacketValue → Type 0 = λ l. All IsHung l in
    subst P (sym (c.deref.ensures.value ∙ ap (λ (d : ComponentValue). d.hangs) c.component.view_is)) c.requires.hangs
