use Rattle.std.proofs.Common.{List, All, sym, subst}
use Rattle.opgp_frame.specs.Packet.{PacketValue}
use Rattle.opgp_keyring.specs.Keyring.{IsHung}
use Rattle.opgp_bound.proofs.role.Context.add_newest_component.Goals as goal

pub add_newest_hangs-requires-clause-hung : goal.add_newest_hangs-requires-clause-hung
add_newest_hangs-requires-clause-hung c =
    let P : List PacketValue → Type 0 = λ l. All IsHung l in
    subst P (sym c.hangs.ensures) c.requires.hangs
