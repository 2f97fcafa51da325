use Rattle.std.proofs.Common.{List, ℕ, append-nil, refl, sym}
use Rattle.opgp_octets.specs.SubpacketKind.{subpacket_kind_of}
use Rattle.opgp_packet.specs.MeaningReading.{meaning_of}
use Rattle.opgp_packet.specs.SubView.{kind_shown, sub_shown}
use Rattle.opgp_io.proofs.Extended.{extends_same, extends_stop, extends_then}
use Rattle.opgp_stack.specs.Showing.{subpacket_start}
use Rattle.opgp_stack.specs.Values.{value_line}
use Rattle.opgp_stack.proofs.valued.add_valued_subpacket.Goals as goal

pub returns-in_err-add_subpacket : goal.returns-in_err-add_subpacket
returns-in_err-add_subpacket g c =
    let s = sub_shown c.args.subpacket in
    let start : List ℕ = subpacket_start c.args.area s in
    let end : List ℕ = value_line (meaning_of (subpacket_kind_of (kind_shown s.kind)) s.octets) s.octets in
    extends_stop end refl c.from_residual.ensures.0 (extends_same (sym (append-nil start)) c.in_err-add_subpacket.ensures)

pub returns : goal.returns
returns g c =
    let s = sub_shown c.args.subpacket in
    let start : List ℕ = subpacket_start c.args.area s in
    let end : List ℕ = value_line (meaning_of (subpacket_kind_of (kind_shown s.kind)) s.octets) s.octets in
    extends_then {xs = start} {ys = end} refl (extends_same (sym (append-nil start)) c.in_ok-add_subpacket.ensures)
    (rw (c.meaning-meaning.ensures.exact, c.octets.ensures.value) at c.add_value.ensures)
