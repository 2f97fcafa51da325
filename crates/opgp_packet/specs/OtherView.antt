-- The value of a signature that isn't parsed, and borrows its body.
use Rattle.std.specs.Prelude.{ℕ, List}
use Rattle.opgp_packet.specs.declared.other_view.OtherView.{OtherView}

-- the octets of its body
abbrev pub other_view_octets : OtherView → List ℕ
other_view_octets s = s.body.now
