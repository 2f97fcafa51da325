-- Packets in the current format with their shortest lengths.
use Rattle.std.specs.Prelude.{ℕ, length, nat_lt, if◌then◌else◌}
use Rattle.opgp_frame.specs.declared.form.Form.{Form}
use Rattle.opgp_frame.specs.declared.form.Form.TheVariants as forms
use Rattle.opgp_frame.specs.Packet.{PacketValue}

-- the current format, not partial
abbrev pub IsCurrent : Form → Type 0
IsCurrent forms.NewOne = Unit {0}
IsCurrent forms.NewTwo = Unit {0}
IsCurrent forms.NewFive = Unit {0}
IsCurrent forms.OldOne = ⊥
IsCurrent forms.OldTwo = ⊥
IsCurrent forms.OldFour = ⊥
IsCurrent (forms.Partial p) = ⊥

-- the shortest form of a length
abbrev pub shortest_form : ℕ → Form
shortest_form n =
    if nat_lt n 192 then forms.NewOne
    else (if nat_lt n 8384 then forms.NewTwo else forms.NewFive)

-- the same packet in its shortest form
abbrev pub reframed : PacketValue → PacketValue
reframed p = record { form = shortest_form (length p.body); kind = p.kind; body = p.body }
