-- That there is a packet with these parts is a proposition: it has at most one proof.
use Rattle.std.proofs.Props.{props}
use Rattle.opgp_octets.specs.PacketLen.{PacketLenFits}
use Rattle.opgp_octets.specs.declared.packet_len.PacketLen.{PacketLen}
use Rattle.opgp_octets.specs.declared.packet_len.PacketLen.TheVariants as new
use Rattle.opgp_frame.specs.declared.form.Form.{Form}
use Rattle.opgp_frame.specs.declared.form.Form.TheVariants as forms
use Rattle.opgp_frame.specs.declared.length.Length.{Length}
use Rattle.opgp_frame.specs.declared.length.Length.TheVariants as len
use Rattle.opgp_frame.specs.Form.{HasPieces}
use Rattle.opgp_frame.specs.Length.{LengthFits}
use Rattle.opgp_frame.specs.Packet.{PacketValue, IsPacket}

HasPieces-prop : (form : Form) → IsProp (HasPieces form)
HasPieces-prop (forms.Partial p) = hlevel props
HasPieces-prop forms.OldOne = hlevel props
HasPieces-prop forms.OldTwo = hlevel props
HasPieces-prop forms.OldFour = hlevel props
HasPieces-prop forms.NewOne = hlevel props
HasPieces-prop forms.NewTwo = hlevel props
HasPieces-prop forms.NewFive = hlevel props

PacketLenFits-prop : (l : PacketLen) → IsProp (PacketLenFits l)
PacketLenFits-prop (new.One n) = hlevel props
PacketLenFits-prop (new.Two n) = hlevel props
PacketLenFits-prop (new.Five n) = hlevel props
PacketLenFits-prop (new.Partial k) = hlevel props

LengthFits-prop : (l : Length) → IsProp (LengthFits l)
LengthFits-prop (len.OldOne n) = hlevel props
LengthFits-prop (len.OldTwo n) = hlevel props
LengthFits-prop (len.OldFour n) = hlevel props
LengthFits-prop (len.New l) = PacketLenFits-prop l

pub IsPacket-prop : (p : PacketValue) → IsProp (IsPacket p)
IsPacket-prop p = hlevel (props, HasPieces-prop, LengthFits-prop)
