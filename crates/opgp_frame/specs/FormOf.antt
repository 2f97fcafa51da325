-- The form of a packet, from its pieces and its last length.
use Rattle.std.specs.Prelude.{ℕ, List, [], ◌∷◌, Option, Some, None}
use Rattle.opgp_octets.specs.declared.packet_len.PacketLen.{PacketLen}
use Rattle.opgp_octets.specs.declared.packet_len.PacketLen.TheVariants as new
use Rattle.opgp_frame.specs.declared.form.Form.{Form}
use Rattle.opgp_frame.specs.declared.form.Form.TheVariants as form
use Rattle.opgp_frame.specs.declared.length.Length.{Length}
use Rattle.opgp_frame.specs.declared.length.Length.TheVariants as len
use Rattle.opgp_frame.specs.declared.pieces.LastForm.{LastForm}
use Rattle.opgp_frame.specs.declared.pieces.LastForm.TheVariants.{One, Two, Five}

-- the form of a packet with these pieces and this last length
abbrev pub with_pieces : List ℕ → LastForm → Form → Form
with_pieces [] last plain = plain
with_pieces (k ∷ ks) last plain = form.Partial (record { exponents = k ∷ ks; last = last })

abbrev pub current_form : List ℕ → PacketLen → Option Form
current_form ks (new.One n) = Some (with_pieces ks One form.NewOne)
current_form ks (new.Two n) = Some (with_pieces ks Two form.NewTwo)
current_form ks (new.Five n) = Some (with_pieces ks Five form.NewFive)
current_form ks (new.Partial k) = None

abbrev pub form_with : List ℕ → Length → Option Form
form_with ks (len.OldOne n) = Some form.OldOne
form_with ks (len.OldTwo n) = Some form.OldTwo
form_with ks (len.OldFour n) = Some form.OldFour
form_with ks (len.New l) = current_form ks l
