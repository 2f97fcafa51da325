use Rattle.std.proofs.Common.{◌≡◌, ◌∙◌, ℕ, List, Result, Ok, Err, ap, sym}
use Rattle.std.specs.Result.{IfOk}
use Rattle.opgp_octets.specs.declared.fault.BodyFault.{BodyFault}
use Rattle.opgp_octets.specs.Reading.{Reads}
use Rattle.opgp_packet.specs.declared.sig_view.SigView.{SigView}
use Rattle.opgp_packet.specs.SigView.{sig_view_octets, sig_view_value}
use Rattle.opgp_packet.specs.SignatureBody.{signature_at}
use Rattle.opgp_keyring.specs.SignedLiteral.{IsReadAs}
use Rattle.opgp_keyring.proofs.packet_body.read_signature.Goals as goal

read_as : (body o : List ℕ) (r : Result SigView BodyFault) → o ≡ body → IfOk r (λ v. sig_view_octets v ≡ o) → Reads sig_view_value r (signature_at o) → IsReadAs body r
read_as body o (Ok view) same octets exact = octets ∙ same
read_as body o (Err fault) same octets exact = ap signature_at (sym same) ∙ exact

pub returns : goal.returns
returns c = read_as c.args.packet.now.body c.body.result.now c.parse_body.result c.body.ensures.value c.parse_body.ensures.body c.parse_body.ensures.exact
