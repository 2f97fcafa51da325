use Rattle.std.proofs.Common.{◌∙◌, Option, Some, None, length, refl, sym, ap}
use Rattle.std.proofs.lemmas.Option.{slice_get_read}
use Rattle.std.specs.Option.{option_map}
use Rattle.opgp_packet.specs.Parsed.{body_octets}
use Rattle.opgp_report.specs.declared.signers.Signer.{Signer}
use Rattle.opgp_packet.specs.SigView.{sig_view_value}
use Rattle.opgp_report.proofs.NamedKeys.{found}
use Rattle.opgp_report.proofs.signers.Signers.find.Goals as goal

pub returns-in-None : goal.returns-in-None
returns-in-None c = found c.args.self.now.keys.items c.args.self.now.names.prints.items (sig_view_value c.args.signature) None c.args.self.now.named (sym c.in-None.is ∙ c.signer.ensures)

pub returns-in-Some-get : goal.returns-in-Some-get
returns-in-Some-get c =
    let l = c.in-Some-get.ensures.lookup in
    let at = slice_get_read c.deref.result.now (length c.deref.result.now) c.in-Some.place c.in-Some-get.key.now refl l.3.0 l.1 in
    ap (λ (k : Option Signer). option_map (λ v. body_octets v.key) k) (sym (rw c.deref.ensures.value at at))
    ∙ found c.args.self.now.keys.items c.args.self.now.names.prints.items (sig_view_value c.args.signature) (Some c.in-Some.place) c.args.self.now.named (sym c.in-Some.is ∙ c.signer.ensures)
