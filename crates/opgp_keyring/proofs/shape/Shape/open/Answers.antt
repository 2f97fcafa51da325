use Rattle.std.proofs.Common.{◌≡◌, false, sym, ap, ◌∙◌}
use Rattle.opgp_keyring.specs.Keyring.{is_filler}
use Rattle.opgp_keyring.proofs.SignedShapes.{no_one_pass, no_literal_type, open_ends}
use Rattle.opgp_keyring.proofs.shape.Shape.open.Goals as goal

pub returns-in_default : goal.returns-in_default
returns-in_default c = record {
  stands = tt;
  ends = λ ps p e t begins.
      let k = c.args.kind in
      let filler : is_filler p.kind ≡ false = ap is_filler e ∙ c.requires.kind in
      open_ends c.args.count ps p filler t (λ four. no_one_pass c.from.result k c.from.ensures.0 c.in_default.not-OnePassSignature (sym e ∙ four))
      (λ eleven. absurd (no_literal_type c.from.result k c.from.ensures.0 c.in_default.not-LiteralData (sym e ∙ eleven))) begins;
  counted = tt;
}
