use Rattle.std.proofs.Common.{◌≡◌, false, sym, ap, ◌∙◌, arith}
use Rattle.opgp_keyring.specs.Keyring.{is_filler}
use Rattle.opgp_keyring.proofs.SignedShapes.{no_signature, signature_number, closes, close_ends}
use Rattle.opgp_keyring.proofs.shape.Shape.close.Goals as goal

pub returns-then-left-gt0-clause-stands : goal.returns-then-left-gt0-clause-stands
returns-then-left-gt0-clause-stands c = λ ps p e k.
    let filler : is_filler p.kind ≡ false = ap is_filler e ∙ c.requires in
    closes c.args.left ps p filler (e ∙ signature_number c.from.result c.args.kind c.from.ensures.1 c.in-Signature.is) (omega arith) k

pub returns-else-left-gt0-clause-ends : goal.returns-else-left-gt0-clause-ends
returns-else-left-gt0-clause-ends c = λ ps p e k begins.
    let filler : is_filler p.kind ≡ false = ap is_filler e ∙ c.requires in
    close_ends c.args.left ps p filler k (λ two. omega arith) begins

pub returns-in_default : goal.returns-in_default
returns-in_default c = record {
  stands = tt;
  ends = λ ps p e k begins.
      let filler : is_filler p.kind ≡ false = ap is_filler e ∙ c.requires in
      close_ends c.args.left ps p filler k (λ two. absurd (no_signature c.from.result c.args.kind c.from.ensures.0 c.in_default.not-Signature (sym e ∙ two))) begins;
  counted = tt;
}
