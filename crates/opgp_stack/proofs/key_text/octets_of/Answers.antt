use Rattle.std.proofs.Common.{◌≡◌, ℕ, Ok}
use Rattle.std.proofs.lemmas.List.{length-replicate}
use Rattle.hex.specs.Hex.{decode_sized}
use Rattle.opgp_stack.proofs.KeyTexts.{decodes_sized}
use Rattle.opgp_stack.proofs.key_text.octets_of.Goals as goal

pub returns-in-Err-clause-none : goal.returns-in-Err-clause-none
returns-in-Err-clause-none g c octets size read =
    let sized : decode_sized c.args.digits.now g.row.N ≡ Ok octets = decodes_sized c.args.digits.now octets g.row.N size read in
    let value = rw (length-replicate {A = ℕ} g.row.N 0, sized) at c.in-Err.ensures.value in
    absurd (cc value.0)
