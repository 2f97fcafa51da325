use Rattle.std.proofs.Common.{◌≡◌, ◌+◌, ℕ, ap, refl, sym, ◌∙◌, arith}
use Rattle.std.proofs.lemmas.Bool.{leb-true, le-leb}
use Rattle.opgp_keyring.specs.Block.{items_of}
use Rattle.opgp_keyring.specs.Signed.{end_pos}
use Rattle.opgp_keyring.proofs.BlockEnds.{empty_end, packet_end}
use Rattle.opgp_keyring.proofs.ending.end_fits.Goals as goal

pub returns-in-Some-last : goal.returns-in-Some-last
returns-in-Some-last c =
    let bs = c.args.blocks.now in
    let b = c.in-Some.block.now in
    let p = c.in-Some-last.placed.now in
    let e : end_pos (items_of bs) ≡ p.pos + c.spelled_len-octets.result =
    packet_end bs b c.deref.result.now p c.in-Some.ensures.value c.deref.ensures.value c.in-Some-last.ensures.value ∙ ap (λ (n : ℕ). p.pos + n) (sym c.spelled_len-octets.ensures) in
    (λ t. let few = leb-true _ _ t in omega (arith, e, few), λ h. le-leb _ _ (omega (arith, e, h)))

pub returns-in-None : goal.returns-in-None
returns-in-None c =
    let bs = c.args.blocks.now in
    let e : end_pos (items_of bs) ≡ 0 = empty_end bs c.in-Some.block.now c.deref.result.now c.in-Some.ensures.value c.deref.ensures.value c.in-None.ensures.value in
    (λ t. omega (arith, e), λ h. refl)
