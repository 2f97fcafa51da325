use Rattle.std.proofs.Common.{◌≡◌, ◌∙◌, ap, List, ℕ}
use Rattle.opgp_armor.specs.Blocks.{headers_of, header_of_stored}
use Rattle.opgp_armor.proofs.Stored.{headers_more}
use Rattle.opgp_armor.proofs.block.copy_headers.Goals as goal

pub loop-key-preserved : goal.loop-key-preserved
loop-key-preserved c =
    let y = c.loop-key-item.result in
    let key : c.in_ok-key.key.items ≡ y.0.items = c.in_ok-key.ensures.items ∙ c.as_slice.ensures.value in
    let value : c.in_ok-value.value.items ≡ y.1.items = c.in_ok-value.ensures.items ∙ c.as_slice-in-loop-key.ensures.value in
    let same : header_of_stored (c.in_ok-key.key, c.in_ok-value.value) ≡ header_of_stored y =
    ap (λ (v : List ℕ). (v, c.in_ok-value.value.items)) key ∙ ap (λ (v : List ℕ). (y.0.items, v)) value in
    ap headers_of c.in_ok-push.ensures.items ∙ headers_more c.loop-key.copied.items c.args.headers.now c.loop-key.key-index _ y c.loop-key.invariant c.loop-key-test.true c.loop-key-item.is same
