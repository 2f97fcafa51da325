use Rattle.std.proofs.Common.{ℕ, ◌-◌, ap, refl, arith}
use Rattle.opgp_blocks.specs.View.{shown_value}
use Rattle.opgp_blocks.proofs.Rests.{block_wanted, next_found}
use Rattle.opgp_blocks.proofs.blocks.Blocks.next.Goals as goal

pub invariant_of-result : goal.invariant_of-result
invariant_of-result c =
    let b = c.in_ok-begin.ensures in
    let r = c.rest_of_block-rest in
    record {
      within = omega (arith, b.within.0, b.within.1, b.within.2);
      wanted_is =
          block_wanted c.args.self.now.text.now c.in_ok-begin.begin.first c.in_ok-begin.begin.line.next r.result.lines _ r.result.wanted (shown_value c.in_ok-begin.begin.line) b.first r.ensures.lines refl r.ensures.wanted;
    }

pub returns-clause-some : goal.returns-clause-some
returns-clause-some c =
    let b = c.in_ok-begin.ensures in
    let r = c.rest_of_block-rest in
    next_found c.args.self.now.text.now c.args.self.now.at c.in_ok-begin.begin.first c.in_ok-begin.begin.line.next r.result.lines r.result.next _ (shown_value c.in_ok-begin.begin.line) b.some b.first r.ensures.lines
    r.ensures.next (ap (λ (n : ℕ). n - c.in_ok-begin.begin.line.at) r.ensures.end)
