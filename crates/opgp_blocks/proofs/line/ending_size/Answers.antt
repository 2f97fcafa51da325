use Rattle.std.proofs.Common.{◌∙◌, sym}
use Rattle.opgp_blocks.proofs.Contents.{no_ending}
use Rattle.opgp_blocks.proofs.line.ending_size.Goals as goal

pub returns-else-ends_by-4-clause-none : goal.returns-else-ends_by-4-clause-none
returns-else-ends_by-4-clause-none c =
    λ z k. no_ending c.args.line.now (λ w. sym (c.ends_by.ensures.value w) ∙ c.if-ends_by.false) (λ w. sym (c.ends_by-else-ends_by.ensures.value w) ∙ c.if-ends_by-2.false)
    (λ w. sym (c.ends_by-else-ends_by-2.ensures.value w) ∙ c.if-ends_by-3.false) (λ w. sym (c.ends_by-else-ends_by-3.ensures.value w) ∙ c.if-ends_by-4.false) k
