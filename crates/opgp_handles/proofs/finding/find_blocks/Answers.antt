use Rattle.std.proofs.Common.{◌∙◌, ℕ, length, ap, arith}
use Rattle.opgp_blocks.proofs.Sizes.{octets_few}
use Rattle.opgp_handles.proofs.finding.find_blocks.Goals as goal

pub returns-in-Ok-clause-few : goal.returns-in-Ok-clause-few
returns-in-Ok-clause-few c =
    λ h. omega (
      arith,
      c.put_both.ensures.sizes.1,
      ap (length {A = ℕ}) (c.deref-in-Ok.ensures.value ∙ c.in-Ok.ensures.1),
      octets_few c.args.text.now,
    )
