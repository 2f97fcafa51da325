use Rattle.std.proofs.Common.{rules}
use Rattle.opgp_codec.proofs.skipped.Skipped.pass.Goals as goal
use Rattle.opgp_codec.proofs.skipped.Skipped.pass.Goals.{then-self, else-self}

pub returns : goal.returns
returns c = record {
  count = search rules;
  text = elim c.if-self.branch [ then-self w ↦ search rules | else-self w ↦ search rules ];
}
