use Rattle.opgp_codec.proofs.ItemsPassing.{passed_same}
use Rattle.opgp_codec.proofs.items.Items.take.Goals as goal

pub returns-clause-fed : goal.returns-clause-fed
returns-clause-fed c accepts mode limits input items f = record {
  limits_kept = f.limits_kept;
  count = f.count;
  passed = passed_same accepts mode limits c.args.self.now.front c.args.self.now.framer c.take.new.self input input items (c.take.ensures.framed accepts limits) c.take.ensures.begun f.passed;
}
