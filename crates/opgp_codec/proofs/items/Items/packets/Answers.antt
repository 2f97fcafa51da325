use Rattle.std.proofs.Common.{◌∙◌}
use Rattle.opgp_codec.proofs.ItemsPassing.{passed_found}
use Rattle.opgp_codec.proofs.items.Items.packets.Goals as goal

pub returns : goal.returns
returns c accepts mode limits input items f = c.packets.ensures ∙ passed_found accepts mode limits c.args.self.now.front c.args.self.now.framer input input items f.passed
