use Rattle.std.proofs.Common.{◌∙◌, rules}
use Rattle.opgp_report.proofs.FirstLaws.{id_found}
use Rattle.opgp_report.proofs.key_index.KeyIndex.first_by_key_id.Goals as goal

pub returns : goal.returns
returns c = id_found c.copied.result c.args.self.now.ids c.args.self.now.prints.items c.args.id c.from_be_bytes.result c.args.self.now.by_id (search rules, search rules) c.from_be_bytes.ensures (c.copied.ensures ∙ c.get.ensures.value)
