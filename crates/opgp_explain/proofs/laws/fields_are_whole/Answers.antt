use Rattle.opgp_explain.proofs.Whole.{fields_whole}
use Rattle.opgp_explain.proofs.laws.fields_are_whole.Goals as goal

pub returns : goal.returns
returns c = fields_whole c.subpackets_are_read.ensures
