use Rattle.opgp_armor.proofs.WrittenLines.{written_armored}
use Rattle.opgp_armor.proofs.laws.written_armor_is_read_again.Goals as goal

pub returns : goal.returns
returns c = written_armored
