use Rattle.opgp_armor.proofs.TextSizes.{blocks_few}
use Rattle.opgp_armor.proofs.laws.a_block_has_no_more_octets_than_the_text.Goals as goal

pub returns : goal.returns
returns c = blocks_few
