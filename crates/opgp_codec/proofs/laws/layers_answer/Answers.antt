use Rattle.opgp_codec.proofs.laws.layers_answer.Goals as goal

pub returns : goal.returns
returns c = record { armor = c.some_answer.ensures; armor_octets = c.blocks_hold_octets.ensures; frame = c.some_answer-2.ensures }
