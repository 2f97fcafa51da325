use Rattle.opgp_state.proofs.row_front.add_front.Goals as goal

pub returns-in-Head : goal.returns-in-Head
returns-in-Head g c = rw c.in-Head.is c.add_words.ensures
