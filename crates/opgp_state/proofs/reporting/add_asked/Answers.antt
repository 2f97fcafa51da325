use Rattle.opgp_state.proofs.reporting.add_asked.Goals as goal

pub returns : goal.returns
returns g c = rw (c.number_or_none.ensures, c.number_or_none-2.ensures, c.id_or_none.ensures, c.left_of-left.ensures, c.verdict_words.ensures) at c.add_words.ensures
