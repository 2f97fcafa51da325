use Rattle.opgp_stack.proofs.digest_lines.add_asked.Goals as goal

pub returns : goal.returns
returns g c = rw (c.name_or_none.ensures, c.left_of-left.ensures, c.verdict_words.ensures) at c.add_words.ensures
