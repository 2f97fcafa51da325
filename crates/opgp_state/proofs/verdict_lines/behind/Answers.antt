use Rattle.std.proofs.lemmas.Bool.Decides.{Decides-eqb}
use Rattle.std.proofs.lemmas.Slice.Eq.{strip_prefix_is}
use Rattle.opgp_state.proofs.Fronts.{found_of, missed_of}
use Rattle.opgp_state.proofs.verdict_lines.behind.Goals as goal

pub returns-clause-some : goal.returns-clause-some
returns-clause-some c = found_of c.args.octets.now c.args.front.now c.strip_prefix.result (strip_prefix_is Decides-eqb c.args.octets.now c.args.front.now c.strip_prefix.result c.strip_prefix.ensures.cases)

pub returns-clause-none : goal.returns-clause-none
returns-clause-none c = missed_of c.args.octets.now c.args.front.now c.strip_prefix.result (strip_prefix_is Decides-eqb c.args.octets.now c.args.front.now c.strip_prefix.result c.strip_prefix.ensures.cases)
