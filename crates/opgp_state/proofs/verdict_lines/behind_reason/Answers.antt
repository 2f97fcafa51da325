use Rattle.std.proofs.Common.{arith}
use Rattle.std.proofs.lemmas.List.Sums.{prefix_len-le-length}
use Rattle.opgp_state.specs.VerdictFile.{is_reason_letter}
use Rattle.opgp_state.proofs.Verdicts.{found_reason, missed_reason}
use Rattle.opgp_state.proofs.verdict_lines.behind_reason.Goals as goal

pub slice_bounds-behind-count : goal.slice_bounds-behind-count
slice_bounds-behind-count c = omega (arith, c.letters-count.ensures, prefix_len-le-length is_reason_letter c.args.octets.now)

pub slice_bounds-behind-start : goal.slice_bounds-behind-start
slice_bounds-behind-start c = omega (arith, c.letters-count.ensures, prefix_len-le-length is_reason_letter c.args.octets.now)

pub returns-clause-some : goal.returns-clause-some
returns-clause-some c = found_reason c.args.octets.now c.letters-count.result c.behind.result c.letters-count.ensures c.if-count-eq0.false c.behind.ensures.some

pub returns-clause-none : goal.returns-clause-none
returns-clause-none c = missed_reason c.args.octets.now c.letters-count.result c.behind.result c.letters-count.ensures c.behind.ensures.none
