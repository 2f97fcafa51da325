use Rattle.std.proofs.Common.{◌∙◌}
use Rattle.std.proofs.lemmas.Bool.Decides.{Decides-eqb}
use Rattle.std.proofs.lemmas.Slice.Eq.{slice_eq-Decides}
use Rattle.opgp_stack.proofs.Times.{date_missed, other_date}
use Rattle.opgp_stack.proofs.time.time_of_date.Goals as goal

pub returns-in-None-clause-none : goal.returns-in-None-clause-none
returns-in-None-clause-none c = date_missed c.args.text.now c.in-None.ensures.none

pub returns-else-eq-clause-none : goal.returns-else-eq-clause-none
returns-else-eq-clause-none c = other_date c.args.text.now c.in-Some.time c.in-Some.ensures.some (λ e. cc ((slice_eq-Decides Decides-eqb _ _ _ c.eq.ensures).1 (c.date_text.ensures ∙ e), c.if-eq.false))
