use Rattle.std.proofs.Common.{◌≡◌, length}
use Rattle.std.specs.List.{find}
use Rattle.opgp_valid.specs.Cause.{is_lacking}
use Rattle.opgp_valid.specs.Facts.{facts_value}
use Rattle.opgp_valid.proofs.cause.first_lacking.Given as goal

-- none so far lacks it
abbrev pub invariant-statements : goal.invariant-statements
invariant-statements l =
    find (is_lacking (facts_value l.fn.facts) l.fn.key l.fn.at l.fn.lack) l.fn.facts.statements.now
    ≡ find (is_lacking (facts_value l.fn.facts) l.fn.key l.fn.at l.fn.lack) l.rest

abbrev pub decreases-statements : goal.decreases-statements
decreases-statements l = length l.rest
