use Rattle.std.proofs.Common.{◌≡◌, length}
use Rattle.std.specs.List.{find}
use Rattle.std.specs.Option.{option_map}
use Rattle.opgp_valid.specs.Cause.{ends_it, spot_of}
use Rattle.opgp_valid.proofs.cause.spot_of_end.Given as goal

-- none so far lets it end then
abbrev pub invariant-statements : goal.invariant-statements
invariant-statements l =
    option_map spot_of (find (ends_it l.fn.key l.fn.created l.fn.end l.fn.at) l.fn.statements)
    ≡ option_map spot_of (find (ends_it l.fn.key l.fn.created l.fn.end l.fn.at) l.rest)

abbrev pub decreases-statements : goal.decreases-statements
decreases-statements l = length l.rest
