use Rattle.std.proofs.Common.{◌≡◌, false, ℕ, List, Option, []}
use Rattle.opgp_octets.specs.declared.limits.Limits.{Limits}
use Rattle.opgp_keyring.specs.Composed.{PartValue}
use Rattle.opgp_codec.specs.declared.mode.Mode.{Mode}
use Rattle.opgp_codec.specs.Draft.{DraftHas}
use Rattle.opgp_codec.specs.Incoming.{left_in}
use Rattle.opgp_codec.specs.IncomingParts.{PartsCame}
use Rattle.opgp_stack.specs.Making.{HasMade}
use Rattle.opgp_stack.specs.declared.task.Action.{Action}
use Rattle.opgp_stack.proofs.making_from.keep_each.Given as goal

-- something is made of the parts that came
abbrev pub invariant-parts : goal.invariant-parts
invariant-parts g l = (g.R.Source.has_failed l.source ≡ false) × (list : List PartValue)
    × ((mode : Mode) (limits : Limits) (before : Option (List ℕ)) → PartsCame mode limits before (g.R.Source.left l.fn.source) l.fn.incoming [] → PartsCame mode limits before (g.R.Source.left l.source) l.incoming list)
    × ((a : Action) → HasMade (DraftHas g.S.Spool.serves g.S.Spool.tells g.S.Spool.holds g.S.Spool.has_failed) a l.fn.making [] → HasMade (DraftHas g.S.Spool.serves g.S.Spool.tells g.S.Spool.holds g.S.Spool.has_failed) a l.making list)

abbrev pub decreases-parts : goal.decreases-parts
decreases-parts g l = left_in l.incoming.incoming
