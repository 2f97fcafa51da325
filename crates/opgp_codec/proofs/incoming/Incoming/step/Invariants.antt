use Rattle.std.proofs.Common.{◌≡◌, ◌≤◌, false, List, Option, ℕ}
use Rattle.opgp_octets.specs.declared.limits.Limits.{Limits}
use Rattle.opgp_keyring.specs.Composition.{Item}
use Rattle.opgp_codec.specs.declared.accepts.Accepts.{Accepts}
use Rattle.opgp_codec.specs.declared.mode.Mode.{Mode}
use Rattle.opgp_codec.specs.Incoming.{Came, IsLeftAlone, left_in}
use Rattle.opgp_codec.proofs.incoming.Incoming.step.Given as goal

-- what has come so far completes nothing
abbrev pub invariant-pulls : goal.invariant-pulls
invariant-pulls g l = record {
  sound : g.R.Source.has_failed l.source ≡ false;
  left : left_in l.self ≤ left_in l.fn.self;
  came : (accepts : Accepts) (mode : Mode) (limits : Limits) (before : Option (List ℕ)) (items : List Item) → Came accepts mode limits before (g.R.Source.left l.fn.source) l.fn.self items → Came accepts mode limits before (g.R.Source.left l.source) l.self items;
  alone : IsLeftAlone l.fn.self l.self l.fn.source l.source;
}

abbrev pub decreases-pulls : goal.decreases-pulls
decreases-pulls g l = left_in l.self
