use Rattle.std.proofs.Common.{◌≡◌, ◌≤◌, false, List, Option, ℕ}
use Rattle.opgp_octets.specs.declared.limits.Limits.{Limits}
use Rattle.opgp_keyring.specs.Composed.{PartValue}
use Rattle.opgp_codec.specs.declared.mode.Mode.{Mode}
use Rattle.opgp_codec.specs.Incoming.{IsLeftAlone, left_in}
use Rattle.opgp_codec.specs.IncomingParts.{PartsCame}
use Rattle.opgp_codec.proofs.incoming_parts.IncomingParts.next.Given as goal

-- what has come so far completes no part
abbrev pub invariant-steps : goal.invariant-steps
invariant-steps g l = record {
  sound : g.R.Source.has_failed l.source ≡ false;
  left : left_in l.self.incoming ≤ left_in l.fn.self.incoming;
  came : (mode : Mode) (limits : Limits) (before : Option (List ℕ)) (parts : List PartValue) → PartsCame mode limits before (g.R.Source.left l.fn.source) l.fn.self parts → PartsCame mode limits before (g.R.Source.left l.source) l.self parts;
  alone : IsLeftAlone l.fn.self.incoming l.self.incoming l.fn.source l.source;
}

abbrev pub decreases-steps : goal.decreases-steps
decreases-steps g l = left_in l.self.incoming
