use Rattle.std.proofs.Common.{◌≡◌, false, List, ℕ, Option}
use Rattle.opgp_octets.specs.declared.limits.Limits.{Limits}
use Rattle.opgp_keyring.specs.Composed.{PartValue}
use Rattle.opgp_keyring.specs.Parts.{HasParts}
use Rattle.opgp_codec.specs.Incoming.{left_in}
use Rattle.opgp_codec.specs.IncomingParts.{PartsCame}
use Rattle.opgp_codec.specs.declared.mode.Mode.{Mode}
use Rattle.opgp_codec.proofs.reading_keyring.keep_all.Given as goal

-- the keyring has all parts that came
abbrev pub invariant-each : goal.invariant-each
invariant-each g l = record {
  sound : g.R.Source.has_failed l.reader ≡ false;
  has : (mode : Mode) (limits : Limits) (before : Option (List ℕ)) (list : List PartValue)
      → PartsCame mode limits before (g.R.Source.left l.fn.reader) l.fn.parts list → HasParts l.fn.ring list
      → (all : List PartValue) × PartsCame mode limits before (g.R.Source.left l.reader) l.parts all × HasParts l.ring all;
  came : (mode : Mode) × (limits : Limits) × (before : Option (List ℕ)) × (list : List PartValue)
      × PartsCame mode limits before (g.R.Source.left l.reader) l.parts list;
}

abbrev pub decreases-each : goal.decreases-each
decreases-each g l = left_in l.parts.incoming
