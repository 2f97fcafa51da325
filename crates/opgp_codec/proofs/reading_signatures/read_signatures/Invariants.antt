use Rattle.std.proofs.Common.{◌≡◌, false, List}
use Rattle.opgp_octets.specs.Limits.{malformed_of}
use Rattle.opgp_keyring.specs.Composition.{Item}
use Rattle.opgp_keyring.specs.DetachedGathering.{GathersDetached}
use Rattle.opgp_codec.specs.Incoming.{Came, left_in}
use Rattle.opgp_codec.specs.declared.accepts.Accepts.TheVariants.{Signatures}
use Rattle.opgp_codec.proofs.reading_signatures.read_signatures.Given as goal

-- all that was found was added
abbrev pub invariant-steps : goal.invariant-steps
invariant-steps g l = record {
  sound : g.R.Source.has_failed l.reader ≡ false;
  has : (items : List Item) × Came Signatures l.fn.mode l.fn.limits (g.R.Source.left l.fn.reader) (g.R.Source.left l.reader) l.incoming items × GathersDetached (malformed_of l.fn.limits) l.gathering items;
}

abbrev pub decreases-steps : goal.decreases-steps
decreases-steps g l = left_in l.incoming
