use Rattle.std.proofs.Common.{◌≡◌, false, List, [], Option, ℕ}
use Rattle.opgp_hash.specs.SignedValue.{SignedValue}
use Rattle.opgp_document.specs.SignedDocument.{IsSignedBy}
use Rattle.opgp_codec.specs.IncomingOctets.{OctetsCame, octets_left}
use Rattle.opgp_stack.proofs.digesting.answers_over.Given as goal

-- what came was given to the document
abbrev pub invariant-pieces : goal.invariant-pieces
invariant-pieces g l = record {
  sound : g.R.Source.has_failed l.source ≡ false;
  octets : List ℕ;
  came : OctetsCame l.limits (g.R.Source.left l.fn.source) (g.R.Source.left l.source) l.incoming octets;
  given : (signatures : List (Option SignedValue)) → IsSignedBy l.fn.document signatures [] → IsSignedBy l.document signatures octets;
}

abbrev pub decreases-pieces : goal.decreases-pieces
decreases-pieces g l = octets_left l.incoming
