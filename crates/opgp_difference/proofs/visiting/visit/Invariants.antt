use Rattle.std.proofs.Common.{◌≡◌, ◌+◌, [], length}
use Rattle.opgp_difference.specs.Entries.{Entry, certificate_standing, numbered, standing_in}
use Rattle.opgp_difference.proofs.Walking.{Walked}
use Rattle.opgp_difference.proofs.visiting.visit.Given as goal

abbrev pub invariant-certificates : goal.invariant-certificates
invariant-certificates g l = record {
  met : g.V.Visitor.has l.fn.visitor [] → g.V.Visitor.knows l.fn.visitor [] l.root
      → Walked g.V.Visitor.has l.visitor [] (standing_in l.fn.keyring) (numbered certificate_standing l.number l.rest);
  keeps : g.V.Visitor.has l.fn.visitor [] → g.V.Visitor.knows l.fn.visitor [] l.root
      → (f : Entry) (n : _) → g.V.Visitor.knows l.fn.visitor f n → g.V.Visitor.knows l.visitor f n;
  count : l.number + length l.rest ≡ length l.fn.keyring.certificates;
}

abbrev pub decreases-certificates : goal.decreases-certificates
decreases-certificates g l = length l.rest
