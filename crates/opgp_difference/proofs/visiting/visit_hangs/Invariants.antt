use Rattle.std.proofs.Common.{◌≡◌, ◌+◌, List, length}
use Rattle.opgp_keyring.specs.Grouped.{hangs_left}
use Rattle.opgp_difference.specs.Entries.{Entry, Standing, hang_standing, numbered}
use Rattle.opgp_difference.proofs.Walking.{Walked}
use Rattle.opgp_difference.proofs.visiting.visit_hangs.Given as goal

abbrev pub invariant-hangs : goal.invariant-hangs
invariant-hangs g l = record {
  met : (met : List Standing) (e : Entry) → g.V.Visitor.has l.fn.visitor met → g.V.Visitor.knows l.fn.visitor e l.node
      → Walked g.V.Visitor.has l.visitor met (numbered (hang_standing e l.certificate l.component) 0 (hangs_left l.initial.hangs)) (numbered (hang_standing e l.certificate l.component) l.number (hangs_left l.hangs));
  keeps : (met : List Standing) (e : Entry) → g.V.Visitor.has l.fn.visitor met → g.V.Visitor.knows l.fn.visitor e l.node
      → (f : Entry) (n : _) → g.V.Visitor.knows l.fn.visitor f n → g.V.Visitor.knows l.visitor f n;
  count : l.number + length (hangs_left l.hangs) ≡ length (hangs_left l.initial.hangs);
}

abbrev pub decreases-hangs : goal.decreases-hangs
decreases-hangs g l = length (hangs_left l.hangs)
