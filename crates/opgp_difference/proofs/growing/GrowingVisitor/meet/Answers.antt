use Rattle.std.proofs.Common.{◌≡◌, ◌∷◌, Some, IfOk, subst}
use Rattle.opgp_difference.specs.Entries.{Name}
use Rattle.opgp_difference.specs.Tree.{node_of}
use Rattle.opgp_difference.proofs.growing.GrowingVisitor.meet.Goals as goal

pub returns-clause-node : goal.returns-clause-node
returns-clause-node c met e has knows =
    subst (λ (n : Name). IfOk c.note.result (λ node. node_of c.note.new.tree (n ∷ e) ≡ Some node))
    (λ i. (c.kind.ensures i, c.body.ensures i))
    (c.note.ensures.node met e has knows)
