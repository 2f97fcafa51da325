use Rattle.std.proofs.Common.{[], refl, ap}
use Rattle.std.specs.BTreeMap.{is_at}
use Rattle.std.specs.List.{list_any}
use Rattle.opgp_difference.specs.Entries.{standing_in}
use Rattle.opgp_difference.specs.Telling.{HasTold}
use Rattle.opgp_difference.specs.Tree.{Tree, key_cmp, node_of}
use Rattle.opgp_difference.proofs.Told.{all_told}
use Rattle.opgp_difference.proofs.telling.tell.Goals as goal

pub returns : goal.returns
returns c =
    let tree : Tree = c.in_ok-tree_of.field-0 in
    let begun : HasTold tree c.new.result c.new-2.result.items [] = record {
      tree = c.in_ok-tree_of.ensures.tree;
      packets = c.new-2.ensures.items;
      keyed = λ p e n is. ap (list_any (is_at (key_cmp p n))) c.new.ensures.empty;
    } in
    all_told tree c.visit.new.visitor.tree (standing_in c.args.old.now) (standing_in c.args.new.now) c.visit.new.visitor.told c.visit.new.visitor.packets.items c.in_ok-tree_of.ensures
    (λ f. c.in_ok-visit.ensures.keeps begun refl f (node_of tree f) refl)
    (c.in_ok-visit.ensures.met begun refl)
