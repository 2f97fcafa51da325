use Rattle.std.proofs.Common.{◌≡◌, ℕ, ◌+◌, sym, ap, ◌∙◌, is_some, cond, Option, None, Bool, Some}
use Rattle.std.specs.BTreeMap.{btree_map_len}
use Rattle.opgp_difference.specs.Entries.{Name}
use Rattle.opgp_difference.specs.Tree.{child}
use Rattle.opgp_difference.proofs.Noting.{again, bor, grown, keys_tied, new_node, nodes_stay, same_key}
use Rattle.opgp_difference.proofs.tree.note.Goals as goal

pub returns-in-Some-clause-entries : goal.returns-in-Some-clause-entries
returns-in-Some-clause-entries c met e place has stands = again c.args.tree.now met c.args.above c.in-Some.node (c.args.kind, c.args.body.now) e place has stands (sym c.in-Some.ensures)

absent : (c : goal.In_ok-insert) → child c.args.tree.now c.args.above (c.args.kind, c.args.body.now) ≡ None
absent c = sym c.in_default.ensures

count : (c : goal.In_ok-insert) → btree_map_len c.insert.new.self ≡ btree_map_len c.args.tree.now + 1
count c = c.in_ok-insert.ensures.len ∙ ap (λ (o : Option ℕ). btree_map_len c.args.tree.now + cond (is_some o) 0 1) (c.in_ok-insert.ensures.old ∙ absent c)

updates : (c : goal.In_ok-insert) (q : ℕ) (m : Name) → child c.insert.new.self q m ≡ cond (same_key c.args.above (c.args.kind, c.args.body.now) q m) (Some (c.len-node.result + 1)) (child c.args.tree.now q m)
updates c q m = c.in_ok-insert.ensures.updates.0 (q, m.0, bor m.1)
    ∙ ap (λ (b : Bool). cond b (Some (c.len-node.result + 1)) (child c.args.tree.now q m)) (keys_tied c.args.above q (c.args.kind, c.args.body.now) m)

pub returns-clause-entries : goal.returns-clause-entries
returns-clause-entries c met e place has stands =
    grown c.args.tree.now c.insert.new.self met has c.args.above (c.len-node.result + 1) (c.args.kind, c.args.body.now) e stands (absent c) (ap (λ (k : ℕ). k + 1) c.len-node.ensures.len) (count c) (updates c) place

pub returns-clause-node : goal.returns-clause-node
returns-clause-node c met e has stands =
    new_node c.args.tree.now c.insert.new.self met has c.args.above (c.len-node.result + 1) (c.args.kind, c.args.body.now) e stands (absent c) (ap (λ (k : ℕ). k + 1) c.len-node.ensures.len) (count c) (updates c)

pub returns-clause-keeps : goal.returns-clause-keeps
returns-clause-keeps c met e has stands =
    nodes_stay c.args.tree.now c.insert.new.self met has c.args.above (c.len-node.result + 1) (c.args.kind, c.args.body.now) e stands (absent c) (ap (λ (k : ℕ). k + 1) c.len-node.ensures.len) (count c) (updates c)
