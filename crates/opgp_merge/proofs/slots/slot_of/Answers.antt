use Rattle.std.proofs.Common.{◌≡◌, ℕ, ◌+◌, sym, ap, ◌∙◌, is_some, cond, Option, None}
use Rattle.std.specs.BTreeMap.{get_by, btree_map_len}
use Rattle.opgp_merge.specs.Slots.{name_cmp}
use Rattle.opgp_merge.proofs.Indexing.{found, noted}
use Rattle.opgp_merge.proofs.slots.slot_of.Goals as goal

pub returns-in-Some : goal.returns-in-Some
returns-in-Some c = λ seen index. found c.args.index.now seen index (c.args.kind, c.args.body.now) c.in-Some.slot.now (sym c.in-Some.ensures.value)

pub returns : goal.returns
returns c = λ seen index.
    let none : get_by (name_cmp (c.args.kind, c.args.body.now)) c.args.index.now ≡ None = sym c.in_default.ensures.value in
    noted c.args.index.now seen index (c.args.kind, c.args.body.now) c.insert.new.self c.len-slot.result none c.len-slot.ensures.len
    (λ q. c.in_ok-insert.ensures.updates.0 (q.0, record { ref_ptr = (0, 0); now = q.1 }))
    (c.in_ok-insert.ensures.len ∙ ap (λ (o : Option ℕ). btree_map_len c.args.index.now + cond (is_some o) 0 1) (c.in_ok-insert.ensures.old ∙ none))
