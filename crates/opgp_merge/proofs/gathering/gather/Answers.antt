use Rattle.std.proofs.Common.{rules, ◌≡◌, ◌∙◌, List, [], ◌∷◌, length, map, refl, ap, sym, arith}
use Rattle.opgp_merge.specs.Slots.{same_by}
use Rattle.opgp_merge.proofs.Adding.{gathered, kept_more, slots_left, slot_is}
use Rattle.opgp_merge.proofs.Placing.{slots_are}
use Rattle.opgp_merge.proofs.Uniting.{joined_is}
use Rattle.opgp_merge.proofs.gathering.gather.Goals as goal

pub loop-item-init : goal.loop-item-init
loop-item-init g c = record { kept = search rules; slots = search (rules, sym (slots_are (map g.T.Joining.name c.args.items.items))) }

pub keep-requires : goal.keep-requires
keep-requires g c =
    let l = c.loop-item in
    let is : l.item-iterator.rest.items ≡ c.in-Some.item ∷ c.next.new.self.rest.items = search rules in
    slot_is g.T.Joining.name g.T.Joining.both g.met.T.Joining.keeps l.kept.items l.item-iterator.rest.items c.next.new.self.rest.items c.in-Some.item l.rest.now c.in-Some-split_first.more.now c.in-Some-split_first.slot.now l.invariant.slots is c.in-Some-split_first.ensures.cases.0

pub loop-item-preserved : goal.loop-item-preserved
loop-item-preserved g c =
    let l = c.loop-item in
    let is : l.item-iterator.rest.items ≡ c.in-Some.item ∷ c.next.new.self.rest.items = search rules in
    record {
      kept = kept_more g.T.Joining.name g.T.Joining.both g.met.T.Joining.keeps l.kept.items l.item-iterator.rest.items c.next.new.self.rest.items c.in-Some.item l.rest.now c.in-Some-split_first.more.now c.in-Some-split_first.slot.now l.invariant.slots is c.in-Some-split_first.ensures.cases.0 c.keep.new.kept.items c.in_ok-keep-in-Some-split_first.ensures _ l.invariant.kept;
      slots = slots_left g.T.Joining.name g.T.Joining.both g.met.T.Joining.keeps l.kept.items l.item-iterator.rest.items c.next.new.self.rest.items c.in-Some.item l.rest.now c.in-Some-split_first.more.now c.in-Some-split_first.slot.now l.invariant.slots is c.in-Some-split_first.ensures.cases.0 c.keep.new.kept.items c.in_ok-keep-in-Some-split_first.ensures;
    }

nothing : {X : Type 0} (xs : List X) → length xs ≡ 0 → xs ≡ []
nothing [] e = refl
nothing (x ∷ xs) e = absurd (omega arith)

pub returns : goal.returns
returns g c =
    let l = c.loop-item in
    let same = same_by g.T.Joining.name in
    let both = g.T.Joining.both in
    let left = l.item-iterator.rest in
    let count : left.len ≡ length left.items = left.ok.0 in
    let done : left.items ≡ [] = nothing left.items (omega (arith, c.in-None.ensures.steps.0)) in
    let joined : gathered same both [] c.args.items.items ≡ l.kept.items = l.invariant.kept ∙ ap (gathered same both l.kept.items) done in
    sym joined ∙ joined_is g.T.Joining.name both g.met.T.Joining.keeps c.args.items.items
