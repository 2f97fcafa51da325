use Rattle.std.proofs.Common.{◌≡◌, ◌++◌, ◌∷◌, [], Global, List, map, Result, Ok, Err, ap, sym, subst, ◌∙◌, append_assoc, append-nil}
use Rattle.std.proofs.lemmas.Grind.{flat_map-append}
use Rattle.std.proofs.lemmas.Iterator.Adapters.{YieldsList-from_vec}
use Rattle.std.proofs.lemmas.Iterator.Consumers.{YieldsList-end}
use Rattle.std.proofs.lemmas.List.{map-append, map-id}
use Rattle.std.specs.Result.{IfOk}
use Rattle.opgp_frame.specs.declared.packet.Placed.{Placed}
use Rattle.opgp_octets.specs.declared.limits.Limits.{Limits}
use Rattle.opgp_keyring.specs.declared.block_of.BlockOf.{BlockOf}
use Rattle.opgp_keyring.specs.declared.composer.Composer.{Composer}
use Rattle.opgp_keyring.specs.declared.composing.Composed.{Composed}
use Rattle.opgp_keyring.specs.Answered.{IsComposedOf}
use Rattle.opgp_keyring.specs.Block.{block_items, items_of}
use Rattle.opgp_keyring.specs.Composition.{Item, of_label, of_packet}
use Rattle.opgp_keyring.specs.Gathering.{Gathers}
use Rattle.opgp_keyring.specs.Keyring.{KeyringValue}
use Rattle.opgp_keyring.proofs.Keeping.{taken_one}
use Rattle.opgp_keyring.proofs.composing.compose.Goals as goal

packet_more : (given : List Item) (ps : List Placed) (p : Placed)
    → (given ++ map of_packet ps) ++ of_packet p ∷ [] ≡ given ++ map of_packet (ps ++ p ∷ [])
packet_more given ps p = append_assoc given (map of_packet ps) (of_packet p ∷ [])
    ∙ ap (λ (items : List Item). given ++ items) (sym (map-append of_packet ps (p ∷ [])))

block_more : (bs : List BlockOf) (b : BlockOf)
    → (items_of bs ++ of_label b.block b.label_fits ∷ []) ++ map of_packet b.packets.items
    ≡ items_of (bs ++ b ∷ [])
block_more bs b = append_assoc (items_of bs) (of_label b.block b.label_fits ∷ []) (map of_packet b.packets.items)
    ∙ ap (λ (items : List Item). items_of bs ++ items) (sym (append-nil (block_items b)))
    ∙ sym (flat_map-append block_items bs (b ∷ []))

pub loop-placed-init : goal.loop-placed-init
loop-placed-init c = record {
  free = c.begin_block.ensures.ready ∙ c.loop-block.invariant.free;
  added = λ given h. subst (λ (items : List Item). Gathers c.args.limits.now c.begin_block.new.self c.loop-block.ring items) (sym (append-nil given)) h;
}

pub loop-placed-preserved : goal.loop-placed-preserved
loop-placed-preserved c = record {
  free = c.in_ok-add.ensures.free;
  added = λ given h. subst (λ (items : List Item). Gathers c.args.limits.now c.add.new.composer c.add.new.ring items) (packet_more given c.loop-placed.yielded c.in-Some-placed.placed) (c.in_ok-add.ensures.added c.args.limits.now _ (c.loop-placed.invariant.added given h));
}

pub loop-block-preserved : goal.loop-block-preserved
loop-block-preserved c =
    let limits = c.args.limits.now in
    let block = c.in-Some.block in
    let label = of_label block.block block.label_fits in
    let before = c.loop-block.invariant in
    let begun : Gathers limits c.begin_block.new.self c.loop-block.ring (items_of c.loop-block.yielded ++ label ∷ []) = record {
      parts = before.parts;
      fed = taken_one c.loop-block.composer c.begin_block.new.self label c.begin_block.ensures.fed limits (items_of c.loop-block.yielded) before.parts before.fed;
      has = before.has;
      free = c.begin_block.ensures.ready ∙ before.free;
      sound = c.begin_block.ensures.spent ∙ before.sound;
    } in
    let gives = c.into_iter-placed-iterator.ensures.into_iter_gives in
    let ended = YieldsList-end (YieldsList-from_vec {Z = Global} {s = c.into_iter-placed-iterator.result} block.packets.items gives.0 (gives.1 ∙ block.packets.ok.0)) c.loop-placed.yielded c.loop-placed.placed-iterator c.loop-placed.yielded_by c.next-in-loop-placed.result c.next-in-loop-placed.new.self c.in-None-placed.is c.next-in-loop-placed.ensures.steps in
    let added = c.loop-placed.invariant.added (items_of c.loop-block.yielded ++ label ∷ []) begun in
    let all = subst (λ (ps : List Placed). Gathers limits c.loop-placed.composer c.loop-placed.ring ((items_of c.loop-block.yielded ++ label ∷ []) ++ map of_packet ps)) (sym (map-id c.loop-placed.yielded) ∙ ended.0) added in
    subst (λ (items : List Item). Gathers limits c.loop-placed.composer c.loop-placed.ring items) (block_more c.loop-block.yielded block) all

of_gathered : {E : Type 0} (limits : Limits) (items : List Item) (composer : Composer) (ring : KeyringValue) (r : Result Composed E) → Gathers limits composer ring items
    → IfOk r (λ a. (l : Limits) (is : List Item) → Gathers l composer ring is → IsComposedOf l is a) → IfOk r (IsComposedOf limits items)
of_gathered limits items composer ring (Ok a) g h = h limits items g
of_gathered limits items composer ring (Err e) g h = h

pub returns : goal.returns
returns c =
    let limits = c.args.limits.now in
    let blocks = c.args.blocks in
    let gives = c.into_iter-block-iterator.ensures.into_iter_gives in
    let ended = YieldsList-end (YieldsList-from_vec {Z = Global} {s = c.into_iter-block-iterator.result} blocks.items gives.0 (gives.1 ∙ blocks.ok.0)) c.loop-block.yielded c.loop-block.block-iterator c.loop-block.yielded_by c.next.result c.next.new.self c.in-None.is c.next.ensures.steps in
    let all = subst (λ (bs : List BlockOf). Gathers limits c.loop-block.composer c.loop-block.ring (items_of bs)) (sym (map-id c.loop-block.yielded) ∙ ended.0) c.loop-block.invariant in
    of_gathered limits (items_of blocks.items) c.loop-block.composer c.loop-block.ring c.finish.result all c.finish.ensures
