use Rattle.std.proofs.Common.{◌≡◌, ◌<◌, ◌-◌, ◌++◌, ◌∷◌, [], List, length, ap, sym, ◌∙◌, refl, arith}
use Rattle.std.specs.Vec.{vec_len}
use Rattle.opgp_keyring.specs.declared.block_of.BlockOf.{BlockOf}
use Rattle.opgp_keyring.specs.Composition.{Item, of_packet}
use Rattle.opgp_codec.proofs.Labels.{pushed_last, some_label, no_label}
use Rattle.opgp_codec.proofs.reading_packets.add_packet.Goals as goal

pub returns-in_ok-push-in-Some-last_mut : goal.returns-in_ok-push-in-Some-last_mut
returns-in_ok-push-in-Some-last_mut c given f =
    let v = c.args.blocks.now in
    let bs : List BlockOf = v.items in
    let p = c.in-Some.packet in
    let some : 0 < vec_len v = c.in-Some-last_mut.ensures.variant.0 refl in
    let count : vec_len v ≡ length bs = v.ok.0 in
    rw c.in-Some.is
    (pushed_last bs (vec_len v - 1) c.in-Some-last_mut.last.now _ p (omega (arith, some, count)) c.in-Some-last_mut.ensures.value refl refl c.in_ok-push-in-Some-last_mut.ensures.items
    ∙ ap (λ (l : List Item). l ++ of_packet p ∷ []) f ∙ sym (some_label bs given p (omega (arith, some, count)) f))

pub returns-in-None : goal.returns-in-None
returns-in-None c given f =
    let v = c.args.blocks.now in
    rw c.in-Some.is (no_label v.items given c.in-Some.packet (vec_len v) c.in-None.ensures.variant.1 v.ok.0 f)
