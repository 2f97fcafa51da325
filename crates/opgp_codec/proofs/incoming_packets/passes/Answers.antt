use Rattle.std.proofs.Common.{◌≡◌, ◌++◌, ◌∷◌, [], List, Some, sym, ap, ◌∙◌, append-nil, subst}
use Rattle.opgp_frame.specs.declared.packet.Placed.{Placed}
use Rattle.opgp_frame.specs.View.{viewed}
use Rattle.opgp_keyring.specs.Composition.{Item, of_packet, placed_in}
use Rattle.opgp_codec.specs.SoundPackets.{AreSoFar}
use Rattle.opgp_codec.proofs.SoundSoFar.{so_far_fault, so_far_nil, so_far_none, so_far_packet, so_far_still}
use Rattle.opgp_codec.proofs.incoming_packets.passes.Goals as goal

pub returns-in_default-clause-so_far : goal.returns-in_default-clause-so_far
returns-in_default-clause-so_far c packets list h =
    let m = c.args.malformed in
    let f = c.args.fault.now in
    rw c.in_default.is (subst (λ (l : List Item). AreSoFar m (λ ps. ps ≡ packets ++ []) f (placed_in l)) (sym (append-nil list)) (so_far_nil m packets f (placed_in list) h))

pub returns-then-is_some-clause-so_far : goal.returns-then-is_some-clause-so_far
returns-then-is_some-clause-so_far c packets list h =
    rw c.in-Some.is (so_far_nil c.args.malformed packets c.args.fault.now _ (so_far_still c.args.malformed (λ ps. ps ≡ packets) c.args.fault.now list (viewed c.in-Some.packet) (sym c.is_some.ensures ∙ c.if-is_some.true) h))

pub returns-in-Some-view_fault-clause-so_far : goal.returns-in-Some-view_fault-clause-so_far
returns-in-Some-view_fault-clause-so_far c packets list h =
    let none = so_far_none c.args.malformed (λ ps. ps ≡ packets) c.args.fault.now _ (sym c.is_some.ensures ∙ c.if-is_some.false) h in
    rw c.in-Some.is (so_far_nil c.args.malformed packets (Some c.in-Some-view_fault.found) (placed_in (list ++ of_packet (viewed c.in-Some.packet) ∷ [])) (so_far_fault c.args.malformed (λ ps. ps ≡ packets) list (viewed c.in-Some.packet) c.in-Some-view_fault.found none c.in-Some-view_fault.ensures))

pub returns-in-None-clause-so_far : goal.returns-in-None-clause-so_far
returns-in-None-clause-so_far c packets list h =
    let p = viewed c.in-Some.packet in
    rw c.in-Some.is
    (so_far_packet c.args.malformed (λ ps. ps ≡ packets) (λ ps. ps ≡ packets ++ p ∷ []) c.args.fault.now list p (sym c.is_some.ensures ∙ c.if-is_some.false) h c.in-None.ensures
    (λ ps e. ap (λ (l : List Placed). l ++ p ∷ []) e))
