use Rattle.std.proofs.Common.{◌≡◌, Bool, true, false, ◌||◌, List, All, subst, sym, refl}
use Rattle.std.proofs.lemmas.List.Elements.{All-head, All-tail}
use Rattle.opgp_octets.specs.declared.malformed.Malformed.TheVariants.{Keep}
use Rattle.opgp_frame.specs.Packet.{PacketValue}
use Rattle.opgp_keyring.specs.Bodies.{HasNoFault}
use Rattle.opgp_keyring.specs.Composition.{stands_in_keyring}
use Rattle.opgp_keyring.specs.Detached.{IsDetached}
use Rattle.opgp_keyring.specs.Keyring.{is_head, is_hung, is_primary}
use Rattle.opgp_keyring.proofs.detached_packets.DetachedPackets.next.Goals as goal

or_last : (a b c : Bool) → c ≡ true → (a || (b || c)) ≡ true
or_last true b c e = refl
or_last false true c e = refl
or_last false false c e = e

pub invariant_of-self : goal.invariant_of-self
invariant_of-self c = record {
  sound = All-tail (HasNoFault Keep) c.in-Some.packet.now c.in-Some.rest.now (subst (λ (l : List PacketValue). All (HasNoFault Keep) l) c.in-Some.ensures.cases.0 c.args.self.now.sound);
  types = All-tail IsDetached c.in-Some.packet.now c.in-Some.rest.now (subst (λ (l : List PacketValue). All IsDetached l) c.in-Some.ensures.cases.0 c.args.self.now.types);
}

pub keyring_member-requires-clause-stands : goal.keyring_member-requires-clause-stands
keyring_member-requires-clause-stands c =
    let k = c.in-Some.packet.now.kind in
    subst (λ (p : PacketValue). stands_in_keyring p.kind ≡ true) (sym c.of.ensures) (or_last (is_primary k) (is_head k) (is_hung k) (All-head IsDetached c.in-Some.packet.now c.in-Some.rest.now (subst (λ (l : List PacketValue). All IsDetached l) c.in-Some.ensures.cases.0 c.args.self.now.types)))

pub keyring_member-requires-clause-sound : goal.keyring_member-requires-clause-sound
keyring_member-requires-clause-sound c =
    subst (HasNoFault Keep) (sym c.of.ensures) (All-head (HasNoFault Keep) c.in-Some.packet.now c.in-Some.rest.now (subst (λ (l : List PacketValue). All (HasNoFault Keep) l) c.in-Some.ensures.cases.0 c.args.self.now.sound))
