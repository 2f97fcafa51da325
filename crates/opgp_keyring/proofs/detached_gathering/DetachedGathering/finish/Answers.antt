use Rattle.std.proofs.Common.{List, All, sym, subst}
use Rattle.opgp_frame.specs.Packet.{PacketValue}
use Rattle.opgp_octets.specs.declared.malformed.Malformed.{Malformed}
use Rattle.opgp_octets.specs.declared.malformed.Malformed.TheVariants.{Keep}
use Rattle.opgp_keyring.specs.Bodies.{HasNoFault}
use Rattle.opgp_keyring.specs.declared.detached_gathering.DetachedState.{DetachedState}
use Rattle.opgp_keyring.specs.Composition.{Item}
use Rattle.opgp_keyring.specs.DetachedState.{IsDetachedIn}
use Rattle.opgp_keyring.proofs.SignedBodies.{all_kept}
use Rattle.opgp_keyring.proofs.DetachedStates.{kept_sound}
use Rattle.opgp_keyring.proofs.detached_gathering.DetachedGathering.finish.Goals as goal

pub first_of-requires : goal.first_of-requires
first_of-requires c =
    let kept : List PacketValue = c.args.self.flat.items in
    let policy : Malformed = c.requires.0 in
    let items : List Item = c.requires.1.0 in
    subst (All (HasNoFault Keep)) (sym c.deref.ensures.value) (all_kept policy kept (kept_sound policy items kept (subst (λ (s : DetachedState). IsDetachedIn policy s items kept) c.in-Open.is c.requires.1.1.state)))

pub new-requires-clause-sound : goal.new-requires-clause-sound
new-requires-clause-sound c =
    let kept : List PacketValue = c.args.self.flat.items in
    let policy : Malformed = c.requires.0 in
    let items : List Item = c.requires.1.0 in
    all_kept policy kept (kept_sound policy items kept (subst (λ (s : DetachedState). IsDetachedIn policy s items kept) c.in-Open.is c.requires.1.1.state))
