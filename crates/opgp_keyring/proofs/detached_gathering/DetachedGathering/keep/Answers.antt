use Rattle.std.proofs.Common.{◌≡◌, true, List, [], ◌∷◌, ◌++◌, refl, sym, ap, subst, ◌∙◌}
use Rattle.opgp_frame.specs.Packet.{PacketValue}
use Rattle.opgp_keyring.specs.declared.detached_gathering.DetachedState.{DetachedState}
use Rattle.opgp_keyring.specs.Composition.{of_packet}
use Rattle.opgp_keyring.specs.Detached.{is_detached_type}
use Rattle.opgp_keyring.specs.DetachedState.{IsDetachedIn, AreOpen}
use Rattle.opgp_keyring.proofs.DetachedStates.{followed, passed_over}
use Rattle.opgp_keyring.proofs.detached_gathering.DetachedGathering.keep.Goals as goal

pub returns-in_default : goal.returns-in_default
returns-in_default c = record {
  state = λ policy given sound is. passed_over policy c.args.self.now.state given c.args.self.now.flat.items c.args.placed c.in_default.not-Open sound is;
  malformed = refl;
  block = refl;
  end = refl;
}

pub returns-in_ok-push-clause-state : goal.returns-in_ok-push-clause-state
returns-in_ok-push-clause-state c = λ policy given sound is.
    let kept : List PacketValue = c.args.self.now.flat.items in
    let p = c.args.placed in
    let so_far : AreOpen policy given kept = subst (λ (s : DetachedState). IsDetachedIn policy s given kept) c.in-Open.is is in
    let here : is_detached_type p.packet.kind ≡ true = ap is_detached_type (sym c.kind.ensures.value) ∙ sym c.is_detached_type.ensures ∙ c.if-is_detached_type.true in
    subst (λ (s : DetachedState). IsDetachedIn policy s (given ++ of_packet p ∷ []) c.push.new.self.items) (sym c.in-Open.is) (followed policy given kept c.push.new.self.items p so_far sound here c.in_ok-push.ensures.items)
