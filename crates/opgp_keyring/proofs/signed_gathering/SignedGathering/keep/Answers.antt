use Rattle.std.proofs.Common.{List, refl, sym, subst}
use Rattle.opgp_frame.specs.Packet.{PacketValue}
use Rattle.opgp_keyring.specs.declared.signed_gathering.SignedState.{SignedState}
use Rattle.opgp_keyring.specs.Composition.{of_packet}
use Rattle.opgp_keyring.specs.SignedState.{IsSignedIn, IsOpen}
use Rattle.opgp_keyring.proofs.SignedStates.{followed, passed_over, stopped}
use Rattle.opgp_keyring.proofs.signed_gathering.SignedGathering.keep.Goals as goal

pub returns-in_default : goal.returns-in_default
returns-in_default c = record {
  state = λ policy given sound is. passed_over policy c.args.self.now.state given c.args.self.now.flat.items c.args.placed c.in_default.not-Open sound is;
  malformed = refl;
  block = refl;
  end = refl;
}

pub returns-in_ok-push-in-Some-clause-state : goal.returns-in_ok-push-in-Some-clause-state
returns-in_ok-push-in-Some-clause-state c = λ policy given sound is.
    let kept : List PacketValue = c.args.self.now.flat.items in
    let p = c.args.placed in
    let so_far : IsOpen policy c.in-Open.shape given kept = subst (λ (s : SignedState). IsSignedIn policy s given kept) c.in-Open.is is in
    followed policy c.in-Open.shape c.in-Some.next given kept c.push.new.self.items p so_far sound (c.in-Some.ensures.stands kept p.packet (sym c.kind.ensures.value) so_far.stands) c.in_ok-push-in-Some.ensures.items

pub returns-in-None-clause-state : goal.returns-in-None-clause-state
returns-in-None-clause-state c = λ policy given sound is.
    let kept : List PacketValue = c.args.self.now.flat.items in
    let p = c.args.placed in
    let so_far : IsOpen policy c.in-Open.shape given kept = subst (λ (s : SignedState). IsSignedIn policy s given kept) c.in-Open.is is in
    c.refuse.ensures.state policy given (of_packet p) sound (λ e. stopped policy c.in-Open.shape given kept p so_far (c.in-None.ensures.ends kept p.packet (sym c.kind.ensures.value) so_far.stands)) is
