use Rattle.std.proofs.Common.{subst, refl}
use Rattle.opgp_keyring.specs.declared.detached_gathering.DetachedState.{DetachedState}
use Rattle.opgp_keyring.specs.DetachedState.{IsDetachedIn}
use Rattle.opgp_keyring.proofs.DetachedStates.{behind, refused, not_open}
use Rattle.opgp_keyring.proofs.detached_gathering.DetachedGathering.refuse.Goals as goal

pub returns-in-Open-clause-state : goal.returns-in-Open-clause-state
returns-in-Open-clause-state c = λ policy given i sound here is.
    let kept = c.args.self.now.flat.items in
    refused policy given kept i _ (subst (λ (s : DetachedState). IsDetachedIn policy s given kept) c.in-Open.is is) sound here

pub returns-in_default : goal.returns-in_default
returns-in_default c = record {
  state = λ policy given i sound here is. behind policy c.args.self.now.state given c.args.self.now.flat.items i sound (not_open c.args.self.now.state c.in_default.not-Open) is;
  malformed = refl;
  block = refl;
  end = refl;
}
