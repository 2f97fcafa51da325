use Rattle.std.proofs.Common.{subst, refl, ap}
use Rattle.opgp_keyring.specs.declared.signed_gathering.SignedState.{SignedState}
use Rattle.opgp_keyring.specs.SignedState.{IsSignedIn, is_open}
use Rattle.opgp_keyring.proofs.SignedStates.{behind, refused, not_open}
use Rattle.opgp_keyring.proofs.signed_gathering.SignedGathering.refuse.Goals as goal

pub returns-in-Open-clause-state : goal.returns-in-Open-clause-state
returns-in-Open-clause-state c = λ policy given i sound here is.
    let kept = c.args.self.now.flat.items in
    refused policy c.in-Open.field-0 given kept i _ (subst (λ (s : SignedState). IsSignedIn policy s given kept) c.in-Open.is is) sound (here (ap is_open c.in-Open.is))

pub returns-in_default : goal.returns-in_default
returns-in_default c = record {
  state = λ policy given i sound here is. behind policy c.args.self.now.state given c.args.self.now.flat.items i sound (not_open c.args.self.now.state c.in_default.not-Open) is;
  malformed = refl;
  block = refl;
  end = refl;
}
