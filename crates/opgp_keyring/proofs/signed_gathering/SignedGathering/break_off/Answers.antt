use Rattle.std.proofs.Common.{refl}
use Rattle.opgp_keyring.proofs.SignedStates.{sound_before, breaks, broken}
use Rattle.opgp_keyring.proofs.signed_gathering.SignedGathering.break_off.Goals as goal

pub returns-in-Broken-clause-state : goal.returns-in-Broken-clause-state
returns-in-Broken-clause-state c = λ policy given p fault is. broken policy c.args.self.now.state given c.args.self.now.flat.items p _ c.in-Broken.is is

pub returns-in_default : goal.returns-in_default
returns-in_default c = record {
  state = λ policy given p fault is. breaks policy given p c.args.fault (sound_before policy c.args.self.now.state given c.args.self.now.flat.items c.in_default.not-Broken is) fault;
  malformed = refl;
  block = refl;
  end = refl;
}
