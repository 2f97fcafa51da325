use Rattle.std.proofs.Common.{inl, inr}
use Rattle.opgp_keyring.proofs.Faults.{no_fault as never, no_body_fault}
use Rattle.opgp_keyring.proofs.laws.no_fault.Goals as goal

pub returns : goal.returns
returns c limits items r f k fault = elim fault [ inl b ↦ no_body_fault limits items r f k b | inr o ↦ never limits items r f k o.1 ]
