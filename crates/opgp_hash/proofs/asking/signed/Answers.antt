use Rattle.std.proofs.Common.{refl}
use Rattle.std.specs.Prelude.{length}
use Rattle.opgp_hash.proofs.Asks.{salt_known}
use Rattle.opgp_hash.proofs.asking.signed.Goals as goal

pub invariant_of-result-in-Six-clause-salt_size : goal.invariant_of-result-in-Six-clause-salt_size
invariant_of-result-in-Six-clause-salt_size c = salt_known c.hash-in-Six.result (length c.salt-salt.result.now) (λ m e. c.salt-salt.ensures.size refl m (rw c.hash-in-Six.ensures at e))
