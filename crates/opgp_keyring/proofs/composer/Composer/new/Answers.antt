use Rattle.std.proofs.Common.{refl}
use Rattle.opgp_keyring.proofs.HandedOut.{fed_of}
use Rattle.opgp_keyring.proofs.Starting.{starts}
use Rattle.opgp_keyring.proofs.composer.Composer.new.Goals as goal

pub returns-clause-fed : goal.returns-clause-fed
returns-clause-fed c = fed_of (record {
  limits_kept = refl;
  state = record { stands = rw c.new.ensures (starts c.args.limits); none = refl };
})
