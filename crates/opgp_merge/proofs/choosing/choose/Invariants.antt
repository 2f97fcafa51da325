use Rattle.std.proofs.Common.{◌≡◌, map}
use Rattle.std.specs.Prelude.{All}
use Rattle.opgp_keyring.specs.Keyring.{IsCertificate}
use Rattle.opgp_merge.specs.Chosen.{chosen_certificate}
use Rattle.opgp_merge.proofs.choosing.choose.Given as goal

abbrev pub invariant-loop-certificate : goal.invariant-loop-certificate
invariant-loop-certificate l = record {
  value : l.chosen.items ≡ map (chosen_certificate l.fn.choice) l.yielded;
  sound : All IsCertificate l.chosen.items;
}
