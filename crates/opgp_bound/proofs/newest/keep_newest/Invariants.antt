use Rattle.std.proofs.Common.{◌≡◌}
use Rattle.std.specs.Prelude.{All}
use Rattle.opgp_keyring.specs.Keyring.{IsCertificate}
use Rattle.opgp_valid.specs.KnownKeys.{knowns}
use Rattle.opgp_bound.specs.Newest.{certificates_verdicts, newest_certificates}
use Rattle.opgp_bound.proofs.NewestFirst.{AreNewest, AreVerdicts}
use Rattle.opgp_bound.proofs.newest.keep_newest.Given as goal

abbrev pub invariant-loop-certificate : goal.invariant-loop-certificate
invariant-loop-certificate l = record {
  value : AreNewest l.fn.at (knowns l.known) l.yielded l.fn.verdicts l.kept.items l.rest;
  done : l.kept.items ≡ newest_certificates l.fn.at (knowns l.known) l.yielded l.fn.verdicts;
  verdicts : AreVerdicts l.fn.at (knowns l.known) l.yielded l.fn.verdicts l.founds.items l.rest;
  told : l.founds.items ≡ certificates_verdicts l.fn.at (knowns l.known) l.yielded l.fn.verdicts;
  sound : All IsCertificate l.kept.items;
}
