use Rattle.std.proofs.Common.{◌≡◌}
use Rattle.std.specs.Prelude.{All}
use Rattle.opgp_keyring.specs.Keyring.{IsCertificate}
use Rattle.opgp_report.specs.KeyIndex.{prints_shown}
use Rattle.opgp_valid.specs.KnownKeys.{knowns}
use Rattle.opgp_bound.specs.Bound.{bound_certificates}
use Rattle.opgp_bound.proofs.First.{AreFirst}
use Rattle.opgp_bound.proofs.bounding.keep_bound.Given as goal

abbrev pub invariant-loop-certificate : goal.invariant-loop-certificate
invariant-loop-certificate l = record {
  value : AreFirst (knowns l.known) (prints_shown l.issuers) l.yielded l.fn.verdicts l.kept.items l.rest;
  done : l.kept.items ≡ bound_certificates (knowns l.known) (prints_shown l.issuers) l.yielded l.fn.verdicts;
  sound : All IsCertificate l.kept.items;
}
