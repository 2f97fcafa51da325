-- How far a walk over the certificates of a keyring has come.
use Rattle.std.specs.Prelude.{◌≡◌, ℕ, ◌+◌, List, slice_get}
use Rattle.opgp_keyring.specs.Keyring.{CertificateValue}
use Rattle.opgp_report.specs.declared.verifier.Verdict.{Verdict}
use Rattle.opgp_valid.specs.Judgement.{verdicts_from}
use Rattle.opgp_valid.specs.declared.reached.Reached.{Reached}

-- These certificates are left, from this number on, and the verdicts on their rows and on those of
-- the ones behind them.
pub record IsReached (all : List CertificateValue) (founds : List Verdict) (r : Reached)
    : Type 0 where
  pub left : (k : ℕ) → slice_get all (r.number + k) ≡ slice_get r.certificates.now k
  pub verdicts : (k : ℕ)
      → verdicts_from all (r.number + k) founds ≡ verdicts_from r.certificates.now k r.verdicts.now
