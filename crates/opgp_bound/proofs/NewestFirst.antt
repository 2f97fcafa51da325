-- What stays of certificates that are heard at a time, one after the other.
use Rattle.std.proofs.Common.{◌≡◌, ◌∙◌, ℕ, List, [], ◌∷◌, ◌++◌, drop, sym, ap, append_assoc, append-nil}
use Rattle.opgp_keyring.specs.Keyring.{CertificateValue}
use Rattle.opgp_report.specs.declared.verifier.Verdict.{Verdict}
use Rattle.opgp_valid.specs.declared.known_keys.Known.{Known}
use Rattle.opgp_bound.specs.Judged.{certificate_rows}
use Rattle.opgp_bound.specs.Newest.{certificate_verdicts, certificates_verdicts, newest_certificate, newest_certificates}

module _ (at : ℕ) (known : List Known) where
  -- these are those of the first certificates, and the verdicts behind them are left
  abbrev pub AreNewest : List CertificateValue → List Verdict → List CertificateValue → List Verdict → Type 0
  AreNewest done founds kept rest = (more : List CertificateValue) → newest_certificates at known (done ++ more) founds ≡ kept ++ newest_certificates at known more rest

  -- the same of the verdicts on what stays of them
  abbrev pub AreVerdicts : List CertificateValue → List Verdict → List Verdict → List Verdict → Type 0
  AreVerdicts done founds kept rest = (more : List CertificateValue) → certificates_verdicts at known (done ++ more) founds ≡ kept ++ certificates_verdicts at known more rest

  pub newest_more : (done : List CertificateValue) (c : CertificateValue) (founds rest behind : List Verdict) (kept new : List CertificateValue)
      → AreNewest done founds kept rest → behind ≡ drop (certificate_rows c) rest → new ≡ kept ++ newest_certificate at known c rest ∷ []
      → AreNewest (done ++ c ∷ []) founds new behind
  newest_more done c founds rest behind kept new first dropped added more =
      ap (λ (l : List CertificateValue). newest_certificates at known l founds) (append_assoc done (c ∷ []) more)
      ∙ first (c ∷ more)
      ∙ ap (λ (l : List Verdict). kept ++ newest_certificate at known c rest ∷ newest_certificates at known more l) (sym dropped)
      ∙ sym (append_assoc kept (newest_certificate at known c rest ∷ []) (newest_certificates at known more behind))
      ∙ ap (λ (l : List CertificateValue). l ++ newest_certificates at known more behind) (sym added)

  pub verdicts_more : (done : List CertificateValue) (c : CertificateValue) (founds rest behind kept new : List Verdict)
      → AreVerdicts done founds kept rest → behind ≡ drop (certificate_rows c) rest → new ≡ kept ++ certificate_verdicts at known c rest
      → AreVerdicts (done ++ c ∷ []) founds new behind
  verdicts_more done c founds rest behind kept new first dropped added more =
      ap (λ (l : List CertificateValue). certificates_verdicts at known l founds) (append_assoc done (c ∷ []) more)
      ∙ first (c ∷ more)
      ∙ ap (λ (l : List Verdict). kept ++ (certificate_verdicts at known c rest ++ certificates_verdicts at known more l)) (sym dropped)
      ∙ sym (append_assoc kept (certificate_verdicts at known c rest) (certificates_verdicts at known more behind))
      ∙ ap (λ (l : List Verdict). l ++ certificates_verdicts at known more behind) (sym added)

  pub all_newest : (done : List CertificateValue) (founds rest : List Verdict) (kept : List CertificateValue) → AreNewest done founds kept rest → kept ≡ newest_certificates at known done founds
  all_newest done founds rest kept first = sym (ap (λ (l : List CertificateValue). newest_certificates at known l founds) (sym (append-nil done)) ∙ first [] ∙ append-nil kept)

  pub all_verdicts : (done : List CertificateValue) (founds rest kept : List Verdict) → AreVerdicts done founds kept rest → kept ≡ certificates_verdicts at known done founds
  all_verdicts done founds rest kept first = sym (ap (λ (l : List CertificateValue). certificates_verdicts at known l founds) (sym (append-nil done)) ∙ first [] ∙ append-nil kept)
