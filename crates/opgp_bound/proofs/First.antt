-- What stays of certificates, one after the other.
use Rattle.std.proofs.Common.{◌≡◌, ◌∙◌, List, [], ◌∷◌, ◌++◌, drop, sym, ap, append_assoc, append-nil}
use Rattle.opgp_hash.specs.declared.fingerprints.Fingerprint.{Fingerprint}
use Rattle.opgp_keyring.specs.Keyring.{CertificateValue}
use Rattle.opgp_report.specs.declared.verifier.Verdict.{Verdict}
use Rattle.opgp_valid.specs.declared.known_keys.Known.{Known}
use Rattle.opgp_bound.specs.Bound.{bound_certificate, bound_certificates}
use Rattle.opgp_bound.specs.Judged.{certificate_rows}

-- these are those of the first certificates, and the verdicts behind them are left
abbrev pub AreFirst : List Known → List Fingerprint → List CertificateValue → List Verdict → List CertificateValue → List Verdict → Type 0
AreFirst known issuers done founds kept rest = (more : List CertificateValue) → bound_certificates known issuers (done ++ more) founds ≡ kept ++ bound_certificates known issuers more rest

pub first_more : (known : List Known) (issuers : List Fingerprint) (done : List CertificateValue) (c : CertificateValue) (founds rest behind : List Verdict) (kept new : List CertificateValue)
    → AreFirst known issuers done founds kept rest → behind ≡ drop (certificate_rows c) rest → new ≡ kept ++ bound_certificate known issuers c rest ∷ []
    → AreFirst known issuers (done ++ c ∷ []) founds new behind
first_more known issuers done c founds rest behind kept new first dropped added more =
    ap (λ l. bound_certificates known issuers l founds) (append_assoc done (c ∷ []) more)
    ∙ first (c ∷ more)
    ∙ ap (λ (l : List Verdict). kept ++ bound_certificate known issuers c rest ∷ bound_certificates known issuers more l) (sym dropped)
    ∙ sym (append_assoc kept (bound_certificate known issuers c rest ∷ []) (bound_certificates known issuers more behind))
    ∙ ap (λ l. l ++ bound_certificates known issuers more behind) (sym added)

pub all_first : (known : List Known) (issuers : List Fingerprint) (done : List CertificateValue) (founds rest : List Verdict) (kept : List CertificateValue) → AreFirst known issuers done founds kept rest → kept ≡ bound_certificates known issuers done founds
all_first known issuers done founds rest kept first = sym (ap (λ l. bound_certificates known issuers l founds) (sym (append-nil done)) ∙ first [] ∙ append-nil kept)
