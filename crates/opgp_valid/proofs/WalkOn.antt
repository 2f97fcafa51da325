-- Walks over the certificates of a keyring.
use Rattle.std.proofs.Common.{◌≡◌, ◌≤◌, ◌∙◌, ◌+◌, ◌-◌, ℕ, suc, List, [], ◌∷◌, length, take, drop, sym, ap, arith, None, Some, zero-add}
use Rattle.std.proofs.lemmas.List.{drop-drop, length-append}
use Rattle.std.specs.Prelude.{slice_get}
use Rattle.opgp_keyring.specs.Keyring.{CertificateValue}
use Rattle.opgp_report.specs.Standing.{certificate_standing}
use Rattle.opgp_report.specs.declared.verifier.Verdict.{Verdict}
use Rattle.opgp_valid.specs.Judgement.{rows_in, verdicts_from}
use Rattle.opgp_valid.specs.Reached.{IsReached}
use Rattle.opgp_valid.specs.declared.reached.Reached.{Reached}

pub reached_first : (all : List CertificateValue) (founds : List Verdict) (r : Reached) → r.number ≡ 0 → r.certificates.now ≡ all → r.verdicts.now ≡ founds → IsReached all founds r
reached_first all founds r zero cs vs = record {
  left = λ k. ap (λ n. slice_get all (n + k)) zero ∙ ap (λ (n : ℕ). slice_get all n) (zero-add k) ∙ ap (λ (l : List CertificateValue). slice_get l k) (sym cs);
  verdicts = λ k. ap (λ n. verdicts_from all (n + k) founds) zero ∙ ap (λ (n : ℕ). verdicts_from all n founds) (zero-add k)
      ∙ ap (λ (l : List CertificateValue). verdicts_from l k founds) (sym cs)
      ∙ ap (λ (v : List Verdict). verdicts_from r.certificates.now k v) (sym vs);
}

-- the verdicts behind those of the first certificate
behind_first : (c : CertificateValue) (more : List CertificateValue) (k : ℕ) (v : List Verdict) → verdicts_from (c ∷ more) (suc k) v ≡ verdicts_from more k (drop (length (certificate_standing 0 c)) v)
behind_first c more k v =
    let both = length-append (certificate_standing 0 c) (rows_in (take k more)) in
    ap (λ n. drop n v) (both ∙ omega arith)
    ∙ sym (drop-drop (length (rows_in (take k more))) (length (certificate_standing 0 c)) v)

module _ (all : List CertificateValue) (founds : List Verdict) (r s : Reached) (c : CertificateValue) (more : List CertificateValue) where
  pub reached_next : IsReached all founds r → r.certificates.now ≡ c ∷ more → s.number ≡ r.number + 1 → s.certificates.now ≡ more
      → s.verdicts.now ≡ drop (length (certificate_standing 0 c)) r.verdicts.now → IsReached all founds s
  reached_next h e n cs vs = record {
    left = λ k. ap (λ (m : ℕ). slice_get all m) (ap (λ m. m + k) n ∙ omega arith) ∙ h.left (suc k)
        ∙ ap (λ (l : List CertificateValue). slice_get l (suc k)) e ∙ ap (λ (l : List CertificateValue). slice_get l k) (sym cs);
    verdicts = λ k. ap (λ (m : ℕ). verdicts_from all m founds) (ap (λ m. m + k) n ∙ omega arith) ∙ h.verdicts (suc k)
        ∙ ap (λ (l : List CertificateValue). verdicts_from l (suc k) r.verdicts.now) e
        ∙ behind_first c more k r.verdicts.now
        ∙ ap (λ (v : List Verdict). verdicts_from more k v) (sym vs)
        ∙ ap (λ (l : List CertificateValue). verdicts_from l k s.verdicts.now) (sym cs);
  }

module _ (all : List CertificateValue) (founds : List Verdict) (r : Reached) (h : IsReached all founds r) where
  -- the certificate that was reached
  pub certificate_there : (c : CertificateValue) (more : List CertificateValue) (n : ℕ) → r.certificates.now ≡ c ∷ more → r.number ≡ n → slice_get all n ≡ Some c
  certificate_there c more n e same = ap (λ (m : ℕ). slice_get all m) (sym same ∙ omega arith) ∙ h.left 0 ∙ ap (λ (l : List CertificateValue). slice_get l 0) e

  pub verdicts_there : (n : ℕ) → r.number ≡ n → r.verdicts.now ≡ verdicts_from all n founds
  verdicts_there n same = sym (ap (λ (m : ℕ). verdicts_from all m founds) (sym same ∙ omega arith) ∙ h.verdicts 0)

  -- behind the end there is none
  pub none_there : (n : ℕ) → r.certificates.now ≡ [] → r.number ≤ n → slice_get all n ≡ None
  none_there n e before =
      let far : n ≡ r.number + (n - r.number) = omega (arith, before) in
      ap (λ (m : ℕ). slice_get all m) far ∙ h.left (n - r.number) ∙ ap (λ (l : List CertificateValue). slice_get l (n - r.number)) e
