-- Each certificate of a keyring of whose self-signatures those stay that are heard at a time stands as before.
use Rattle.std.proofs.Common.{◌≡◌, ◌∙◌, ◌+◌, ◌≤◌, ℕ, zero, suc, List, [], ◌∷◌, ◌++◌, length, take, drop, map, Some, None, slice_get, refl, sym, ap, arith, append_assoc, length-append, length-drop}
use Rattle.std.specs.List.{flat_map}
use Rattle.std.proofs.lemmas.List.{drop-drop}
use Rattle.std.proofs.lemmas.Option.{same_Some}
use Rattle.opgp_hash.specs.SubjectValue.{one}
use Rattle.opgp_keyring.specs.Keyring.{CertificateValue, ComponentValue, KeyringValue}
use Rattle.opgp_report.specs.First.{print_of}
use Rattle.opgp_report.specs.Report.{certificate_keys, subkey_bodies}
use Rattle.opgp_report.specs.Standing.{certificate_standing, on_head}
use Rattle.opgp_report.specs.declared.verifier.Verdict.{Verdict}
use Rattle.opgp_valid.specs.Judgement.{facts_by, rows_in, verdicts_from}
use Rattle.opgp_valid.specs.KnownKeys.{known_in, known_of}
use Rattle.opgp_valid.specs.State.{identity_of, state_of}
use Rattle.opgp_valid.specs.declared.facts.Key.{Key}
use Rattle.opgp_valid.specs.declared.known_keys.Known.{Known}
use Rattle.opgp_valid.specs.declared.policy.Policy.TheVariants.{Usual}
use Rattle.opgp_valid.specs.declared.statement.Statement.{Statement}
use Rattle.opgp_bound.specs.Judged.{certificate_rows, component_rows, components_rows, rows_on}
use Rattle.opgp_bound.specs.Newest.{certificate_verdicts, certificates_verdicts, newest_certificate, newest_certificates, newest_component, newest_component_rows, newest_components, newest_components_rows, newest_hangs, newest_keyring, newest_made, newest_rows, newest_verdicts, said}
use Rattle.opgp_bound.proofs.Handed.{rest_handed}
use Rattle.opgp_bound.proofs.Lasting.{identity_as_before, state_as_before}
use Rattle.opgp_bound.proofs.Rows.{certificate_counted}

-- ---- the same keys are known
module _ (time : ℕ) (known : List Known) where
  same_subkeys : (ss : List Statement) (body : List ℕ) (n : ℕ) (ds : List ComponentValue) (founds : List Verdict) → flat_map subkey_bodies (newest_components time known ss body n ds founds) ≡ flat_map subkey_bodies ds
  same_subkeys ss body n [] founds = refl
  same_subkeys ss body n (d ∷ ds) founds = ap (λ (l : List (List ℕ)). subkey_bodies d ++ l) (same_subkeys ss body (n + 1) ds (drop (component_rows body d) founds))

  same_keys : (cs : List CertificateValue) (founds : List Verdict) → flat_map certificate_keys (newest_certificates time known cs founds) ≡ flat_map certificate_keys cs
  same_keys [] founds = refl
  same_keys (c ∷ cs) founds =
      let others : List CertificateValue = newest_certificates time known cs (drop (certificate_rows c) founds) in
      ap (λ (l : List (List ℕ)). (c.primary.body ∷ l) ++ flat_map certificate_keys others) (same_subkeys (said known c founds) c.primary.body 0 c.components (drop (rows_on (one c.primary.body) c.hangs) founds))
      ∙ ap (λ (l : List (List ℕ)). certificate_keys c ++ l) (same_keys cs (drop (certificate_rows c) founds))

  -- ---- the verdicts behind those on the rows that stay
  behind_parts : (ss : List Statement) (body : List ℕ) (n : ℕ) (ds : List ComponentValue) (founds more : List Verdict) → components_rows body ds ≤ length founds
      → drop (components_rows body (newest_components time known ss body n ds founds)) (newest_components_rows time known ss body n ds founds ++ more) ≡ more
  behind_parts ss body n [] founds more l = refl
  behind_parts ss body n (d ∷ ds) founds more l =
      let behind : List Verdict = drop (component_rows body d) founds in
      let these : List Verdict = newest_component_rows (newest_made time ss (Some n)) known (print_of body) body d founds in
      let others : List Verdict = newest_components_rows time known ss body (n + 1) ds behind in
      let here : ℕ = component_rows body (newest_component (newest_made time ss (Some n)) known (print_of body) body d founds) in
      let there : ℕ = components_rows body (newest_components time known ss body (n + 1) ds behind) in
      let few : rows_on (on_head body d.head) d.hangs ≤ length founds = omega arith in
      let rest : components_rows body ds ≤ length behind = omega (arith, length-drop (component_rows body d) founds) in
      ap (drop (here + there)) (append_assoc these others more)
      ∙ sym (drop-drop there here (these ++ (others ++ more)))
      ∙ ap (drop there) (rest_handed (newest_made time ss (Some n)) known (print_of body) (on_head body d.head) d.hangs founds (others ++ more) few)
      ∙ behind_parts ss body (n + 1) ds behind more rest

  behind_certificate : (c : CertificateValue) (founds more : List Verdict) → certificate_rows c ≤ length founds
      → drop (certificate_rows (newest_certificate time known c founds)) (certificate_verdicts time known c founds ++ more) ≡ more
  behind_certificate c founds more l =
      let body : List ℕ = c.primary.body in
      let ss : List Statement = said known c founds in
      let behind : List Verdict = drop (rows_on (one body) c.hangs) founds in
      let these : List Verdict = newest_rows (newest_made time ss None) known (print_of body) (one body) c.hangs founds in
      let others : List Verdict = newest_components_rows time known ss body 0 c.components behind in
      let here : ℕ = rows_on (one body) (newest_hangs (newest_made time ss None) known (print_of body) (one body) c.hangs founds) in
      let there : ℕ = components_rows body (newest_components time known ss body 0 c.components behind) in
      let few : rows_on (one body) c.hangs ≤ length founds = omega arith in
      let rest : components_rows body c.components ≤ length behind = omega (arith, length-drop (rows_on (one body) c.hangs) founds) in
      ap (drop (here + there)) (append_assoc these others more)
      ∙ sym (drop-drop there here (these ++ (others ++ more)))
      ∙ ap (drop there) (rest_handed (newest_made time ss None) known (print_of body) (one body) c.hangs founds (others ++ more) few)
      ∙ behind_parts ss body 0 c.components behind more rest

  -- ---- one certificate of several
  verdicts_behind : (c : CertificateValue) (cs : List CertificateValue) (i : ℕ) (founds : List Verdict) → verdicts_from (c ∷ cs) (suc i) founds ≡ verdicts_from cs i (drop (certificate_rows c) founds)
  verdicts_behind c cs i founds =
      let others : ℕ = length (rows_in (take i cs)) in
      ap (λ (n : ℕ). drop n founds) (length-append (certificate_standing 0 c) (rows_in (take i cs)))
      ∙ ap (λ (n : ℕ). drop (n + others) founds) (certificate_counted 0 c)
      ∙ sym (drop-drop others (certificate_rows c) founds)

  module _ {X : Type 0} (f : CertificateValue → List Verdict → X)
      (same : (c : CertificateValue) (founds more : List Verdict) → certificate_rows c ≤ length founds → f (newest_certificate time known c founds) (certificate_verdicts time known c founds ++ more) ≡ f c founds) where
    nth_same : (i : ℕ) (cs : List CertificateValue) (founds : List Verdict) (c m : CertificateValue) → length (rows_in cs) ≤ length founds → slice_get cs i ≡ Some c → slice_get (newest_certificates time known cs founds) i ≡ Some m
        → f m (verdicts_from (newest_certificates time known cs founds) i (certificates_verdicts time known cs founds)) ≡ f c (verdicts_from cs i founds)
    nth_same i [] founds c m l e h = absurd (cc e)
    nth_same zero (b ∷ cs) founds c m l e h =
        let counted : length (rows_in (b ∷ cs)) ≡ certificate_rows b + length (rows_in cs) = length-append (certificate_standing 0 b) (rows_in cs) ∙ ap (λ (n : ℕ). n + length (rows_in cs)) (certificate_counted 0 b) in
        let few : certificate_rows b ≤ length founds = omega arith in
        let others : List Verdict = certificates_verdicts time known cs (drop (certificate_rows b) founds) in
        ap (λ (x : CertificateValue). f x (certificate_verdicts time known b founds ++ others)) (sym (same_Some (newest_certificate time known b founds) m h))
        ∙ same b founds others few
        ∙ ap (λ (x : CertificateValue). f x founds) (same_Some b c e)
    nth_same (suc i) (b ∷ cs) founds c m l e h =
        let counted : length (rows_in (b ∷ cs)) ≡ certificate_rows b + length (rows_in cs) = length-append (certificate_standing 0 b) (rows_in cs) ∙ ap (λ (n : ℕ). n + length (rows_in cs)) (certificate_counted 0 b) in
        let few : certificate_rows b ≤ length founds = omega arith in
        let behind : List Verdict = drop (certificate_rows b) founds in
        let rest : length (rows_in cs) ≤ length behind = omega (arith, length-drop (certificate_rows b) founds) in
        let others : List Verdict = certificates_verdicts time known cs behind in
        ap (f m) (verdicts_behind (newest_certificate time known b founds) (newest_certificates time known cs behind) i (certificate_verdicts time known b founds ++ others)
        ∙ ap (verdicts_from (newest_certificates time known cs behind) i) (behind_certificate b founds others few))
        ∙ nth_same i cs behind c m rest e h
        ∙ ap (f c) (sym (verdicts_behind b cs i founds))

-- ---- a keyring
pub same_known : (r : KeyringValue) (founds : List Verdict) (time : ℕ) → known_in (newest_keyring r founds time) ≡ known_in r
same_known r founds time = ap (map known_of) (same_keys time (known_in r) r.certificates founds)

module _ (r : KeyringValue) (founds : List Verdict) (time i : ℕ) (c m : CertificateValue) (few : length (rows_in r.certificates) ≤ length founds)
    (there : slice_get r.certificates i ≡ Some c) (here : slice_get (newest_keyring r founds time).certificates i ≡ Some m) where
  abbrev handed : List Verdict
  handed = verdicts_from (newest_keyring r founds time).certificates i (newest_verdicts r founds time)

  pub state_throughout : (k : Key) → state_of (facts_by (known_in (newest_keyring r founds time)) Usual m handed) k time ≡ state_of (facts_by (known_in r) Usual c (verdicts_from r.certificates i founds)) k time
  state_throughout k =
      ap (λ (ks : List Known). state_of (facts_by ks Usual m handed) k time) (same_known r founds time)
      ∙ nth_same time (known_in r) (λ d rows. state_of (facts_by (known_in r) Usual d rows) k time) (λ d rows more l. state_as_before time (known_in r) d rows more l k) i r.certificates founds c m few there here

  pub identity_throughout : (n : ℕ) → identity_of (facts_by (known_in (newest_keyring r founds time)) Usual m handed) n time ≡ identity_of (facts_by (known_in r) Usual c (verdicts_from r.certificates i founds)) n time
  identity_throughout n =
      ap (λ (ks : List Known). identity_of (facts_by ks Usual m handed) n time) (same_known r founds time)
      ∙ nth_same time (known_in r) (λ d rows. identity_of (facts_by (known_in r) Usual d rows) n time) (λ d rows more l. identity_as_before time (known_in r) d rows more l n) i r.certificates founds c m few there here
