-- The rows of certificates, one after the other.
use Rattle.std.proofs.Common.{◌≡◌, ◌∙◌, ℕ, ◌+◌, ◌-◌, ◌≤◌, List, [], ◌∷◌, ◌++◌, length, take, drop, map, get_or, append_assoc, ap, arith, refl}
use Rattle.std.proofs.lemmas.Grind.{common_steps}
use Rattle.opgp_keyring.specs.Keyring.{CertificateValue, KeyringValue}
use Rattle.opgp_report.specs.Standing.{by_number, certificate_standing}
use Rattle.opgp_report.specs.declared.verifier.Verdict.{Verdict}
use Rattle.opgp_state.specs.KeyringStates.{keyring_states, states_among}
use Rattle.opgp_valid.specs.KnownKeys.{known_in}
use Rattle.opgp_valid.specs.declared.known_keys.Known.{Known}
use Rattle.opgp_valid.specs.declared.policy.Policy.{Policy}
use Rattle.opgp_handles.specs.Standings.{verdict_by}
use Rattle.opgp_handles.specs.States.{certificate_rows, part_rows, rows_from, state_rows}
use Rattle.opgp_handles.specs.declared.state_row.StateRow.{StateRow}

behind_first : {A : Type 0} (x : A) (xs : List A) → take (length (x ∷ xs) - 1) (drop 1 (x ∷ xs)) ≡ xs
behind_first x xs = grind (arith, common_steps)

module _ (known : List Known) (policy : Policy) (at n : ℕ) (before after : List StateRow) (c : CertificateValue) (founds rest : List Verdict) where
  -- the rows of the first certificate that is to come, added to those so far
  pub first_added : (cs : List CertificateValue) → 1 ≤ length cs → c ≡ get_or cs 0 c → after ≡ before ++ certificate_rows known policy at n c founds → rest ≡ drop (length (certificate_standing 0 c)) founds
      → after ++ rows_from known policy at (n + 1) (take (length cs - 1) (drop 1 cs)) rest ≡ before ++ rows_from known policy at n cs founds
  first_added [] l h p q = absurd (omega arith)
  first_added (x ∷ xs) l h p q =
      ap (λ cs. after ++ rows_from known policy at (n + 1) cs rest) (behind_first x xs)
      ∙ ap (λ a. a ++ rows_from known policy at (n + 1) xs rest) p
      ∙ append_assoc before (certificate_rows known policy at n c founds) (rows_from known policy at (n + 1) xs rest)
      ∙ ap (λ f. before ++ (certificate_rows known policy at n c founds ++ rows_from known policy at (n + 1) xs f)) q
      ∙ ap (λ (k : CertificateValue). before ++ (certificate_rows known policy at n k founds ++ rows_from known policy at (n + 1) xs (drop (length (certificate_standing 0 k)) founds))) h

-- ---- the rows of states
rows_from_states : (known : List Known) (policy : Policy) (at n : ℕ) (cs : List CertificateValue) (founds : List Verdict) → rows_from known policy at n cs founds ≡ by_number part_rows n (states_among known policy at cs founds)
rows_from_states known policy at n [] founds = refl
rows_from_states known policy at n (c ∷ cs) founds = ap (λ l. certificate_rows known policy at n c founds ++ l) (rows_from_states known policy at (n + 1) cs (drop (length (certificate_standing 0 c)) founds))

pub rows_are_states : (r : KeyringValue) (policy : Policy) (founds : List ℕ) (at : ℕ) → state_rows r policy founds at ≡ by_number part_rows 0 (keyring_states r (map verdict_by founds) policy at)
rows_are_states r policy founds at = rows_from_states (known_in r) policy at 0 r.certificates (map verdict_by founds)
