-- The verdicts that are handed on are those of what stays.
use Rattle.std.proofs.Common.{◌≡◌, ◌∙◌, ◌++◌, ℕ, suc, zero, ◌+◌, ◌≤◌, List, [], ◌∷◌, map, length, take, drop, Bool, true, false, cond, Option, if◌then◌else◌, refl, sym, ap, arith, append_assoc, length-drop}
use Rattle.std.specs.List.{filter}
use Rattle.std.proofs.lemmas.List.{drop-drop}
use Rattle.opgp_octets.specs.declared.signature_type.SignatureType.{SignatureType}
use Rattle.opgp_frame.specs.Packet.{PacketValue}
use Rattle.opgp_packet.specs.SignatureBody.{signature_at}
use Rattle.opgp_hash.specs.SubjectValue.{SubjectValue}
use Rattle.opgp_hash.specs.declared.fingerprints.Fingerprint.{Fingerprint}
use Rattle.opgp_report.specs.Standing.{bodies_within, is_signature}
use Rattle.opgp_report.specs.declared.verifier.Verdict.{Verdict}
use Rattle.opgp_valid.specs.Told.{first_verdict}
use Rattle.opgp_valid.specs.declared.known_keys.Known.{Known}
use Rattle.opgp_bound.specs.Judged.{JudgedValue, judged, judged_hangs, rows_of, rows_on}
use Rattle.opgp_bound.specs.Newest.{newest_hangs, newest_rows, newest_stays}
use Rattle.opgp_bound.specs.Role.{role_read}
use Rattle.opgp_bound.specs.declared.role.Role.{Role}
use Rattle.opgp_bound.specs.declared.role.Role.TheVariants.{Other}

-- ---- the first verdicts
pub dropped_first : (k : ℕ) (founds more : List Verdict) → k ≤ length founds → drop k (take k founds ++ more) ≡ more
dropped_first zero founds more l = refl
dropped_first (suc k) [] more l = absurd (omega arith)
dropped_first (suc k) (f ∷ founds) more l = dropped_first k founds more (omega arith)

same_first : (k : ℕ) (founds more : List Verdict) → 1 ≤ k → k ≤ length founds → first_verdict (take k founds ++ more) ≡ first_verdict founds
same_first zero founds more l h = absurd (omega arith)
same_first (suc k) [] more l h = absurd (omega arith)
same_first (suc k) (f ∷ founds) more l h = refl

module _ (newest : SignatureType → Option ℕ) (known : List Known) (primary : Fingerprint) (subject : SubjectValue) where
  -- a signature has a row; what has none, is nothing else by any verdict
  same_judged : (p : PacketValue) (founds more : List Verdict) → rows_of subject p ≤ length founds → judged known primary subject (first_verdict (take (rows_of subject p) founds ++ more)) p ≡ judged known primary subject (first_verdict founds) p
  same_judged p founds more l = step (is_signature p) refl where
    step : (t : Bool) → is_signature p ≡ t → judged known primary subject (first_verdict (take (rows_of subject p) founds ++ more)) p ≡ judged known primary subject (first_verdict founds) p
    step true e =
        let n : rows_of subject p ≡ 1 + length (bodies_within subject (signature_at p.body)) = ap (λ (t : Bool). if t then 1 + length (bodies_within subject (signature_at p.body)) else 0) e in
        ap (λ (v : Verdict). judged known primary subject v p) (same_first (rows_of subject p) founds more (omega arith) l)
    step false e =
        let by : (v : Verdict) → (if is_signature p then role_read known primary subject v (signature_at p.body) else Other) ≡ Other = λ v. ap (λ (t : Bool). if t then role_read known primary subject v (signature_at p.body) else Other) e in
        let made : Role → JudgedValue = λ r. record { packet = p; role = r } in
        ap made (by (first_verdict (take (rows_of subject p) founds ++ more)) ∙ sym (by (first_verdict founds)))

  abbrev left : List PacketValue → List Verdict → List PacketValue
  left ps founds = newest_hangs newest known primary subject ps founds

  abbrev left_rows : List PacketValue → List Verdict → List Verdict
  left_rows ps founds = newest_rows newest known primary subject ps founds

  abbrev kept : List PacketValue → List Verdict → List JudgedValue
  kept ps founds = filter (newest_stays newest) (judged_hangs known primary subject ps founds)

  handed : (ps : List PacketValue) (founds more : List Verdict) → rows_on subject ps ≤ length founds
      → (judged_hangs known primary subject (left ps founds) (left_rows ps founds ++ more) ≡ kept ps founds) × (drop (rows_on subject (left ps founds)) (left_rows ps founds ++ more) ≡ more)
  handed [] founds more l = (refl, refl)
  handed (p ∷ ps) founds more l = step (newest_stays newest (judged known primary subject (first_verdict founds) p)) (handed ps (drop (rows_of subject p) founds) more (omega (arith, length-drop (rows_of subject p) founds))) where
    step : (t : Bool)
        → (judged_hangs known primary subject (left ps (drop (rows_of subject p) founds)) (left_rows ps (drop (rows_of subject p) founds) ++ more) ≡ kept ps (drop (rows_of subject p) founds))
        × (drop (rows_on subject (left ps (drop (rows_of subject p) founds))) (left_rows ps (drop (rows_of subject p) founds) ++ more) ≡ more)
        → (judged_hangs known primary subject (map (λ j. j.packet) (cond t (judged known primary subject (first_verdict founds) p ∷ kept ps (drop (rows_of subject p) founds)) (kept ps (drop (rows_of subject p) founds))))
        (((if t then take (rows_of subject p) founds else []) ++ left_rows ps (drop (rows_of subject p) founds)) ++ more) ≡ cond t (judged known primary subject (first_verdict founds) p ∷ kept ps (drop (rows_of subject p) founds)) (kept ps (drop (rows_of subject p) founds)))
        × (drop (rows_on subject (map (λ j. j.packet) (cond t (judged known primary subject (first_verdict founds) p ∷ kept ps (drop (rows_of subject p) founds)) (kept ps (drop (rows_of subject p) founds)))))
        (((if t then take (rows_of subject p) founds else []) ++ left_rows ps (drop (rows_of subject p) founds)) ++ more) ≡ more)
    step false h = h
    step true h =
        let k : ℕ = rows_of subject p in
        let behind : List Verdict = drop k founds in
        let on : List Verdict = left_rows ps behind ++ more in
        let enough : k ≤ length founds = omega arith in
        let dropped : drop k (take k founds ++ on) ≡ on = dropped_first k founds on enough in
        let all : ((take k founds ++ left_rows ps behind) ++ more) ≡ take k founds ++ on = append_assoc (take k founds) (left_rows ps behind) more in (
          ap (λ (l : List Verdict). judged known primary subject (first_verdict l) p ∷ judged_hangs known primary subject (left ps behind) (drop k l)) all
              ∙ ap (λ (j : JudgedValue). j ∷ judged_hangs known primary subject (left ps behind) (drop k (take k founds ++ on))) (same_judged p founds on enough)
              ∙ ap (λ (l : List Verdict). judged known primary subject (first_verdict founds) p ∷ judged_hangs known primary subject (left ps behind) l) dropped
              ∙ ap (λ (l : List JudgedValue). judged known primary subject (first_verdict founds) p ∷ l) h.0,
          ap (drop (k + rows_on subject (left ps behind))) all
              ∙ sym (drop-drop (rows_on subject (left ps behind)) k (take k founds ++ on))
              ∙ ap (drop (rows_on subject (left ps behind))) dropped ∙ h.1,
        )

pub judged_before : (newest : SignatureType → Option ℕ) (known : List Known) (primary : Fingerprint) (subject : SubjectValue) (ps : List PacketValue) (founds more : List Verdict) → rows_on subject ps ≤ length founds
    → judged_hangs known primary subject (newest_hangs newest known primary subject ps founds) (newest_rows newest known primary subject ps founds ++ more) ≡ filter (newest_stays newest) (judged_hangs known primary subject ps founds)
judged_before newest known primary subject ps founds more l = (handed newest known primary subject ps founds more l).0

pub rest_handed : (newest : SignatureType → Option ℕ) (known : List Known) (primary : Fingerprint) (subject : SubjectValue) (ps : List PacketValue) (founds more : List Verdict) → rows_on subject ps ≤ length founds
    → drop (rows_on subject (newest_hangs newest known primary subject ps founds)) (newest_rows newest known primary subject ps founds ++ more) ≡ more
rest_handed newest known primary subject ps founds more l = (handed newest known primary subject ps founds more l).1
