-- What is made of the packets that stay of a certificate, by the verdicts that are handed on, is what was made of them before.
use Rattle.std.proofs.Common.{◌≡◌, ◌∙◌, ◌+◌, ◌≤◌, ℕ, Bool, true, false, List, [], ◌∷◌, ◌++◌, length, take, drop, map, cond, Option, Some, None, refl, sym, ap, if◌then◌else◌, arith, append_assoc, length-drop}
use Rattle.std.specs.List.{filter}
use Rattle.opgp_frame.specs.Packet.{PacketValue}
use Rattle.opgp_hash.specs.SubjectValue.{SubjectValue, one}
use Rattle.opgp_keyring.specs.Keyring.{ComponentValue}
use Rattle.opgp_report.specs.First.{print_of}
use Rattle.opgp_report.specs.Standing.{on_head}
use Rattle.opgp_report.specs.declared.verifier.Verdict.{Verdict}
use Rattle.opgp_valid.specs.Told.{first_verdict}
use Rattle.opgp_valid.specs.declared.known_keys.Known.{Known}
use Rattle.opgp_valid.specs.declared.statement.Statement.{Statement}
use Rattle.opgp_bound.specs.Judged.{JudgedValue, component_rows, components_rows, judged, judged_hangs, rows_of, rows_on}
use Rattle.opgp_bound.specs.Newest.{newest_components, newest_components_rows, newest_hangs, newest_made, newest_rows, newest_stays}
use Rattle.opgp_bound.proofs.Handed.{dropped_first, rest_handed}
use Rattle.opgp_bound.proofs.Listed.{on_part, on_parts}

module _ (time : ℕ) (known : List Known) (ss : List Statement) (body : List ℕ) where
  -- a packet stays
  abbrev pub lasts : Option ℕ → SubjectValue → PacketValue → List Verdict → Bool
  lasts o subject p founds = newest_stays (newest_made time ss o) (judged known (print_of body) subject (first_verdict founds) p)

  abbrev left : Option ℕ → SubjectValue → List PacketValue → List Verdict → List PacketValue
  left o subject ps founds = newest_hangs (newest_made time ss o) known (print_of body) subject ps founds

  abbrev left_rows : Option ℕ → SubjectValue → List PacketValue → List Verdict → List Verdict
  left_rows o subject ps founds = newest_rows (newest_made time ss o) known (print_of body) subject ps founds

  abbrev parts : ℕ → List ComponentValue → List Verdict → List ComponentValue
  parts n ds founds = newest_components time known ss body n ds founds

  abbrev parts_rows : ℕ → List ComponentValue → List Verdict → List Verdict
  parts_rows n ds founds = newest_components_rows time known ss body n ds founds

  -- where a packet's own verdicts decide what is made of it, and nothing was made of what goes
  module _ {X : Type 0} (make made : Option ℕ → SubjectValue → PacketValue → List Verdict → List X)
      (own : (o : Option ℕ) (subject : SubjectValue) (p : PacketValue) (founds more : List Verdict) → rows_of subject p ≤ length founds → make o subject p (take (rows_of subject p) founds ++ more) ≡ make o subject p founds)
      (stays : (o : Option ℕ) (subject : SubjectValue) (p : PacketValue) (founds : List Verdict) → lasts o subject p founds ≡ true → make o subject p founds ≡ made o subject p founds)
      (goes : (o : Option ℕ) (subject : SubjectValue) (p : PacketValue) (founds : List Verdict) → lasts o subject p founds ≡ false → made o subject p founds ≡ []) where
    remaining_part : (o : Option ℕ) (subject : SubjectValue) (ps : List PacketValue) (founds more : List Verdict) → rows_on subject ps ≤ length founds
        → on_part make o subject (left o subject ps founds) (left_rows o subject ps founds ++ more) ≡ on_part made o subject ps founds
    remaining_part o subject [] founds more l = refl
    remaining_part o subject (p ∷ ps) founds more l =
        step (lasts o subject p founds) refl (remaining_part o subject ps (drop (rows_of subject p) founds) more (omega (arith, length-drop (rows_of subject p) founds))) where
          step : (t : Bool) → lasts o subject p founds ≡ t
              → on_part make o subject (left o subject ps (drop (rows_of subject p) founds)) (left_rows o subject ps (drop (rows_of subject p) founds) ++ more) ≡ on_part made o subject ps (drop (rows_of subject p) founds)
              → on_part make o subject
              (map (λ (j : JudgedValue). j.packet) (cond t (judged known (print_of body) subject (first_verdict founds) p ∷ filter (newest_stays (newest_made time ss o)) (judged_hangs known (print_of body) subject ps (drop (rows_of subject p) founds)))
              (filter (newest_stays (newest_made time ss o)) (judged_hangs known (print_of body) subject ps (drop (rows_of subject p) founds)))))
              (((if t then take (rows_of subject p) founds else []) ++ left_rows o subject ps (drop (rows_of subject p) founds)) ++ more)
              ≡ made o subject p founds ++ on_part made o subject ps (drop (rows_of subject p) founds)
          step false e h = h ∙ sym (ap (λ (l : List X). l ++ on_part made o subject ps (drop (rows_of subject p) founds)) (goes o subject p founds e))
          step true e h =
              let k : ℕ = rows_of subject p in
              let rest : List PacketValue = left o subject ps (drop k founds) in
              let on : List Verdict = left_rows o subject ps (drop k founds) ++ more in
              let few : k ≤ length founds = omega arith in
              ap (λ (l : List Verdict). make o subject p l ++ on_part make o subject rest (drop k l)) (append_assoc (take k founds) (left_rows o subject ps (drop k founds)) more)
              ∙ ap (λ (x : List X). x ++ on_part make o subject rest (drop k (take k founds ++ on))) (own o subject p founds on few ∙ stays o subject p founds e)
              ∙ ap (λ (l : List Verdict). made o subject p founds ++ on_part make o subject rest l) (dropped_first k founds on few)
              ∙ ap (λ (x : List X). made o subject p founds ++ x) h

    remaining_parts : (n : ℕ) (ds : List ComponentValue) (founds more : List Verdict) → components_rows body ds ≤ length founds
        → on_parts make body n (parts n ds founds) (parts_rows n ds founds ++ more) ≡ on_parts made body n ds founds
    remaining_parts n [] founds more l = refl
    remaining_parts n (d ∷ ds) founds more l =
        let subject : SubjectValue = on_head body d.head in
        let behind : List Verdict = drop (component_rows body d) founds in
        let these : List Verdict = left_rows (Some n) subject d.hangs founds in
        let on : List Verdict = parts_rows (n + 1) ds behind ++ more in
        let stay : List PacketValue = left (Some n) subject d.hangs founds in
        let few : rows_on subject d.hangs ≤ length founds = omega arith in
        let rest : components_rows body ds ≤ length behind = omega (arith, length-drop (component_rows body d) founds) in
        ap (λ (l : List Verdict). on_part make (Some n) subject stay l ++ on_parts make body (n + 1) (parts (n + 1) ds behind) (drop (rows_on subject stay) l)) (append_assoc these (parts_rows (n + 1) ds behind) more)
        ∙ ap (λ (x : List X). x ++ on_parts make body (n + 1) (parts (n + 1) ds behind) (drop (rows_on subject stay) (these ++ on))) (remaining_part (Some n) subject d.hangs founds on few)
        ∙ ap (λ (l : List Verdict). on_part made (Some n) subject d.hangs founds ++ on_parts make body (n + 1) (parts (n + 1) ds behind) l) (rest_handed (newest_made time ss (Some n)) known (print_of body) subject d.hangs founds on few)
        ∙ ap (λ (x : List X). on_part made (Some n) subject d.hangs founds ++ x) (remaining_parts (n + 1) ds behind more rest)

    -- of the packets on the primary key, and those on the components
    pub remaining : (hangs : List PacketValue) (ds : List ComponentValue) (founds more : List Verdict) → rows_on (one body) hangs + components_rows body ds ≤ length founds
        → on_part make None (one body) (left None (one body) hangs founds) ((left_rows None (one body) hangs founds ++ parts_rows 0 ds (drop (rows_on (one body) hangs) founds)) ++ more)
        ++ on_parts make body 0 (parts 0 ds (drop (rows_on (one body) hangs) founds))
        (drop (rows_on (one body) (left None (one body) hangs founds)) ((left_rows None (one body) hangs founds ++ parts_rows 0 ds (drop (rows_on (one body) hangs) founds)) ++ more))
        ≡ on_part made None (one body) hangs founds ++ on_parts made body 0 ds (drop (rows_on (one body) hangs) founds)
    remaining hangs ds founds more l =
        let subject : SubjectValue = one body in
        let behind : List Verdict = drop (rows_on subject hangs) founds in
        let these : List Verdict = left_rows None subject hangs founds in
        let on : List Verdict = parts_rows 0 ds behind ++ more in
        let stay : List PacketValue = left None subject hangs founds in
        let few : rows_on subject hangs ≤ length founds = omega arith in
        let rest : components_rows body ds ≤ length behind = omega (arith, length-drop (rows_on subject hangs) founds) in
        ap (λ (l : List Verdict). on_part make None subject stay l ++ on_parts make body 0 (parts 0 ds behind) (drop (rows_on subject stay) l)) (append_assoc these (parts_rows 0 ds behind) more)
        ∙ ap (λ (x : List X). x ++ on_parts make body 0 (parts 0 ds behind) (drop (rows_on subject stay) (these ++ on))) (remaining_part None subject hangs founds on few)
        ∙ ap (λ (l : List Verdict). on_part made None subject hangs founds ++ on_parts make body 0 (parts 0 ds behind) l) (rest_handed (newest_made time ss None) known (print_of body) subject hangs founds on few)
        ∙ ap (λ (x : List X). on_part made None subject hangs founds ++ x) (remaining_parts 0 ds behind more rest)
