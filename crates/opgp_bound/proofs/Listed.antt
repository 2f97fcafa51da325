-- What the signatures of a certificate say by a list of verdicts, packet by packet, apart from where each hangs.
use Rattle.std.proofs.Common.{◌≡◌, ◌∙◌, ◌+◌, ◌≤◌, ℕ, suc, Bool, true, false, List, [], ◌∷◌, ◌++◌, map, length, take, drop, Option, Some, None, Result, Ok, Err, refl, sym, ap, subst, if◌then◌else◌, inr, arith, append_assoc, append-nil, All, slice_get}
use Rattle.std.specs.List.{flat_map, fold, list_any}
use Rattle.std.proofs.Math.Seq.{drop-nil}
use Rattle.std.proofs.lemmas.Bool.{or_from}
use Rattle.std.proofs.lemmas.Grind.{flat_map-append}
use Rattle.std.proofs.lemmas.List.{map-append}
use Rattle.std.proofs.lemmas.List.Elements.{All-append, All-nil, All-tail, All-head, All-cons}
use Rattle.std.proofs.lemmas.List.Folds.{list_any-append}
use Rattle.std.proofs.lemmas.List.Sums.{fold-append}
use Rattle.opgp_octets.specs.declared.fault.BodyFault.{BodyFault}
use Rattle.opgp_frame.specs.Packet.{PacketValue}
use Rattle.opgp_packet.specs.SignatureBody.{SignatureValue, signature_at}
use Rattle.opgp_hash.specs.SubjectValue.{SubjectValue, one}
use Rattle.opgp_hash.specs.declared.fingerprints.Fingerprint.{Fingerprint}
use Rattle.opgp_hash.specs.declared.site.Site.TheVariants.{Embedded, Hung}
use Rattle.opgp_keyring.specs.Keyring.{CertificateValue, ComponentValue}
use Rattle.opgp_report.specs.Standing.{Standing, bodies_within, by_number, certificate_standing, component_standing, hang_standing, hangs_standing, hung_at, is_signature, nested_at, nested_standing, on_head, signature_standing, stands}
use Rattle.opgp_report.specs.declared.place.Place.{Place}
use Rattle.opgp_report.specs.declared.verifier.Verdict.{Verdict}
use Rattle.opgp_report.specs.declared.verifier.Verdict.TheVariants.{Undecided}
use Rattle.opgp_valid.specs.Group.{is_the}
use Rattle.opgp_valid.specs.Told.{back_in, change_last, first_verdict, holds, is_right, rest_of, revokers_at, revokers_by, second_key, stated, told, told_by, told_with, with_back, with_verdicts}
use Rattle.opgp_valid.specs.declared.known_keys.Known.{Known}
use Rattle.opgp_valid.specs.declared.policy.Policy.{Policy}
use Rattle.opgp_valid.specs.declared.statement.Life.{Life}
use Rattle.opgp_valid.specs.declared.statement.Statement.{Statement}
use Rattle.opgp_valid.proofs.Groups.{group_apart, rank}
use Rattle.opgp_bound.specs.Judged.{component_rows, rows_of, rows_on}
use Rattle.opgp_bound.proofs.Placed.{AreBefore, at, away, further, last_at, nearer, set_back, start, stated_at}
use Rattle.opgp_bound.proofs.Rows.{hang_counted, hangs_counted}

-- ---- rows with verdicts
verdicts_append : (founds : List Verdict) (xs ys : List Standing) → with_verdicts founds (xs ++ ys) ≡ with_verdicts founds xs ++ with_verdicts (drop (length xs) founds) ys
verdicts_append founds [] ys = refl
verdicts_append [] (s ∷ xs) ys =
    ap (λ (l : List (Standing × Verdict)). (s, Undecided) ∷ l) (verdicts_append [] xs ys ∙ ap (λ (l : List Verdict). with_verdicts [] xs ++ with_verdicts l ys) (drop-nil (length xs)))
verdicts_append (f ∷ founds) (s ∷ xs) ys = ap (λ (l : List (Standing × Verdict)). (s, f) ∷ l) (verdicts_append founds xs ys)

enough : (founds more : List Verdict) (xs : List Standing) → length xs ≤ length founds → with_verdicts (take (length xs) founds ++ more) xs ≡ with_verdicts founds xs
enough founds more [] l = refl
enough [] more (s ∷ xs) l = absurd (omega arith)
enough (f ∷ founds) more (s ∷ xs) l = ap (λ (rows : List (Standing × Verdict)). (s, f) ∷ rows) (enough founds more xs (omega arith))

-- the rows of a packet take the verdicts that are theirs
pub enough_on : (o : Option ℕ) (n : ℕ) (subject : SubjectValue) (p : PacketValue) (founds more : List Verdict) → rows_of subject p ≤ length founds
    → with_verdicts (take (rows_of subject p) founds ++ more) (hang_standing 0 o subject n p) ≡ with_verdicts founds (hang_standing 0 o subject n p)
enough_on o n subject p founds more l =
    let counted : length (hang_standing 0 o subject n p) ≡ rows_of subject p = hang_counted 0 o subject n p in
    ap (λ (k : ℕ). with_verdicts (take k founds ++ more) (hang_standing 0 o subject n p)) (sym counted)
    ∙ enough founds more (hang_standing 0 o subject n p) (subst (λ (k : ℕ). k ≤ length founds) (sym counted) l)

-- ---- part by part
-- what is made of each packet and the verdicts from its first row on, on the primary key and on the components
abbrev pub on_part : {X : Type 0} → (Option ℕ → SubjectValue → PacketValue → List Verdict → List X) → Option ℕ → SubjectValue → List PacketValue → List Verdict → List X
on_part make o subject [] founds = []
on_part make o subject (p ∷ ps) founds = make o subject p founds ++ on_part make o subject ps (drop (rows_of subject p) founds)

abbrev pub on_parts : {X : Type 0} → (Option ℕ → SubjectValue → PacketValue → List Verdict → List X) → List ℕ → ℕ → List ComponentValue → List Verdict → List X
on_parts make body n [] founds = []
on_parts make body n (d ∷ ds) founds = on_part make (Some n) (on_head body d.head) d.hangs founds ++ on_parts make body (n + 1) ds (drop (component_rows body d) founds)

abbrev pub on_all : {X : Type 0} → (Option ℕ → SubjectValue → PacketValue → List Verdict → List X) → CertificateValue → List Verdict → List X
on_all make c founds = on_part make None (one c.primary.body) c.hangs founds ++ on_parts make c.primary.body 0 c.components (drop (rows_on (one c.primary.body) c.hangs) founds)

-- a change of lists that goes through each part of them
module _ {X Y : Type 0} (h : List X → List Y) (none : h [] ≡ []) (both : (a b : List X) → h (a ++ b) ≡ h a ++ h b)
    (make : Option ℕ → SubjectValue → PacketValue → List Verdict → List X) (made : Option ℕ → SubjectValue → PacketValue → List Verdict → List Y)
    (each : (o : Option ℕ) (subject : SubjectValue) (p : PacketValue) (founds : List Verdict) → h (make o subject p founds) ≡ made o subject p founds) where
  through_part : (o : Option ℕ) (subject : SubjectValue) (ps : List PacketValue) (founds : List Verdict) → h (on_part make o subject ps founds) ≡ on_part made o subject ps founds
  through_part o subject [] founds = none
  through_part o subject (p ∷ ps) founds =
      let rest : List Verdict = drop (rows_of subject p) founds in
      both (make o subject p founds) (on_part make o subject ps rest)
      ∙ ap (λ (l : List Y). l ++ h (on_part make o subject ps rest)) (each o subject p founds)
      ∙ ap (λ (l : List Y). made o subject p founds ++ l) (through_part o subject ps rest)

  through_parts : (body : List ℕ) (n : ℕ) (ds : List ComponentValue) (founds : List Verdict) → h (on_parts make body n ds founds) ≡ on_parts made body n ds founds
  through_parts body n [] founds = none
  through_parts body n (d ∷ ds) founds =
      let rest : List Verdict = drop (component_rows body d) founds in
      both (on_part make (Some n) (on_head body d.head) d.hangs founds) (on_parts make body (n + 1) ds rest)
      ∙ ap (λ (l : List Y). l ++ h (on_parts make body (n + 1) ds rest)) (through_part (Some n) (on_head body d.head) d.hangs founds)
      ∙ ap (λ (l : List Y). on_part made (Some n) (on_head body d.head) d.hangs founds ++ l) (through_parts body (n + 1) ds rest)

  pub through_all : (c : CertificateValue) (founds : List Verdict) → h (on_all make c founds) ≡ on_all made c founds
  through_all c founds =
      let rest : List Verdict = drop (rows_on (one c.primary.body) c.hangs) founds in
      both (on_part make None (one c.primary.body) c.hangs founds) (on_parts make c.primary.body 0 c.components rest)
      ∙ ap (λ (l : List Y). l ++ h (on_parts make c.primary.body 0 c.components rest)) (through_part None (one c.primary.body) c.hangs founds)
      ∙ ap (λ (l : List Y). on_part made None (one c.primary.body) c.hangs founds ++ l) (through_parts c.primary.body 0 c.components rest)

-- the subject of what hangs on a component; the primary key where there is none
abbrev by_component : List ℕ → Option ComponentValue → SubjectValue
by_component body None = one body
by_component body (Some d) = on_head body d.head

abbrev pub subject_on : CertificateValue → Option ℕ → SubjectValue
subject_on c None = one c.primary.body
subject_on c (Some n) = by_component c.primary.body (slice_get c.components n)

-- what holds of all that is made of a packet on each part
module _ {X : Type 0} (P : X → Type 0) (make : Option ℕ → SubjectValue → PacketValue → List Verdict → List X) (c : CertificateValue)
    (each : (o : Option ℕ) (p : PacketValue) (founds : List Verdict) → All P (make o (subject_on c o) p founds)) where
  all_on_part : (o : Option ℕ) (ps : List PacketValue) (founds : List Verdict) → All P (on_part make o (subject_on c o) ps founds)
  all_on_part o [] founds = All-nil P
  all_on_part o (p ∷ ps) founds =
      let rest : List Verdict = drop (rows_of (subject_on c o) p) founds in
      All-append P (make o (subject_on c o) p founds) (on_part make o (subject_on c o) ps rest) (each o p founds) (all_on_part o ps rest)

  all_on_parts : (n : ℕ) (ds : List ComponentValue) (founds : List Verdict) → ((i : ℕ) → subject_on c (Some (n + i)) ≡ by_component c.primary.body (slice_get ds i)) → All P (on_parts make c.primary.body n ds founds)
  all_on_parts n [] founds same = All-nil P
  all_on_parts n (d ∷ ds) founds same =
      let body : List ℕ = c.primary.body in
      let rest : List Verdict = drop (component_rows body d) founds in
      let first : n ≡ n + 0 = omega arith in
      let here : subject_on c (Some n) ≡ on_head body d.head = ap (λ (k : ℕ). subject_on c (Some k)) first ∙ same 0 in
      All-append P (on_part make (Some n) (on_head body d.head) d.hangs founds) (on_parts make body (n + 1) ds rest)
      (subst (λ (s : SubjectValue). All P (on_part make (Some n) s d.hangs founds)) here (all_on_part (Some n) d.hangs founds))
      (all_on_parts (n + 1) ds rest (λ i. let next : n + 1 + i ≡ n + suc i = omega arith in ap (λ (k : ℕ). subject_on c (Some k)) next ∙ same (suc i)))

  pub all_on_all : (founds : List Verdict) → All P (on_all make c founds)
  all_on_all founds =
      let rest : List Verdict = drop (rows_on (one c.primary.body) c.hangs) founds in
      All-append P (on_part make None (one c.primary.body) c.hangs founds) (on_parts make c.primary.body 0 c.components rest)
      (all_on_part None c.hangs founds)
      (all_on_parts 0 c.components rest (λ i. let same : 0 + i ≡ i = omega arith in ap (λ (k : ℕ). subject_on c (Some k)) same))

-- ---- which keys a packet names that may revoke
module _ (known : List Known) (print : Fingerprint) where
  abbrev pub names_of : Option ℕ → SubjectValue → PacketValue → List Verdict → List Fingerprint
  names_of o subject p founds = flat_map (revokers_at known print) (with_verdicts founds (hang_standing 0 None subject 0 p))

  -- what is embedded names none
  none_by : (place : Place) (subject : SubjectValue) (i : ℕ) (body : List ℕ) (found : Verdict) (r : Result SignatureValue BodyFault) → revokers_by known print (stands Embedded (nested_at place i) subject body) found r ≡ []
  none_by place subject i body found (Err fault) = refl
  none_by place subject i body found (Ok v) = refl

  none_nested : (place : Place) (subject : SubjectValue) (i : ℕ) (bodies : List (List ℕ)) (founds : List Verdict) → flat_map (revokers_at known print) (with_verdicts founds (by_number (nested_standing place subject) i bodies)) ≡ []
  none_nested place subject i [] founds = refl
  none_nested place subject i (body ∷ bodies) founds =
      ap (λ (l : List Fingerprint). l ++ flat_map (revokers_at known print) (with_verdicts (rest_of founds) (by_number (nested_standing place subject) (i + 1) bodies))) (none_by place subject i body (first_verdict founds) (signature_at body))
      ∙ none_nested place subject (i + 1) bodies (rest_of founds)

  same_by : (o : Option ℕ) (n : ℕ) (subject : SubjectValue) (body : List ℕ) (found : Verdict) (r : Result SignatureValue BodyFault)
      → revokers_by known print (stands Hung (hung_at 0 o n) subject body) found r ≡ revokers_by known print (stands Hung start subject body) found r
  same_by o n subject body found (Err fault) = refl
  same_by o n subject body found (Ok v) = refl

  -- the signature itself may name some
  pub names_first : (o : Option ℕ) (n : ℕ) (subject : SubjectValue) (body : List ℕ) (founds : List Verdict)
      → flat_map (revokers_at known print) (with_verdicts founds (signature_standing (hung_at 0 o n) subject body)) ≡ revokers_by known print (stands Hung start subject body) (first_verdict founds) (signature_at body)
  names_first o n subject body founds =
      let first : List Fingerprint = revokers_by known print (stands Hung start subject body) (first_verdict founds) (signature_at body) in
      ap (λ (l : List Fingerprint). l ++ flat_map (revokers_at known print) (with_verdicts (rest_of founds) (by_number (nested_standing (hung_at 0 o n) subject) 0 (bodies_within subject (signature_at body)))))
      (same_by o n subject body (first_verdict founds) (signature_at body))
      ∙ ap (λ (l : List Fingerprint). first ++ l) (none_nested (hung_at 0 o n) subject 0 (bodies_within subject (signature_at body)) (rest_of founds))
      ∙ append-nil first

  names_alike : (o : Option ℕ) (n : ℕ) (subject : SubjectValue) (p : PacketValue) (founds : List Verdict) → flat_map (revokers_at known print) (with_verdicts founds (hang_standing 0 o subject n p)) ≡ names_of o subject p founds
  names_alike o n subject p founds = go (is_signature p) where
    go : (t : Bool) → flat_map (revokers_at known print) (with_verdicts founds (if t then signature_standing (hung_at 0 o n) subject p.body else []))
        ≡ flat_map (revokers_at known print) (with_verdicts founds (if t then signature_standing start subject p.body else []))
    go true = names_first o n subject p.body founds ∙ sym (names_first None 0 subject p.body founds)
    go false = refl

  names_split : (founds : List Verdict) (xs ys : List Standing) → flat_map (revokers_at known print) (with_verdicts founds (xs ++ ys))
      ≡ flat_map (revokers_at known print) (with_verdicts founds xs) ++ flat_map (revokers_at known print) (with_verdicts (drop (length xs) founds) ys)
  names_split founds xs ys =
      ap (flat_map (revokers_at known print)) (verdicts_append founds xs ys)
      ∙ flat_map-append (revokers_at known print) (with_verdicts founds xs) (with_verdicts (drop (length xs) founds) ys)

  names_part : (o : Option ℕ) (subject : SubjectValue) (n : ℕ) (ps : List PacketValue) (founds : List Verdict) → flat_map (revokers_at known print) (with_verdicts founds (by_number (hang_standing 0 o subject) n ps)) ≡ on_part names_of o subject ps founds
  names_part o subject n [] founds = refl
  names_part o subject n (p ∷ ps) founds =
      let more : List Standing = by_number (hang_standing 0 o subject) (n + 1) ps in
      names_split founds (hang_standing 0 o subject n p) more
      ∙ ap (λ (l : List Fingerprint). l ++ flat_map (revokers_at known print) (with_verdicts (drop (length (hang_standing 0 o subject n p)) founds) more)) (names_alike o n subject p founds)
      ∙ ap (λ (k : ℕ). names_of o subject p founds ++ flat_map (revokers_at known print) (with_verdicts (drop k founds) more)) (hang_counted 0 o subject n p)
      ∙ ap (λ (l : List Fingerprint). names_of o subject p founds ++ l) (names_part o subject (n + 1) ps (drop (rows_of subject p) founds))

  names_parts : (body : List ℕ) (n : ℕ) (ds : List ComponentValue) (founds : List Verdict) → flat_map (revokers_at known print) (with_verdicts founds (by_number (component_standing body 0) n ds)) ≡ on_parts names_of body n ds founds
  names_parts body n [] founds = refl
  names_parts body n (d ∷ ds) founds =
      let rows : List Standing = component_standing body 0 n d in
      let more : List Standing = by_number (component_standing body 0) (n + 1) ds in
      let these : List Fingerprint = on_part names_of (Some n) (on_head body d.head) d.hangs founds in
      names_split founds rows more
      ∙ ap (λ (l : List Fingerprint). l ++ flat_map (revokers_at known print) (with_verdicts (drop (length rows) founds) more)) (names_part (Some n) (on_head body d.head) 0 d.hangs founds)
      ∙ ap (λ (k : ℕ). these ++ flat_map (revokers_at known print) (with_verdicts (drop k founds) more)) (hangs_counted 0 (Some n) (on_head body d.head) 0 d.hangs)
      ∙ ap (λ (l : List Fingerprint). these ++ l) (names_parts body (n + 1) ds (drop (component_rows body d) founds))

  -- those of a certificate
  pub names_are : (c : CertificateValue) (founds : List Verdict) → flat_map (revokers_at known print) (with_verdicts founds (certificate_standing 0 c)) ≡ on_all names_of c founds
  names_are c founds =
      let subject : SubjectValue = one c.primary.body in
      let rows : List Standing = hangs_standing 0 None subject c.hangs in
      let more : List Standing = by_number (component_standing c.primary.body 0) 0 c.components in
      let these : List Fingerprint = on_part names_of None subject c.hangs founds in
      names_split founds rows more
      ∙ ap (λ (l : List Fingerprint). l ++ flat_map (revokers_at known print) (with_verdicts (drop (length rows) founds) more)) (names_part None subject 0 c.hangs founds)
      ∙ ap (λ (k : ℕ). these ++ flat_map (revokers_at known print) (with_verdicts (drop k founds) more)) (hangs_counted 0 None subject 0 c.hangs)
      ∙ ap (λ (l : List Fingerprint). these ++ l) (names_parts c.primary.body 0 c.components (drop (rows_on subject c.hangs) founds))

-- ---- what a packet says
-- a statement, wherever it hangs on its component
abbrev pub unhung : Statement → Statement
unhung s = record s { hang = 0 }

again : (o : Option ℕ) (n : ℕ) (ss : List Statement) → map (at o n) (map (at None 0) ss) ≡ map (at o n) ss
again o n [] = refl
again o n (s ∷ ss) = ap (λ (l : List Statement). at o n s ∷ l) (again o n ss)

pub unhung_at : (o : Option ℕ) (n : ℕ) (ss : List Statement) → map unhung (map (at o n) ss) ≡ map (at o 0) ss
unhung_at o n [] = refl
unhung_at o n (s ∷ ss) = ap (λ (l : List Statement). at o 0 s ∷ l) (unhung_at o n ss)

module _ (known : List Known) (policy : Policy) (print : Fingerprint) (revokers : List Fingerprint) where
  abbrev pub say : List Statement → List (Standing × Verdict) → List Statement
  say before rows = fold (told known policy print revokers) before rows

  -- at the first place
  abbrev pub said_of : SubjectValue → PacketValue → List Verdict → List Statement
  said_of subject p founds = say [] (with_verdicts founds (hang_standing 0 None subject 0 p))

  -- wherever it hangs
  abbrev pub said_on : Option ℕ → SubjectValue → PacketValue → List Verdict → List Statement
  said_on o subject p founds = map (at o 0) (said_of subject p founds)

  -- ---- the same at each place
  hung_with : (o : Option ℕ) (n : ℕ) (subject : SubjectValue) (body : List ℕ) (found : Verdict) (r : Result SignatureValue BodyFault)
      → told_with known policy print revokers [] (stands Hung (hung_at 0 o n) subject body) found r ≡ map (at o n) (told_with known policy print revokers [] (stands Hung start subject body) found r)
  hung_with o n subject body found (Err fault) = refl
  hung_with o n subject body found (Ok w) = go (is_right Hung start subject found w) where
    go : (t : Bool) → (if t then told_by known policy print revokers (stands Hung (hung_at 0 o n) subject body) w [] else []) ≡ map (at o n) (if t then told_by known policy print revokers (stands Hung start subject body) w [] else [])
    go true = stated_at known policy print revokers o n subject w
    go false = refl

  nested_with : (o : Option ℕ) (n : ℕ) (subject : SubjectValue) (i : ℕ) (body : List ℕ) (found : Verdict) (r : Result SignatureValue BodyFault) (ss : List Statement)
      → told_with known policy print revokers (map (at o n) ss) (stands Embedded (nested_at (hung_at 0 o n) i) subject body) found r
      ≡ map (at o n) (told_with known policy print revokers (map (at None 0) ss) (stands Embedded (nested_at start i) subject body) found r)
  nested_with o n subject i body found (Err fault) ss = sym (again o n ss)
  nested_with o n subject i body found (Ok w) ss = go (is_right Embedded (nested_at start i) subject found w) where
    life : Option Life
    life = back_in known policy print (second_key subject) w

    first : (t : Bool) → (if t then change_last (with_back (nested_at (hung_at 0 o n) i) life) (map (at o n) ss) else map (at o n) ss)
        ≡ map (at o n) (if t then change_last (with_back (nested_at start i) life) (map (at None 0) ss) else map (at None 0) ss)
    first true = last_at o n i life ss ∙ sym (again o n (change_last (set_back life) ss)) ∙ ap (map (at o n)) (sym (last_at None 0 i life ss))
    first false = sym (again o n ss)

    go : (t : Bool) → (if t then told_by known policy print revokers (stands Embedded (nested_at (hung_at 0 o n) i) subject body) w (map (at o n) ss) else map (at o n) ss)
        ≡ map (at o n) (if t then told_by known policy print revokers (stands Embedded (nested_at start i) subject body) w (map (at None 0) ss) else map (at None 0) ss)
    go true = first (is_the 0 (Some i))
    go false = sym (again o n ss)

  nested_alike : (o : Option ℕ) (n : ℕ) (subject : SubjectValue) (i : ℕ) (bodies : List (List ℕ)) (founds : List Verdict) (ss : List Statement)
      → say (map (at o n) ss) (with_verdicts founds (by_number (nested_standing (hung_at 0 o n) subject) i bodies))
      ≡ map (at o n) (say (map (at None 0) ss) (with_verdicts founds (by_number (nested_standing start subject) i bodies)))
  nested_alike o n subject i [] founds ss = sym (again o n ss)
  nested_alike o n subject i (body ∷ bodies) founds ss =
      let found : Verdict = first_verdict founds in
      let next : List Statement = told_with known policy print revokers (map (at None 0) ss) (stands Embedded (nested_at start i) subject body) found (signature_at body) in
      ap (λ (l : List Statement). say l (with_verdicts (rest_of founds) (by_number (nested_standing (hung_at 0 o n) subject) (i + 1) bodies))) (nested_with o n subject i body found (signature_at body) ss)
      ∙ nested_alike o n subject (i + 1) bodies (rest_of founds) next
      ∙ ap (λ (l : List Statement). map (at o n) (say l (with_verdicts (rest_of founds) (by_number (nested_standing start subject) (i + 1) bodies)))) (sym (nested_with None 0 subject i body found (signature_at body) ss))

  signature_alike : (o : Option ℕ) (n : ℕ) (subject : SubjectValue) (body : List ℕ) (founds : List Verdict)
      → say [] (with_verdicts founds (signature_standing (hung_at 0 o n) subject body)) ≡ map (at o n) (say [] (with_verdicts founds (signature_standing start subject body)))
  signature_alike o n subject body founds =
      let found : Verdict = first_verdict founds in
      let bodies : List (List ℕ) = bodies_within subject (signature_at body) in
      let first : List Statement = told_with known policy print revokers [] (stands Hung start subject body) found (signature_at body) in
      ap (λ (l : List Statement). say l (with_verdicts (rest_of founds) (by_number (nested_standing (hung_at 0 o n) subject) 0 bodies))) (hung_with o n subject body found (signature_at body))
      ∙ nested_alike o n subject 0 bodies (rest_of founds) first
      ∙ ap (λ (l : List Statement). map (at o n) (say l (with_verdicts (rest_of founds) (by_number (nested_standing start subject) 0 bodies)))) (sym (hung_with None 0 subject body found (signature_at body)))

  pub said_alike : (o : Option ℕ) (n : ℕ) (subject : SubjectValue) (p : PacketValue) (founds : List Verdict) → say [] (with_verdicts founds (hang_standing 0 o subject n p)) ≡ map (at o n) (said_of subject p founds)
  said_alike o n subject p founds = go (is_signature p) where
    go : (t : Bool) → say [] (with_verdicts founds (if t then signature_standing (hung_at 0 o n) subject p.body else [])) ≡ map (at o n) (say [] (with_verdicts founds (if t then signature_standing start subject p.body else [])))
    go true = signature_alike o n subject p.body founds
    go false = refl

  -- ---- behind what is said at other places
  said_apart : (o : Option ℕ) (n : ℕ) (subject : SubjectValue) (p : PacketValue) (founds : List Verdict) (before : List Statement) → list_any (holds (hung_at 0 o n)) before ≡ false
      → say before (with_verdicts founds (hang_standing 0 o subject n p)) ≡ before ++ map (at o n) (said_of subject p founds)
  said_apart o n subject p founds before e = go (is_signature p) where
    go : (t : Bool) → say before (with_verdicts founds (if t then signature_standing (hung_at 0 o n) subject p.body else [])) ≡ before ++ map (at o n) (say [] (with_verdicts founds (if t then signature_standing start subject p.body else [])))
    go true =
        ap (λ (l : List Statement). say l (with_verdicts founds (signature_standing (hung_at 0 o n) subject p.body))) (sym (append-nil before))
        ∙ group_apart known policy print revokers (hung_at 0 o n) subject p.body founds before [] e
        ∙ ap (λ (l : List Statement). before ++ l) (signature_alike o n subject p.body founds)
    go false = sym (append-nil before)

  abbrev SaysOn : Option ℕ → SubjectValue → ℕ → List PacketValue → List Verdict → List Statement → Type 0
  SaysOn o subject n ps founds before = (map unhung (say before (with_verdicts founds (by_number (hang_standing 0 o subject) n ps))) ≡ map unhung before ++ on_part said_on o subject ps founds)
      × AreBefore (rank o + 1) 0 (say before (with_verdicts founds (by_number (hang_standing 0 o subject) n ps)))

  says_on : (o : Option ℕ) (subject : SubjectValue) (n : ℕ) (ps : List PacketValue) (founds : List Verdict) (before : List Statement) → AreBefore (rank o) n before → SaysOn o subject n ps founds before
  says_on o subject n [] founds before h = (sym (append-nil (map unhung before)), λ q far. h q (further (rank o) n q far))
  says_on o subject n (p ∷ ps) founds before h =
      let rows : List Standing = hang_standing 0 o subject n p in
      let more : List Standing = by_number (hang_standing 0 o subject) (n + 1) ps in
      let these : List Statement = map (at o n) (said_of subject p founds) in
      let behind : List Verdict = drop (rows_of subject p) founds in
      let next : AreBefore (rank o) (n + 1) (before ++ these) = λ q far. list_any-append (holds q) before these ∙ or_from _ _ (h q (nearer (rank o) n q far)) (away o n q far (said_of subject p founds)) in
      let rest : SaysOn o subject (n + 1) ps behind (before ++ these) = says_on o subject (n + 1) ps behind (before ++ these) next in
      let split : say before (with_verdicts founds (rows ++ more)) ≡ say (before ++ these) (with_verdicts behind more) =
      ap (say before) (verdicts_append founds rows more)
      ∙ fold-append (told known policy print revokers) before (with_verdicts founds rows) (with_verdicts (drop (length rows) founds) more)
      ∙ ap (λ (l : List Statement). say l (with_verdicts (drop (length rows) founds) more)) (said_apart o n subject p founds before (h (hung_at 0 o n) (inr (refl, omega arith))))
      ∙ ap (λ (k : ℕ). say (before ++ these) (with_verdicts (drop k founds) more)) (hang_counted 0 o subject n p) in (
        ap (map unhung) split ∙ rest.0
            ∙ ap (λ (l : List Statement). l ++ on_part said_on o subject ps behind) (map-append unhung before these ∙ ap (λ (l : List Statement). map unhung before ++ l) (unhung_at o n (said_of subject p founds)))
            ∙ append_assoc (map unhung before) (said_on o subject p founds) (on_part said_on o subject ps behind),
        λ q far. ap (list_any (holds q)) split ∙ rest.1 q far,
      )

  say_on : (body : List ℕ) (n : ℕ) (ds : List ComponentValue) (founds : List Verdict) (before : List Statement) → AreBefore (n + 1) 0 before
      → map unhung (say before (with_verdicts founds (by_number (component_standing body 0) n ds))) ≡ map unhung before ++ on_parts said_on body n ds founds
  say_on body n [] founds before h = sym (append-nil (map unhung before))
  say_on body n (d ∷ ds) founds before h =
      let rows : List Standing = component_standing body 0 n d in
      let more : List Standing = by_number (component_standing body 0) (n + 1) ds in
      let these : List Statement = on_part said_on (Some n) (on_head body d.head) d.hangs founds in
      let behind : List Verdict = drop (component_rows body d) founds in
      let this : SaysOn (Some n) (on_head body d.head) 0 d.hangs founds before = says_on (Some n) (on_head body d.head) 0 d.hangs founds before h in
      let split : say before (with_verdicts founds (rows ++ more)) ≡ say (say before (with_verdicts founds rows)) (with_verdicts behind more) =
      ap (say before) (verdicts_append founds rows more)
      ∙ fold-append (told known policy print revokers) before (with_verdicts founds rows) (with_verdicts (drop (length rows) founds) more)
      ∙ ap (λ (k : ℕ). say (say before (with_verdicts founds rows)) (with_verdicts (drop k founds) more)) (hangs_counted 0 (Some n) (on_head body d.head) 0 d.hangs) in
      ap (map unhung) split
      ∙ say_on body (n + 1) ds behind (say before (with_verdicts founds rows)) this.1
      ∙ ap (λ (l : List Statement). l ++ on_parts said_on body (n + 1) ds behind) this.0
      ∙ append_assoc (map unhung before) these (on_parts said_on body (n + 1) ds behind)

  -- all that a certificate says
  pub said_is : (c : CertificateValue) (founds : List Verdict) → map unhung (say [] (with_verdicts founds (certificate_standing 0 c))) ≡ on_all said_on c founds
  said_is c founds =
      let subject : SubjectValue = one c.primary.body in
      let rows : List Standing = hangs_standing 0 None subject c.hangs in
      let more : List Standing = by_number (component_standing c.primary.body 0) 0 c.components in
      let behind : List Verdict = drop (rows_on subject c.hangs) founds in
      let this : SaysOn None subject 0 c.hangs founds [] = says_on None subject 0 c.hangs founds [] (λ q far. refl) in
      let split : say [] (with_verdicts founds (rows ++ more)) ≡ say (say [] (with_verdicts founds rows)) (with_verdicts behind more) =
      ap (say []) (verdicts_append founds rows more)
      ∙ fold-append (told known policy print revokers) [] (with_verdicts founds rows) (with_verdicts (drop (length rows) founds) more)
      ∙ ap (λ (k : ℕ). say (say [] (with_verdicts founds rows)) (with_verdicts (drop k founds) more)) (hangs_counted 0 None subject 0 c.hangs) in
      ap (map unhung) split
      ∙ say_on c.primary.body 0 c.components behind (say [] (with_verdicts founds rows)) this.1
      ∙ ap (λ (l : List Statement). l ++ on_parts said_on c.primary.body 0 c.components behind) this.0

  -- ---- what holds of what a signature says itself
  module _ (P : Statement → Type 0) (keeps : (place : Place) (life : Option Life) (s : Statement) → P s → P (with_back place life s)) where
    kept_last : (place : Place) (life : Option Life) (ss : List Statement) → All P ss → All P (change_last (with_back place life) ss)
    kept_last place life [] h = All-nil P
    kept_last place life (s ∷ []) h = All-cons P (with_back place life s) [] (keeps place life s (All-head P s [] h)) (All-nil P)
    kept_last place life (s ∷ r ∷ ss) h = All-cons P s (change_last (with_back place life) (r ∷ ss)) (All-head P s (r ∷ ss) h) (kept_last place life (r ∷ ss) (All-tail P s (r ∷ ss) h))

    kept_with : (place : Place) (subject : SubjectValue) (i : ℕ) (body : List ℕ) (found : Verdict) (r : Result SignatureValue BodyFault) (ss : List Statement) → All P ss
        → All P (told_with known policy print revokers ss (stands Embedded (nested_at place i) subject body) found r)
    kept_with place subject i body found (Err fault) ss h = h
    kept_with place subject i body found (Ok w) ss h = go (is_right Embedded (nested_at place i) subject found w) where
      life : Option Life
      life = back_in known policy print (second_key subject) w

      first : (t : Bool) → All P (if t then change_last (with_back (nested_at place i) life) ss else ss)
      first true = kept_last (nested_at place i) life ss h
      first false = h

      go : (t : Bool) → All P (if t then told_by known policy print revokers (stands Embedded (nested_at place i) subject body) w ss else ss)
      go true = first (is_the 0 (Some i))
      go false = h

    kept_nested : (place : Place) (subject : SubjectValue) (i : ℕ) (bodies : List (List ℕ)) (founds : List Verdict) (ss : List Statement) → All P ss
        → All P (say ss (with_verdicts founds (by_number (nested_standing place subject) i bodies)))
    kept_nested place subject i [] founds ss h = h
    kept_nested place subject i (body ∷ bodies) founds ss h =
        kept_nested place subject (i + 1) bodies (rest_of founds) (told_with known policy print revokers ss (stands Embedded (nested_at place i) subject body) (first_verdict founds) (signature_at body))
        (kept_with place subject i body (first_verdict founds) (signature_at body) ss h)

    -- holds of all that a packet says
    pub said_all : (o : Option ℕ) (n : ℕ) (subject : SubjectValue) (p : PacketValue) (founds : List Verdict)
        → ((w : SignatureValue) → signature_at p.body ≡ Ok w → All P (stated known policy print revokers (hung_at 0 o n) subject w)) → All P (map (at o n) (said_of subject p founds))
    said_all o n subject p founds each = subst (λ (l : List Statement). All P l) (said_alike o n subject p founds) (go (is_signature p)) where
      first : (r : Result SignatureValue BodyFault) → signature_at p.body ≡ r → All P (told_with known policy print revokers [] (stands Hung (hung_at 0 o n) subject p.body) (first_verdict founds) r)
      first (Err fault) e = All-nil P
      first (Ok w) e = chosen (is_right Hung (hung_at 0 o n) subject (first_verdict founds) w) where
        chosen : (t : Bool) → All P (if t then told_by known policy print revokers (stands Hung (hung_at 0 o n) subject p.body) w [] else [])
        chosen true = each w e
        chosen false = All-nil P

      go : (t : Bool) → All P (say [] (with_verdicts founds (if t then signature_standing (hung_at 0 o n) subject p.body else [])))
      go true =
          kept_nested (hung_at 0 o n) subject 0 (bodies_within subject (signature_at p.body)) (rest_of founds)
          (told_with known policy print revokers [] (stands Hung (hung_at 0 o n) subject p.body) (first_verdict founds) (signature_at p.body)) (first (signature_at p.body) refl)
      go false = All-nil P
