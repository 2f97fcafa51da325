-- The lines of a file of verdicts.
use Rattle.std.proofs.Common.{◌≡◌, ◌∙◌, ℕ, ◌+◌, inl, inr, ◌⊎◌, List, [], ◌∷◌, ◌++◌, refl, sym, ap, subst, codes, append_assoc, append-nil, Option, Some, None}
use Rattle.std.specs.Prelude.{IfNone, IfSome}
use Rattle.std.specs.Fmt.{decimal}
use Rattle.std.proofs.lemmas.List.Concat.{flat_map-append}
use Rattle.opgp_report.specs.RowValue.{FindingValue, RowValue, not_asked, asked_with}
use Rattle.opgp_report.specs.declared.place.Place.{Place}
use Rattle.opgp_report.specs.declared.verifier.Verdict.{Verdict}
use Rattle.opgp_report.specs.declared.verifier.Verdict.TheVariants.{Good, Bad, Undecided}
use Rattle.opgp_state.specs.Report.{fields_at, number_or_none, row_fields, verdict_name}
use Rattle.opgp_state.specs.VerdictFile.{AreVerdictLines, IsDoubtLine, IsLineOf, MayFollow, Says, SaysOf, Tells, finding_with, front_words, row_front}
use Rattle.opgp_state.specs.declared.verdict_lines.ReadVerdict.{ReadVerdict}
use Rattle.opgp_state.proofs.Verdicts.{same_behind, says_once}

-- ---- a verdict, and what may follow it
-- what is said, word by word
abbrev Spells : List ℕ → Verdict → List ℕ → Type 0
Spells octets v rest = (behind : List ℕ) × MayFollow v behind × (octets ≡ (codes " verdict " ++ verdict_name v) ++ (behind ++ (codes "\n" ++ rest)))

tells_doubt : (octets more rest : List ℕ) → octets ≡ codes " verdict undecided" ++ more → IsDoubtLine more rest → Spells octets Undecided rest
tells_doubt octets more rest e (inl h) = ([], inl refl, e ∙ ap (λ l. codes " verdict undecided" ++ l) h)
tells_doubt octets more rest e (inr (word_line, f, (word, some, letters, g))) =
    (codes " " ++ word, inr (word, refl, some, letters), e ∙ ap (λ l. codes " verdict undecided" ++ l) (f ∙ ap (λ l. codes " " ++ l) g))

tells_of : (octets : List ℕ) (v : Verdict) (rest : List ℕ) → Says octets v rest → Spells octets v rest
tells_of octets Good rest h = ([], refl, h)
tells_of octets Bad rest h = ([], refl, h)
tells_of octets Undecided rest (more, e, h) = tells_doubt octets more rest e h

doubt_of : (octets behind rest : List ℕ) → MayFollow Undecided behind → octets ≡ codes " verdict undecided" ++ (behind ++ (codes "\n" ++ rest)) → Says octets Undecided rest
doubt_of octets behind rest (inl f) e = (behind ++ (codes "\n" ++ rest), e, inl (ap (λ l. l ++ (codes "\n" ++ rest)) f))
doubt_of octets behind rest (inr (word, f, some, letters)) e =
    (behind ++ (codes "\n" ++ rest), e, inr (word ++ (codes "\n" ++ rest), ap (λ l. l ++ (codes "\n" ++ rest)) f, (word, some, letters, refl)))

says_of : (octets : List ℕ) (v : Verdict) (behind rest : List ℕ) → MayFollow v behind → octets ≡ (codes " verdict " ++ verdict_name v) ++ (behind ++ (codes "\n" ++ rest)) → Says octets v rest
says_of octets Good behind rest f e = e ∙ ap (λ l. codes " verdict good" ++ (l ++ (codes "\n" ++ rest))) f
says_of octets Bad behind rest f e = e ∙ ap (λ l. codes " verdict bad" ++ (l ++ (codes "\n" ++ rest))) f
says_of octets Undecided behind rest f e = doubt_of octets behind rest f e

-- what may stand behind the line of a row that isn't hashed
abbrev TellsIf : Verdict → List ℕ → Type 0
TellsIf v behind = ((v ≡ Undecided) × (behind ≡ [])) ⊎ Tells v behind

told_behind : (v : Verdict) (behind rest : List ℕ) → TellsIf v behind → ((v ≡ Undecided) × (behind ++ (codes "\n" ++ rest) ≡ codes "\n" ++ rest)) ⊎ Says (behind ++ (codes "\n" ++ rest)) v rest
told_behind v behind rest (inl (undecided, none)) = inl (undecided, ap (λ l. l ++ (codes "\n" ++ rest)) none)
told_behind v behind rest (inr (more, follows, is)) =
    inr (says_of (behind ++ (codes "\n" ++ rest)) v more rest follows (ap (λ l. l ++ (codes "\n" ++ rest)) is ∙ append_assoc (codes " verdict " ++ verdict_name v) more (codes "\n" ++ rest)))

behind_told : (v : Verdict) (octets rest : List ℕ) → ((v ≡ Undecided) × (octets ≡ codes "\n" ++ rest)) ⊎ Says octets v rest → (behind : List ℕ) × TellsIf v behind × (octets ≡ behind ++ (codes "\n" ++ rest))
behind_told v octets rest (inl (undecided, is)) = ([], inl (undecided, refl), is)
behind_told v octets rest (inr s) =
    let (more, follows, g) = tells_of octets v rest s in
    let said = codes " verdict " ++ verdict_name v in
    (said ++ more, inr (more, follows, refl), g ∙ sym (append_assoc said more (codes "\n" ++ rest)))

-- a line's end is no verdict
end_said : (rest rest' : List ℕ) (v : Verdict) → Says (codes "\n" ++ rest) v rest' → ⊥
end_said rest rest' Good h = cc h
end_said rest rest' Bad h = cc h
end_said rest rest' Undecided h = let f = h.1 in cc f

no_end : (octets : List ℕ) (v : Verdict) (rest rest' : List ℕ) → octets ≡ codes "\n" ++ rest → Says octets v rest' → ⊥
no_end octets v rest rest' e h = end_said rest rest' v (subst (λ l. Says l v rest') e h)

-- ---- the line of a row
-- the fields of a row with a verdict are its front and the verdict
fields_split : (n : ℕ) (place : Place) (words : List (List ℕ)) (word : List ℕ) → fields_at n place (words ++ word ∷ []) ≡ fields_at n place words ++ word
fields_split n place words word =
    let heads : List (List ℕ) = codes "row " ∷ decimal n ∷ codes " cert " ∷ decimal place.certificate ∷ codes " part " ∷ number_or_none place.component ∷ codes " hang " ∷ decimal place.hang ∷ codes " nested " ∷ number_or_none place.nested ∷ [] in
    flat_map-append (λ (w : List ℕ). w) (heads ++ words) (word ∷ []) ∙ ap (λ l. fields_at n place words ++ l) (append-nil word)

join_three : (front v behind rest : List ℕ) → ((front ++ v) ++ behind) ++ rest ≡ front ++ (v ++ (behind ++ rest))
join_three front v behind rest = append_assoc (front ++ v) behind rest ∙ append_assoc front v (behind ++ rest)

module _ (n : ℕ) (place : Place) where
  row_of : FindingValue → RowValue
  row_of f = record { place = place; finding = f }

  -- what is behind the front of a row's line
  abbrev Behind : FindingValue → Verdict → List ℕ → List ℕ → Type 0
  Behind f v file rest = (octets : List ℕ) × (file ≡ fields_at n place (front_words f) ++ octets) × SaysOf f octets v rest

  pub from_line : (f : FindingValue) (v : Verdict) (file rest : List ℕ) → IsLineOf n (record { place = place; finding = f }) v file rest → Behind f v file rest
  from_line (not_asked why) v file rest (text, line, e) = (
    line.behind ++ (codes "\n" ++ rest),
    e ∙ ap (λ l. l ++ (codes "\n" ++ rest)) line.is ∙ append_assoc (fields_at n place (front_words (not_asked why))) line.behind (codes "\n" ++ rest),
    told_behind v line.behind rest line.follows,
  )
  from_line (asked_with kind hash signer digest own) v file rest (text, line, e) =
      let f = asked_with kind hash signer digest own in
      let front = fields_at n place (front_words f) in
      let said = codes " verdict " ++ verdict_name v in
      let whole : file ≡ front ++ (said ++ (line.behind ++ (codes "\n" ++ rest))) =
      e ∙ ap (λ l. l ++ (codes "\n" ++ rest)) (line.is ∙ ap (λ l. l ++ line.behind) (fields_split n place (front_words f) said)) ∙ join_three front said line.behind (codes "\n" ++ rest) in
      (said ++ (line.behind ++ (codes "\n" ++ rest)), whole, (line.admits, says_of (said ++ (line.behind ++ (codes "\n" ++ rest))) v line.behind rest line.follows refl))

  pub to_line : (f : FindingValue) (v : Verdict) (file octets rest : List ℕ) → file ≡ fields_at n place (front_words f) ++ octets → SaysOf f octets v rest → IsLineOf n (record { place = place; finding = f }) v file rest
  to_line (not_asked why) v file octets rest e s =
      let front = fields_at n place (front_words (not_asked why)) in
      let (behind, follows, g) = behind_told v octets rest s in (
        front ++ behind,
        record { admits = tt; behind = behind; follows = follows; is = refl },
        e ∙ ap (λ l. front ++ l) g ∙ sym (append_assoc front behind (codes "\n" ++ rest)),
      )
  to_line (asked_with kind hash signer digest own) v file octets rest e (admits, s) =
      let f = asked_with kind hash signer digest own in
      let front = fields_at n place (front_words f) in
      let said = codes " verdict " ++ verdict_name v in
      let (behind, follows, g) = tells_of octets v rest s in (
        row_fields n (record { place = place; finding = finding_with v f }) ++ behind,
        record { admits = admits; behind = behind; follows = follows; is = refl },
        e ∙ ap (λ l. front ++ l) g ∙ sym (join_three front said behind (codes "\n" ++ rest)) ∙ ap (λ l. (l ++ behind) ++ (codes "\n" ++ rest)) (sym (fields_split n place (front_words f) said)),
      )

  said_once : (f : FindingValue) (octets : List ℕ) (v v' : Verdict) (rest rest' : List ℕ) → SaysOf f octets v rest → SaysOf f octets v' rest' → (v ≡ v') × (rest ≡ rest')
  said_once (not_asked why) octets v v' rest rest' (inl h) (inl k) = (h.0 ∙ sym k.0, same_behind (codes "\n") rest rest' octets h.1 k.1)
  said_once (not_asked why) octets v v' rest rest' (inl h) (inr k) = absurd (no_end octets v' rest rest' h.1 k)
  said_once (not_asked why) octets v v' rest rest' (inr h) (inl k) = absurd (no_end octets v rest' rest k.1 h)
  said_once (not_asked why) octets v v' rest rest' (inr h) (inr k) = says_once octets v v' rest rest' h k
  said_once (asked_with kind hash signer digest own) octets v v' rest rest' h k = says_once octets v v' rest rest' h.1 k.1

  pub line_once : (f : FindingValue) (v v' : Verdict) (file rest rest' : List ℕ) → IsLineOf n (record { place = place; finding = f }) v file rest → IsLineOf n (record { place = place; finding = f }) v' file rest' → (v ≡ v') × (rest ≡ rest')
  line_once f v v' file rest rest' h k =
      let (octets, e, s) = from_line f v file rest h in
      let (octets', e', s') = from_line f v' file rest' k in
      said_once f octets v v' rest rest' s (subst (λ l. SaysOf f l v' rest') (same_behind (fields_at n place (front_words f)) octets' octets file e' e) s')

-- ---- the line that is read
pub line_found : (n : ℕ) (row : RowValue) (file octets : List ℕ) (r : Option ReadVerdict) → file ≡ row_front n row ++ octets → IfSome r (λ s. SaysOf row.finding octets s.verdict s.rest.now) → IfSome r (λ s. IsLineOf n row s.verdict file s.rest.now)
line_found n row file octets None e h = tt
line_found n row file octets (Some s) e h = to_line n row.place row.finding s.verdict file octets s.rest.now e h

line_gone : (n : ℕ) (row : RowValue) (file octets : List ℕ) → file ≡ row_front n row ++ octets → ((verdict : Verdict) (rest : List ℕ) → SaysOf row.finding octets verdict rest → ⊥) → (verdict : Verdict) (rest : List ℕ) → IsLineOf n row verdict file rest → ⊥
line_gone n row file octets e h v rest k =
    let (octets', e', s) = from_line n row.place row.finding v file rest k in
    h v rest (subst (λ l. SaysOf row.finding l v rest) (same_behind (row_front n row) octets' octets file e' e) s)

pub line_missed : (n : ℕ) (row : RowValue) (file octets : List ℕ) (r : Option ReadVerdict) → file ≡ row_front n row ++ octets → IfNone r ((verdict : Verdict) (rest : List ℕ) → SaysOf row.finding octets verdict rest → ⊥) → IfNone r ((verdict : Verdict) (rest : List ℕ) → IsLineOf n row verdict file rest → ⊥)
line_missed n row file octets None e h = line_gone n row file octets e h
line_missed n row file octets (Some s) e h = tt

pub line_unfit : (n : ℕ) (row : RowValue) (file : List ℕ) → ((rest : List ℕ) → file ≡ row_front n row ++ rest → ⊥) → (verdict : Verdict) (rest : List ℕ) → IsLineOf n row verdict file rest → ⊥
line_unfit n row file h v rest k = let (octets, e, s) = from_line n row.place row.finding v file rest k in h octets e

-- the rows of a keyring have one list of verdicts in a file
pub lines_once : (rows : List RowValue) (n : ℕ) (vs ws : List Verdict) (file : List ℕ) → AreVerdictLines n rows vs file → AreVerdictLines n rows ws file → vs ≡ ws
lines_once [] n [] [] file h k = refl
lines_once [] n [] (w ∷ ws) file h k = absurd k
lines_once [] n (v ∷ vs) ws file h k = absurd h
lines_once (row ∷ rows) n [] ws file h k = absurd h
lines_once (row ∷ rows) n (v ∷ vs) [] file h k = absurd k
lines_once (row ∷ rows) n (v ∷ vs) (w ∷ ws) file (text, rest, is, e, h) (text', rest', is', e', k) =
    let (same, next) = line_once n row.place row.finding v w file rest rest' (text, is, e) (text', is', e') in
    let others : vs ≡ ws = lines_once rows (n + 1) vs ws rest' (subst (λ l. AreVerdictLines (n + 1) rows vs l) next h) k in
    ap (λ (x : Verdict). x ∷ vs) same ∙ ap (λ (l : List Verdict). w ∷ l) others

-- ---- line after line
-- what is read so far, and what is left to be read
pub record ReadSoFar (rows : List RowValue) (file : List ℕ) (found : List Verdict) (n : ℕ) (to_come : List RowValue) (left : List ℕ) : Type 0 where
  pub sound : (vs : List Verdict) → AreVerdictLines n to_come vs left → AreVerdictLines 0 rows (found ++ vs) file
  pub whole : (ws : List Verdict) → AreVerdictLines 0 rows ws file → (vs : List Verdict) × (ws ≡ found ++ vs) × AreVerdictLines n to_come vs left

pub read_nothing : (rows : List RowValue) (file : List ℕ) → ReadSoFar rows file [] 0 rows file
read_nothing rows file = record { sound = λ vs h. h; whole = λ ws h. (ws, refl, h) }

module _ (rows : List RowValue) (file : List ℕ) (found : List Verdict) (n : ℕ) (row : RowValue) (to_come : List RowValue) (left : List ℕ) where
  line_more : (v : Verdict) (rest : List ℕ) → IsLineOf n row v left rest → (ws vs : List Verdict) → ws ≡ found ++ vs → AreVerdictLines n (row ∷ to_come) vs left → (vs' : List Verdict) × (ws ≡ (found ++ v ∷ []) ++ vs') × AreVerdictLines (n + 1) to_come vs' rest
  line_more v rest line ws [] e h = absurd h
  line_more v rest line ws (v' ∷ vs) e (text, rest', is, f, h) =
      let (same, next) = line_once n row.place row.finding v' v left rest' rest (text, is, f) line in (
        vs,
        e ∙ ap (λ (x : Verdict). found ++ (x ∷ vs)) same ∙ sym (append_assoc found (v ∷ []) vs),
        subst (λ l. AreVerdictLines (n + 1) to_come vs l) next h,
      )

  pub read_more : (v : Verdict) (rest : List ℕ) (all : List RowValue) → all ≡ row ∷ to_come → ReadSoFar rows file found n all left → IsLineOf n row v left rest → ReadSoFar rows file (found ++ v ∷ []) (n + 1) to_come rest
  read_more v rest all e so line = let so : ReadSoFar rows file found n (row ∷ to_come) left = subst (λ l. ReadSoFar rows file found n l left) e so in record {
    sound = λ vs h. subst (λ l. AreVerdictLines 0 rows l file) (sym (append_assoc found (v ∷ []) vs)) (so.sound (v ∷ vs) (line.0, rest, line.1, line.2, h));
    whole = λ ws h. let k = so.whole ws h in line_more v rest line ws k.0 k.1 k.2;
  }

  no_line : ((verdict : Verdict) (rest : List ℕ) → IsLineOf n row verdict left rest → ⊥) → (vs : List Verdict) → AreVerdictLines n (row ∷ to_come) vs left → ⊥
  no_line none [] h = h
  no_line none (v ∷ vs) (text, rest, is, f, h) = none v rest (text, is, f)

  pub read_stopped : (all : List RowValue) → all ≡ row ∷ to_come → ReadSoFar rows file found n all left → ((verdict : Verdict) (rest : List ℕ) → IsLineOf n row verdict left rest → ⊥) → (ws : List Verdict) → AreVerdictLines 0 rows ws file → ⊥
  read_stopped all e so none ws h = let so : ReadSoFar rows file found n (row ∷ to_come) left = subst (λ l. ReadSoFar rows file found n l left) e so in
      let k = so.whole ws h in no_line none k.0 k.2

at_end : (n : ℕ) (vs : List Verdict) (left : List ℕ) → AreVerdictLines n [] vs left → left ≡ []
at_end n [] left h = h
at_end n (v ∷ vs) left h = absurd h

module _ (rows : List RowValue) (file : List ℕ) (found : List Verdict) (n : ℕ) (to_come : List RowValue) (left : List ℕ) where
  pub read_all : to_come ≡ [] → left ≡ [] → ReadSoFar rows file found n to_come left → AreVerdictLines 0 rows found file
  read_all e f so = let so : ReadSoFar rows file found n [] left = subst (λ l. ReadSoFar rows file found n l left) e so in
      subst (λ l. AreVerdictLines 0 rows l file) (append-nil found) (so.sound [] f)

  pub read_too_few : to_come ≡ [] → (left ≡ [] → ⊥) → ReadSoFar rows file found n to_come left → (ws : List Verdict) → AreVerdictLines 0 rows ws file → ⊥
  read_too_few e some so ws h = let so : ReadSoFar rows file found n [] left = subst (λ l. ReadSoFar rows file found n l left) e so in
      let k = so.whole ws h in some (at_end n k.0 left k.2)
