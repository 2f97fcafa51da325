-- What is read of octets is a question whose hashed octets they are: the front, the trailer, the whole.
use Rattle.std.proofs.Common.{◌≡◌, ℕ, ◌+◌, ◌^◌, ◌<◌, ◌≤◌, true, List, [], ◌∷◌, ◌++◌, length, Option, Some, None, refl, sym, ap, subst, ◌∙◌, arith, ◌&&◌, ◌==◌, inl, inr}
use Rattle.std.specs.Int.{Width, w16, w32, to_be_bytes, from_be_bytes}
use Rattle.std.proofs.lemmas.Bool.{eqb-true, and_parts}
use Rattle.std.proofs.lemmas.List.{length-append}
use Rattle.opgp_octets.specs.Octets.{IsOctets}
use Rattle.opgp_octets.specs.Reading.{number_at}
use Rattle.opgp_octets.proofs.Bytes.{IsOctets-drop, chosen, IsWide, wide16, wide32, number_takes}
use Rattle.opgp_hash.specs.QuestionValue.{QuestionValue}
use Rattle.opgp_hash.specs.Hashed.{subject_hashed, area_hashed, front_hashed, trailer_hashed, hashed}
use Rattle.opgp_hash.specs.QuestionValue.{is_version, is_hash, salt_amount, area_most, IsQuestion}
use Rattle.opgp_hash.specs.Reading.{◌>>=◌, front_at, end_at}
use Rattle.opgp_hash.specs.Reopening.{checked, subject_at, Front, area_at, fields_at, Trailer, trailer_at, opened, question_at}
use Rattle.opgp_hash.specs.SubjectValue.{SubjectValue}
use Rattle.opgp_hash.proofs.Steps.{bind_some, checked_some, same_some, by_version, front_takes, end_takes}
use Rattle.opgp_hash.proofs.Fields.{FieldsLaw}
use Rattle.opgp_hash.proofs.Takes.{subject_takes}

module _ (law : FieldsLaw) where
  -- ---- the front

  -- an area behind its length
  record Measured (w : Width) (limit : ℕ) (o area : List ℕ) : Type 0 where
    pub parts : o ≡ to_be_bytes w (length area) ++ area
    pub less : length area < limit
    pub fits : IsOctets area

  measured : (w : Width) (limit : ℕ) (laws : IsWide w limit) (o area : List ℕ) → IsOctets o → (number_at w o >>= λ x. checked (x.0 == length x.1) x.1) ≡ Some area → Measured w limit o area
  measured w limit laws o area fits e =
      let a = bind_some (number_at w o) (λ x. checked (x.0 == length x.1) x.1) area e in
      let b = checked_some (a.0.0 == length a.0.1) a.0.1 area a.2 in
      let t = number_takes w limit laws o a.0.0 a.0.1 fits a.1 in
      let n-is : a.0.0 ≡ length a.0.1 = eqb-true a.0.0 (length a.0.1) b.0 in
      subst (λ (l : List ℕ). Measured w limit o l) b.1 (record { parts = t.0.parts ∙ ap (λ (m : ℕ). to_be_bytes w m ++ a.0.1) n-is; less = rw (← n-is) t.1; fits = t.0.rest_fits })

  record AreaTaken (version : ℕ) (o area : List ℕ) : Type 0 where
    pub parts : o ≡ area_hashed version area
    pub most : length area ≤ area_most version
    pub fits : IsOctets area

  area_takes : (version : ℕ) (o area : List ℕ) → is_version version ≡ true → length o + 4 ≤ 4294967295 → IsOctets o → area_at version o ≡ Some area → AreaTaken version o area
  area_takes version o area known room fits =
      by_version (λ v. area_at v o ≡ Some area → AreaTaken v o area) version known
      (λ e.
      let m = measured w16 (2 ^ 16) wide16 o area fits e in
      let less = m.less in
      record { parts = m.parts; most = omega arith; fits = m.fits })
      (λ e.
      let m = measured w32 (2 ^ 32) wide32 o area fits e in
      record { parts = m.parts; most = omega (arith, ap length m.parts, length-append (to_be_bytes w32 (length area)) area); fits = m.fits })

  record FrontTaken (version : ℕ) (o : List ℕ) (f : Front) : Type 0 where
    pub parts : o ≡ version ∷ f.kind ∷ f.algorithm ∷ f.hash ∷ area_hashed version f.area
    pub algorithm : f.algorithm < 2 ^ 8
    pub hash : is_hash version f.hash ≡ true
    pub most : length f.area ≤ area_most version
    pub area_fits : IsOctets f.area

  fields_takes : (version : ℕ) (o : List ℕ) (f : Front) → is_version version ≡ true → length o ≤ 4294967295 → IsOctets o → fields_at version o ≡ Some f → FrontTaken version o f
  unfolding fields_at
  fields_takes version [] f known room fits e = absurd cc
  fields_takes version (v ∷ []) f known room fits e = absurd cc
  fields_takes version (v ∷ kind ∷ []) f known room fits e = absurd cc
  fields_takes version (v ∷ kind ∷ algorithm ∷ []) f known room fits e = absurd cc
  fields_takes version (v ∷ kind ∷ algorithm ∷ hash ∷ o) f known room fits e =
      let front : List ℕ → Front = λ area. record { kind = kind; algorithm = algorithm; hash = hash; area = area } in
      let some : List ℕ → Option Front = λ area. Some (front area) in
      elim (chosen ((v == version) && is_hash version hash) (area_at version o >>= some) None (Some f) e) [
        | inl p ↦
            let both = and_parts (v == version) (is_hash version hash) p.0 in
            let a = bind_some (area_at version o) some f p.1 in
            let t = area_takes version o a.0 known (omega arith) (IsOctets-drop 4 (v ∷ kind ∷ algorithm ∷ hash ∷ o) fits) a.1 in
            let v-is : v ≡ version = eqb-true v version both.0 in
            subst (λ (g : Front). FrontTaken version (v ∷ kind ∷ algorithm ∷ hash ∷ o) g) (same_some (front a.0) f a.2)
            (record {
              parts = ap (λ (n : ℕ). n ∷ kind ∷ algorithm ∷ hash ∷ o) v-is ∙ ap (λ (l : List ℕ). version ∷ kind ∷ algorithm ∷ hash ∷ l) t.parts;
              algorithm = fits 2;
              hash = both.1;
              most = t.most;
              area_fits = t.fits;
            })
        | inr p ↦ absurd (let q = p.1 in cc)
      ]

  -- ---- the trailer

  record TrailerTaken (o : List ℕ) (t : Trailer) : Type 0 where
    pub parts : o ≡ trailer_hashed t.version t.count
    pub known : is_version t.version ≡ true
    pub less : t.count < 2 ^ 32

  trailer_takes : (o : List ℕ) (t : Trailer) → length o ≡ 6 → IsOctets o → trailer_at o ≡ Some t → TrailerTaken o t
  unfolding trailer_at
  trailer_takes [] t six fits e = absurd cc
  trailer_takes (v ∷ []) t six fits e = absurd cc
  trailer_takes (v ∷ x ∷ o) t six fits e =
      let found : Trailer = record { version = v; count = from_be_bytes w32 o } in
      elim (chosen (is_version v && (x == 0xFF)) (Some found) None (Some t) e) [
        | inl p ↦
            let both = and_parts (is_version v) (x == 0xFF) p.0 in
            let rest_fits = IsOctets-drop 2 (v ∷ x ∷ o) fits in
            let x-is : x ≡ 0xFF = eqb-true x 0xFF both.1 in
            let back : to_be_bytes w32 (from_be_bytes w32 o) ≡ o = wide32.back o (omega arith) rest_fits in
            subst (λ (u : Trailer). TrailerTaken (v ∷ x ∷ o) u) (same_some found t p.1)
            (record {
              parts = ap (λ (n : ℕ). v ∷ n ∷ o) x-is ∙ ap (λ (l : List ℕ). v ∷ 0xFF ∷ l) (sym back);
              known = both.0;
              less = wide32.below o rest_fits;
            })
        | inr p ↦ absurd (let q = p.1 in cc)
      ]

  -- ---- the question

  abbrev made : ℕ → Front → List ℕ → SubjectValue → QuestionValue
  made version f salt s = record {
    version = version;
    salt = salt;
    subject = s;
    kind = f.kind;
    algorithm = f.algorithm;
    hash = f.hash;
    area = f.area;
  }

  -- two halves, each known
  halves : (o a b c d : List ℕ) → o ≡ a ++ b → a ≡ c → b ≡ d → o ≡ c ++ d
  halves o a b c d e f g = cc

  sames : (a b c : List ℕ) → a ≡ b → b ≡ c → a ≡ c
  sames a b c e f = e ∙ f

  trailers : (v w m n : ℕ) → v ≡ w → m ≡ n → trailer_hashed v m ≡ trailer_hashed w n
  trailers v w m n e f = ap (λ (x : ℕ). trailer_hashed x m) e ∙ ap (λ (x : ℕ). trailer_hashed w x) f

  -- behind the front: what is before it, and the front itself, are those of the question
  record Opened (version : ℕ) (before front : List ℕ) (q : QuestionValue) : Type 0 where
    pub version_is : version ≡ q.version
    pub before_is : before ≡ q.salt ++ subject_hashed q.version q.subject
    pub front_is : front ≡ front_hashed q
    pub question : IsQuestion q

  opened_takes : (version : ℕ) (f : Front) (salt rest front : List ℕ) (q : QuestionValue) → is_version version ≡ true → IsOctets salt → IsOctets rest → length salt ≡ salt_amount version f.hash
      → FrontTaken version front f → opened version f (salt, rest) ≡ Some q → Opened version (salt ++ rest) front q
  opened_takes version f salt rest front q known salt_fits fits size taken e =
      let a = bind_some (subject_at version f.kind rest) (λ s. Some (made version f salt s)) q e in
      let s = subject_takes law version f.kind rest a.0 known fits a.1 in
      subst (λ (v : QuestionValue). Opened version (salt ++ rest) front v) (same_some (made version f salt a.0) q a.2)
      (record {
        version_is = refl;
        before_is = ap (λ (l : List ℕ). salt ++ l) s.parts;
        front_is = taken.parts;
        question = record { version = known; hash = taken.hash; salt = size; salt_octets = salt_fits; subject = s.fits; kind = s.about; algorithm = taken.algorithm; area = taken.most; area_octets = taken.area_fits };
      })

  salted_takes : (version : ℕ) (f : Front) (before front : List ℕ) (q : QuestionValue) → is_version version ≡ true → IsOctets before
      → FrontTaken version front f → (front_at (salt_amount version f.hash) before >>= λ z. opened version f z) ≡ Some q → Opened version before front q
  salted_takes version f before front q known fits taken e =
      let a = bind_some (front_at (salt_amount version f.hash) before) (λ z. opened version f z) q e in
      let t = front_takes (salt_amount version f.hash) before a.0.0 a.0.1 fits a.1 in
      subst (λ (l : List ℕ). Opened version l front q) (sym t.0.parts) (opened_takes version f a.0.0 a.0.1 front q known t.0.first t.0.second t.1 taken a.2)

  fronted_takes : (version : ℕ) (before front : List ℕ) (q : QuestionValue) → is_version version ≡ true → IsOctets before → IsOctets front → length front ≤ 4294967295
      → (fields_at version front >>= λ f. front_at (salt_amount version f.hash) before >>= λ z. opened version f z) ≡ Some q → Opened version before front q
  fronted_takes version before front q known before_fits front_fits most e =
      let a = bind_some (fields_at version front) (λ f. front_at (salt_amount version f.hash) before >>= λ z. opened version f z) q e in
      salted_takes version a.0 before front q known before_fits (fields_takes version front a.0 known most front_fits a.1) a.2

  -- what is before the trailer, by what the trailer says
  record Fronted (t : Trailer) (before : List ℕ) (q : QuestionValue) : Type 0 where
    pub trailer_is : trailer_hashed t.version t.count ≡ trailer_hashed q.version (length (front_hashed q))
    pub before_is : before ≡ q.salt ++ subject_hashed q.version q.subject ++ front_hashed q
    pub question : IsQuestion q

  ended_takes : (t : Trailer) (before : List ℕ) (q : QuestionValue) → is_version t.version ≡ true → t.count < 2 ^ 32 → IsOctets before
      → (end_at t.count before >>= λ y. fields_at t.version y.1 >>= λ f. front_at (salt_amount t.version f.hash) y.0 >>= λ z. opened t.version f z) ≡ Some q → Fronted t before q
  ended_takes t before q known less fits e =
      let a = bind_some (end_at t.count before) (λ y. fields_at t.version y.1 >>= λ f. front_at (salt_amount t.version f.hash) y.0 >>= λ z. opened t.version f z) q e in
      let h = end_takes t.count before a.0.0 a.0.1 fits a.1 in
      let o = fronted_takes t.version a.0.0 a.0.1 q known h.0.first h.0.second (omega (arith, h.1)) a.2 in
      record {
        trailer_is = trailers t.version q.version t.count (length (front_hashed q)) o.version_is (sym h.1 ∙ ap length o.front_is);
        before_is = halves before a.0.0 a.0.1 (q.salt ++ subject_hashed q.version q.subject) (front_hashed q) h.0.parts o.before_is o.front_is;
        question = o.question;
      }

  pub record QuestionTaken (o : List ℕ) (q : QuestionValue) : Type 0 where
    pub parts : o ≡ hashed q
    pub question : IsQuestion q

  pub question_takes : (o : List ℕ) (q : QuestionValue) → IsOctets o → question_at o ≡ Some q → QuestionTaken o q
  unfolding question_at
  question_takes o q fits e =
      let after : List ℕ → Trailer → Option QuestionValue = λ l t. end_at t.count l >>= λ y. fields_at t.version y.1 >>= λ f. front_at (salt_amount t.version f.hash) y.0 >>= λ z. opened t.version f z in
      let a = bind_some (end_at 6 o) (λ x. trailer_at x.1 >>= λ t. after x.0 t) q e in
      let b = bind_some (trailer_at a.0.1) (λ t. after a.0.0 t) q a.2 in
      let h = end_takes 6 o a.0.0 a.0.1 fits a.1 in
      let t = trailer_takes a.0.1 b.0 h.1 h.0.second b.1 in
      let f = ended_takes b.0 a.0.0 q t.known t.less h.0.first b.2 in
      record {
        parts = halves o a.0.0 a.0.1 (q.salt ++ subject_hashed q.version q.subject ++ front_hashed q) (trailer_hashed q.version (length (front_hashed q))) h.0.parts f.before_is (sames (a.0.1) (trailer_hashed b.0.version b.0.count) (trailer_hashed q.version (length (front_hashed q))) t.parts f.trailer_is);
        question = f.question;
      }
