-- What is read of octets is a question whose hashed octets they are.
use Rattle.std.proofs.Common.{◌≡◌, ℕ, ◌^◌, ◌<◌, ◌≤◌, true, cond, eqb, leb, List, [], ◌∷◌, ◌++◌, length, Option, Some, None, Result, Ok, Err, is_ok, refl, sym, ap, subst, ◌∙◌, arith, lit≤, ◌==◌, inl, inr}
use Rattle.std.specs.Int.{Width, w16, w32, to_be_bytes}
use Rattle.std.proofs.lemmas.Bool.{eqb-true, leb-true}
use Rattle.std.proofs.lemmas.List.{append-nil, nil_from_length}
use Rattle.opgp_octets.specs.declared.fault.BodyFault.{BodyFault}
use Rattle.opgp_octets.specs.Octets.{IsOctets}
use Rattle.opgp_octets.specs.Reading.{number_at}
use Rattle.opgp_octets.proofs.Bytes.{IsOctets-drop, chosen, IsWide, wide16, wide32, number_takes}
use Rattle.opgp_packet.specs.AttributeBody.{attribute}
use Rattle.opgp_packet.specs.Fields.{Field, small, wide, integer, named, bare, subpackets, Body}
use Rattle.opgp_packet.specs.FieldReading.{body_at}
use Rattle.opgp_packet.specs.KeyBody.{key}
use Rattle.opgp_hash.proofs.Fields.{FieldsLaw}
use Rattle.opgp_hash.specs.Hashed.{key_hashed, subject_hashed}
use Rattle.opgp_hash.specs.SubjectValue.{is_certification, is_on_key, is_on_subkey, is_about, IsKeyOf, IsAttribute, IsSubject}
use Rattle.opgp_hash.specs.QuestionValue.{is_version}
use Rattle.opgp_hash.specs.Reading.{◌>>=◌, front_at}
use Rattle.opgp_hash.specs.Reopening.{checked, is_of, is_key, is_attribute, behind, counted_at, key_at, all_at, named_at, content_at, one_at, two_at, subject_at}
use Rattle.opgp_hash.specs.SubjectValue.{SubjectValue, binary, one, two, on_user_id, on_attribute}
use Rattle.opgp_hash.proofs.Steps.{bind_some, checked_some, same_some, by_version, front_takes}

module _ (law : FieldsLaw) where
  -- ---- keys

  behind_takes : (tag : ℕ) (o r : List ℕ) → IsOctets o → behind tag o ≡ Some r → (o ≡ tag ∷ r) × IsOctets r
  behind_takes tag [] r fits e = absurd cc
  behind_takes tag (x ∷ o) r fits e =
      elim (chosen (eqb x tag) (Some o) None (Some r) e) [
        | inl p ↦
            let tag-is : x ≡ tag = eqb-true x tag p.0 in
            let r-is : o ≡ r = same_some o r p.1 in
            (rw (tag-is, r-is) refl, rw (← r-is) (IsOctets-drop 1 (x ∷ o) fits))
        | inr p ↦ absurd (let q = p.1 in cc)
      ]

  -- the fields of a key begin with its version
  of_key : (version : ℕ) (body : List ℕ) (fields : List Field) → Body key fields body → IsOctets body → is_of version (Ok fields) ≡ true → length body ≤ 4294967295 → IsKeyOf version body
  unfolding key
  of_key version body [] b fits e most = absurd cc
  of_key version body (small n ∷ fs) b fits e most =
      let v-is : n ≡ version = eqb-true n version e in
      rw (← v-is) (record { fields = fs; spelled = b; octets = fits; most = most })
  of_key version body (wide n ∷ fs) b fits e most = absurd b.follows.0
  of_key version body (integer n ∷ fs) b fits e most = absurd b.follows.0
  of_key version body (named n ∷ fs) b fits e most = absurd b.follows.0
  of_key version body (bare n ∷ fs) b fits e most = absurd b.follows.0
  of_key version body (subpackets d subs ∷ fs) b fits e most = absurd b.follows.0

  key_from : (version : ℕ) (body : List ℕ) (r : Result (List Field) BodyFault) → body_at key body ≡ r → IsOctets body → is_of version r ≡ true → length body ≤ 4294967295 → IsKeyOf version body
  key_from version body (Ok fields) read fits e most = of_key version body fields ((law key fields body fits).0 read) fits e most
  key_from version body (Err f) read fits e most = absurd cc

  pub record KeyTaken (version : ℕ) (o body rest : List ℕ) : Type 0 where
    pub parts : o ≡ key_hashed version body ++ rest
    pub rest_fits : IsOctets rest
    pub key : IsKeyOf version body

  -- a body behind its length
  record Counted (w : Width) (limit : ℕ) (o body rest : List ℕ) : Type 0 where
    pub parts : o ≡ to_be_bytes w (length body) ++ (body ++ rest)
    pub body_fits : IsOctets body
    pub rest_fits : IsOctets rest
    pub less : length body < limit

  counted_takes : (w : Width) (limit : ℕ) (laws : IsWide w limit) (o body rest : List ℕ) → IsOctets o → counted_at (number_at w o) ≡ Some (body, rest) → Counted w limit o body rest
  counted_takes w limit laws o body rest fits e =
      let a = bind_some (number_at w o) (λ x. front_at x.0 x.1) (body, rest) e in
      let n = a.0.0 in
      let t = number_takes w limit laws o n a.0.1 fits a.1 in
      let f = front_takes n a.0.1 body rest t.0.rest_fits a.2 in
      let n-is : length body ≡ n = f.1 in
      record {
        parts = t.0.parts ∙ ap (λ (m : ℕ). to_be_bytes w m ++ a.0.1) (sym n-is) ∙ ap (λ (l : List ℕ). to_be_bytes w (length body) ++ l) f.0.parts;
        body_fits = f.0.first;
        rest_fits = f.0.second;
        less = rw n-is t.1;
      }

  abbrev some_pair : List ℕ × List ℕ → Option (List ℕ × List ℕ)
  some_pair y = Some y

  key_counted : (version : ℕ) (w : Width) (limit : ℕ) (laws : IsWide w limit) (o : List ℕ) (x : List ℕ × List ℕ) → IsOctets o → limit ≤ 4294967296
      → (counted_at (number_at w o) >>= λ y. checked (is_key version y.0) y) ≡ Some x → Counted w limit o x.0 x.1 × IsKeyOf version x.0
  key_counted version w limit laws o x fits most e =
      let a = bind_some (counted_at (number_at w o)) (λ y. checked (is_key version y.0) y) x e in
      let b = checked_some (is_key version a.0.0) a.0 x a.2 in
      let read : counted_at (number_at w o) ≡ Some x = a.1 ∙ ap some_pair b.1 in
      let test : is_key version x.0 ≡ true = subst (λ (y : List ℕ × List ℕ). is_key version y.0 ≡ true) b.1 b.0 in
      let c = counted_takes w limit laws o x.0 x.1 fits read in
      let less = c.less in
      (c, key_from version x.0 (body_at key x.0) refl c.body_fits test (omega arith))

  pub key_takes : (version : ℕ) (o : List ℕ) (x : List ℕ × List ℕ) → is_version version ≡ true → IsOctets o → key_at version o ≡ Some x → KeyTaken version o x.0 x.1
  unfolding key_at
  key_takes version o x known fits =
      by_version (λ v. key_at v o ≡ Some x → KeyTaken v o x.0 x.1) version known
      (λ e.
      let a = bind_some (behind 0x99 o) (λ r. counted_at (number_at w16 r) >>= λ y. checked (is_key 4 y.0) y) x e in
      let t = behind_takes 0x99 o a.0 fits a.1 in
      let k = key_counted 4 w16 (2 ^ 16) wide16 a.0 x t.1 (lit≤ tt) a.2 in
      record { parts = t.0 ∙ ap (λ (l : List ℕ). 0x99 ∷ l) k.0.parts; rest_fits = k.0.rest_fits; key = k.1 })
      (λ e.
      let a = bind_some (behind 0x9B o) (λ r. counted_at (number_at w32 r) >>= λ y. checked (is_key 6 y.0) y) x e in
      let t = behind_takes 0x9B o a.0 fits a.1 in
      let k = key_counted 6 w32 (2 ^ 32) wide32 a.0 x t.1 (lit≤ tt) a.2 in
      record { parts = t.0 ∙ ap (λ (l : List ℕ). 0x9B ∷ l) k.0.parts; rest_fits = k.0.rest_fits; key = k.1 })

  -- ---- what follows a key

  nothing_left : (rest : List ℕ) → (length rest == 0) ≡ true → rest ≡ []
  nothing_left rest e = nil_from_length rest (eqb-true (length rest) 0 e)

  record AllTaken (o rest : List ℕ) : Type 0 where
    pub parts : o ≡ to_be_bytes w32 (length rest) ++ rest
    pub fits : IsOctets rest
    pub most : length rest ≤ 4294967295

  all_takes : (o rest : List ℕ) → IsOctets o → all_at o ≡ Some rest → AllTaken o rest
  all_takes o rest fits e =
      let a = bind_some (number_at w32 o) (λ x. checked (x.0 == length x.1) x.1) rest e in
      let b = checked_some (a.0.0 == length a.0.1) a.0.1 rest a.2 in
      let t = number_takes w32 (2 ^ 32) wide32 o a.0.0 a.0.1 fits a.1 in
      let n-is : a.0.0 ≡ length a.0.1 = eqb-true a.0.0 (length a.0.1) b.0 in
      let less = t.1 in
      subst (λ (l : List ℕ). AllTaken o l) b.1
      (record { parts = t.0.parts ∙ ap (λ (m : ℕ). to_be_bytes w32 m ++ a.0.1) n-is; fits = t.0.rest_fits; most = omega arith })

  attribute_from : (body : List ℕ) (r : Result (List Field) BodyFault) → body_at attribute body ≡ r → IsOctets body → is_ok r ≡ true → length body ≤ 4294967295 → IsAttribute body
  attribute_from body (Ok fields) read fits e most = record { fields = fields; spelled = (law attribute fields body fits).0 read; octets = fits; most = most }
  attribute_from body (Err f) read fits e most = absurd cc

  -- what is about a certification behind the key
  pub record NamedTaken (version kind : ℕ) (primary o : List ℕ) (s : SubjectValue) : Type 0 where
    pub parts : key_hashed version primary ++ o ≡ subject_hashed version s
    pub fits : IsSubject version s
    pub about : is_certification kind ≡ true → is_about kind s ≡ true

  named_takes : (version kind : ℕ) (primary o : List ℕ) (s : SubjectValue) → IsOctets o → IsKeyOf version primary → named_at primary o ≡ Some s → NamedTaken version kind primary o s
  named_takes version kind primary [] s fits k e = absurd cc
  named_takes version kind primary (x ∷ o) s fits k e =
      let user : Option (List ℕ) → Option SubjectValue = λ r. r >>= λ id. Some (on_user_id primary id) in
      let attr : Option (List ℕ) → Option SubjectValue = λ r. r >>= λ body. checked (is_attribute body) (on_attribute primary body) in
      elim (chosen (eqb x 0xB4) (user (all_at o)) (cond (eqb x 0xD1) (attr (all_at o)) None) (Some s) e) [
        | inl p ↦
            let a = bind_some (all_at o) (λ id. Some (on_user_id primary id)) s p.1 in
            let t = all_takes o a.0 (IsOctets-drop 1 (x ∷ o) fits) a.1 in
            let tag-is : x ≡ 0xB4 = eqb-true x 0xB4 p.0 in
            subst (λ (v : SubjectValue). NamedTaken version kind primary (x ∷ o) v) (same_some (on_user_id primary a.0) s a.2)
            (record {
              parts = ap (λ (n : ℕ). key_hashed version primary ++ n ∷ o) tag-is ∙ ap (λ (l : List ℕ). key_hashed version primary ++ 0xB4 ∷ l) t.parts;
              fits = (k, (t.fits, t.most));
              about = λ h. h;
            })
        | inr p ↦
            elim (chosen (eqb x 0xD1) (attr (all_at o)) None (Some s) p.1) [
              | inl q ↦
                  let a = bind_some (all_at o) (λ body. checked (is_attribute body) (on_attribute primary body)) s q.1 in
                  let b = checked_some (is_attribute a.0) (on_attribute primary a.0) s a.2 in
                  let t = all_takes o a.0 (IsOctets-drop 1 (x ∷ o) fits) a.1 in
                  let tag-is : x ≡ 0xD1 = eqb-true x 0xD1 q.0 in
                  subst (λ (v : SubjectValue). NamedTaken version kind primary (x ∷ o) v) b.1
                  (record {
                    parts = ap (λ (n : ℕ). key_hashed version primary ++ n ∷ o) tag-is ∙ ap (λ (l : List ℕ). key_hashed version primary ++ 0xD1 ∷ l) t.parts;
                    fits = (k, attribute_from a.0 (body_at attribute a.0) refl t.fits b.0 t.most);
                    about = λ h. h;
                  })
              | inr q ↦ absurd (let r = q.1 in cc)
            ]
      ]

  -- ---- subjects

  pub record SubjectTaken (version kind : ℕ) (o : List ℕ) (s : SubjectValue) : Type 0 where
    pub parts : o ≡ subject_hashed version s
    pub fits : IsSubject version s
    pub about : is_about kind s ≡ true

  content_takes : (version kind : ℕ) (o : List ℕ) (s : SubjectValue) → IsOctets o → (kind == 0x00) ≡ true → content_at o ≡ Some s → SubjectTaken version kind o s
  content_takes version kind o s fits test e =
      let a = checked_some (leb (length o) (2 ^ 56)) (binary o) s e in
      subst (λ (v : SubjectValue). SubjectTaken version kind o v) a.1 (record { parts = refl; fits = (fits, leb-true (length o) (2 ^ 56) a.0); about = test })

  one_takes : (version kind : ℕ) (o : List ℕ) (s : SubjectValue) → is_version version ≡ true → IsOctets o → is_on_key kind ≡ true → one_at version o ≡ Some s → SubjectTaken version kind o s
  one_takes version kind o s known fits test e =
      let a = bind_some (key_at version o) (λ x. checked (length x.1 == 0) (one x.0)) s e in
      let k = key_takes version o a.0 known fits a.1 in
      let b = checked_some (length a.0.1 == 0) (one a.0.0) s a.2 in
      let whole : o ≡ key_hashed version a.0.0 = k.parts ∙ ap (λ (l : List ℕ). key_hashed version a.0.0 ++ l) (nothing_left a.0.1 b.0) ∙ append-nil (key_hashed version a.0.0) in
      subst (λ (v : SubjectValue). SubjectTaken version kind o v) b.1 (record { parts = whole; fits = k.key; about = test })

  two_takes : (version kind : ℕ) (o : List ℕ) (s : SubjectValue) → is_version version ≡ true → IsOctets o → is_on_subkey kind ≡ true → two_at version o ≡ Some s → SubjectTaken version kind o s
  two_takes version kind o s known fits test e =
      let a = bind_some (key_at version o) (λ x. key_at version x.1 >>= λ y. checked (length y.1 == 0) (two x.0 y.0)) s e in
      let k = key_takes version o a.0 known fits a.1 in
      let b = bind_some (key_at version a.0.1) (λ y. checked (length y.1 == 0) (two a.0.0 y.0)) s a.2 in
      let l = key_takes version a.0.1 b.0 known k.rest_fits b.1 in
      let d = checked_some (length b.0.1 == 0) (two a.0.0 b.0.0) s b.2 in
      let last : a.0.1 ≡ key_hashed version b.0.0 = l.parts ∙ ap (λ (t : List ℕ). key_hashed version b.0.0 ++ t) (nothing_left b.0.1 d.0) ∙ append-nil (key_hashed version b.0.0) in
      subst (λ (v : SubjectValue). SubjectTaken version kind o v) d.1
      (record { parts = k.parts ∙ ap (λ (t : List ℕ). key_hashed version a.0.0 ++ t) last; fits = (k.key, l.key); about = test })

  on_takes : (version kind : ℕ) (o : List ℕ) (s : SubjectValue) → is_version version ≡ true → IsOctets o → is_certification kind ≡ true
      → (key_at version o >>= λ x. named_at x.0 x.1) ≡ Some s → SubjectTaken version kind o s
  on_takes version kind o s known fits test e =
      let a = bind_some (key_at version o) (λ x. named_at x.0 x.1) s e in
      let k = key_takes version o a.0 known fits a.1 in
      let n = named_takes version kind a.0.0 a.0.1 s k.rest_fits k.key a.2 in
      record { parts = k.parts ∙ n.parts; fits = n.fits; about = n.about test }

  pub subject_takes : (version kind : ℕ) (o : List ℕ) (s : SubjectValue) → is_version version ≡ true → IsOctets o → subject_at version kind o ≡ Some s → SubjectTaken version kind o s
  unfolding subject_at
  subject_takes version kind o s known fits e =
      let on : Option SubjectValue = key_at version o >>= λ x. named_at x.0 x.1 in
      let third : Option SubjectValue = cond (is_certification kind) on None in
      let second : Option SubjectValue = cond (is_on_subkey kind) (two_at version o) third in
      let first : Option SubjectValue = cond (is_on_key kind) (one_at version o) second in
      elim (chosen (kind == 0x00) (content_at o) first (Some s) e) [
        | inl p ↦ content_takes version kind o s fits p.0 p.1
        | inr p ↦ elim (chosen (is_on_key kind) (one_at version o) second (Some s) p.1) [
          | inl q ↦ one_takes version kind o s known fits q.0 q.1
          | inr q ↦ elim (chosen (is_on_subkey kind) (two_at version o) third (Some s) q.1) [
            | inl r ↦ two_takes version kind o s known fits r.0 r.1
            | inr r ↦ elim (chosen (is_certification kind) on None (Some s) r.1) [
              | inl t ↦ on_takes version kind o s known fits t.0 t.1
              | inr t ↦ absurd (let u = t.1 in cc)
            ]
          ]
        ]
      ]
