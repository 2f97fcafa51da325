-- The hashed octets of a question are read again as that question.
use Rattle.std.proofs.Common.{◌≡◌, ℕ, ◌+◌, ◌^◌, ◌≤◌, Bool, true, leb, List, [], ◌∷◌, ◌++◌, length, Option, Some, None, Result, is_ok, refl, sym, ap, ◌∙◌, arith, inl, inr, ◌&&◌, ◌==◌}
use Rattle.std.specs.Int.{w16, w32, to_be_bytes, from_be_bytes}
use Rattle.std.proofs.lemmas.Bool.{eq-eqb, eqb-true, le-leb, and_from, cond-true}
use Rattle.std.proofs.lemmas.List.{append-nil, length-append}
use Rattle.std.proofs.lemmas.Nat.{from_be_bytes-to_be_bytes_4}
use Rattle.opgp_octets.specs.declared.fault.BodyFault.{BodyFault}
use Rattle.opgp_octets.specs.Reading.{number_at}
use Rattle.opgp_octets.proofs.Bytes.{wide16, wide32, number_again}
use Rattle.opgp_packet.specs.AttributeBody.{attribute}
use Rattle.opgp_packet.specs.Fields.{Field, small, Body}
use Rattle.opgp_packet.specs.KeyBody.{key}
use Rattle.opgp_hash.proofs.Fields.{FieldsLaw}
use Rattle.opgp_hash.specs.QuestionValue.{QuestionValue}
use Rattle.opgp_hash.specs.Hashed.{key_hashed, id_hashed, attribute_hashed, subject_hashed, area_hashed, front_hashed, trailer_hashed, hashed}
use Rattle.opgp_hash.specs.SubjectValue.{is_about, IsKeyOf, IsAttribute, IsSubject}
use Rattle.opgp_hash.specs.QuestionValue.{is_version, is_hash, salt_amount, area_most, IsQuestion}
use Rattle.opgp_hash.specs.Reading.{◌>>=◌, front_at, end_at}
use Rattle.opgp_hash.specs.Reopening.{checked, is_of, is_key, is_attribute, counted_at, key_at, all_at, named_at, one_at, two_at, subject_at, Front, area_at, fields_at, Trailer, trailer_at, opened, question_at}
use Rattle.opgp_hash.specs.SubjectValue.{SubjectValue, binary, one, two, on_user_id, on_attribute}
use Rattle.opgp_hash.proofs.Steps.{checked_true, by_version, front_again, end_again}
use Rattle.opgp_hash.proofs.Sorts.{each_on_key, each_on_subkey, each_certification}

module _ (law : FieldsLaw) where
  -- ---- keys

  key_is : (version : ℕ) (body : List ℕ) → IsKeyOf version body → is_key version body ≡ true
  key_is version body k = ap (is_of version) ((law key (small version ∷ k.fields) body k.octets).1 k.spelled) ∙ eq-eqb version version refl

  -- a key of version 4 is short
  four_short : (body : List ℕ) (fields : List Field) → Body key (small 4 ∷ fields) body → length body ≤ 65535
  unfolding key
  four_short body fields b = elim b.follows.0 [ inl p ↦ omega (arith, p.1, ap length b.spelled) | inr p ↦ absurd (let q = p in cc) ]

  -- a body behind its length, where that was read
  counted : (version n : ℕ) (body rest : List ℕ) (read : Option (ℕ × List ℕ)) → is_key version body ≡ true → length body ≡ n → read ≡ Some (n, body ++ rest)
      → (counted_at read >>= λ x. checked (is_key version x.0) x) ≡ Some (body, rest)
  counted version n body rest read is e r =
      ap (λ (x : Option (ℕ × List ℕ)). counted_at x >>= λ y. checked (is_key version y.0) y) r
      ∙ ap (λ (x : Option (List ℕ × List ℕ)). x >>= λ y. checked (is_key version y.0) y) (front_again body rest n e)
      ∙ checked_true (is_key version body) (body, rest) is

  pub key_again : (version : ℕ) (body rest : List ℕ) → is_version version ≡ true → IsKeyOf version body → key_at version (key_hashed version body ++ rest) ≡ Some (body, rest)
  unfolding key_at
  key_again version body rest known =
      by_version (λ v. IsKeyOf v body → key_at v (key_hashed v body ++ rest) ≡ Some (body, rest)) version known
      (λ k.
      let short : length body ≤ 65535 = four_short body k.fields k.spelled in
      counted 4 (length body) body rest (number_at w16 (to_be_bytes w16 (length body) ++ (body ++ rest))) (key_is 4 body k) refl
      (number_again w16 (2 ^ 16) wide16 (length body) (body ++ rest) (omega arith)))
      (λ k.
      let most = k.most in
      counted 6 (length body) body rest (number_at w32 (to_be_bytes w32 (length body) ++ (body ++ rest))) (key_is 6 body k) refl
      (number_again w32 (2 ^ 32) wide32 (length body) (body ++ rest) (omega arith)))

  key_alone : (version : ℕ) (body : List ℕ) → is_version version ≡ true → IsKeyOf version body → key_at version (key_hashed version body) ≡ Some (body, [])
  key_alone version body known k = ap (key_at version) (sym (append-nil (key_hashed version body))) ∙ key_again version body [] known k

  -- ---- what follows a key

  all_again : (o : List ℕ) → length o ≤ 4294967295 → all_at (to_be_bytes w32 (length o) ++ o) ≡ Some o
  all_again o most =
      ap (λ (x : Option (ℕ × List ℕ)). x >>= λ y. checked (y.0 == length y.1) y.1) (number_again w32 (2 ^ 32) wide32 (length o) o (omega arith))
      ∙ checked_true (length o == length o) o (eq-eqb (length o) (length o) refl)

  id_again : (primary id : List ℕ) → length id ≤ 4294967295 → named_at primary (id_hashed id) ≡ Some (on_user_id primary id)
  id_again primary id most = ap (λ (x : Option (List ℕ)). x >>= λ y. Some (on_user_id primary y)) (all_again id most)

  attribute_is : (body : List ℕ) → IsAttribute body → is_attribute body ≡ true
  attribute_is body a =
      let test : Result (List Field) BodyFault → Bool = λ r. is_ok r in
      ap test ((law attribute a.fields body a.octets).1 a.spelled)

  attribute_again : (primary body : List ℕ) → IsAttribute body → named_at primary (attribute_hashed body) ≡ Some (on_attribute primary body)
  attribute_again primary body a =
      ap (λ (x : Option (List ℕ)). x >>= λ y. checked (is_attribute y) (on_attribute primary y)) (all_again body a.most)
      ∙ checked_true (is_attribute body) (on_attribute primary body) (attribute_is body a)

  -- ---- subjects

  one_again : (version : ℕ) (key : List ℕ) → is_version version ≡ true → IsKeyOf version key → one_at version (key_hashed version key) ≡ Some (one key)
  one_again version key known k = ap (λ (x : Option (List ℕ × List ℕ)). x >>= λ y. checked (length y.1 == 0) (one y.0)) (key_alone version key known k)

  two_again : (version : ℕ) (primary subkey : List ℕ) → is_version version ≡ true → IsKeyOf version primary → IsKeyOf version subkey
      → two_at version (key_hashed version primary ++ key_hashed version subkey) ≡ Some (two primary subkey)
  two_again version primary subkey known k l =
      ap (λ (x : Option (List ℕ × List ℕ)). x >>= λ y. key_at version y.1 >>= λ z. checked (length z.1 == 0) (two y.0 z.0)) (key_again version primary (key_hashed version subkey) known k)
      ∙ ap (λ (x : Option (List ℕ × List ℕ)). x >>= λ z. checked (length z.1 == 0) (two primary z.0)) (key_alone version subkey known l)

  on_again : (version : ℕ) (primary rest : List ℕ) (s : SubjectValue) → is_version version ≡ true → IsKeyOf version primary → named_at primary rest ≡ Some s
      → (key_at version (key_hashed version primary ++ rest) >>= λ x. named_at x.0 x.1) ≡ Some s
  on_again version primary rest s known k e = ap (λ (x : Option (List ℕ × List ℕ)). x >>= λ y. named_at y.0 y.1) (key_again version primary rest known k) ∙ e

  pub subject_again : (version kind : ℕ) (s : SubjectValue) → is_version version ≡ true → IsSubject version s → is_about kind s ≡ true
      → subject_at version kind (subject_hashed version s) ≡ Some s
  unfolding subject_at
  subject_again version kind (binary content) known fits about =
      let zero-is : kind ≡ 0x00 = eqb-true kind 0x00 about in
      rw zero-is (checked_true (leb (length content) (2 ^ 56)) (binary content) (le-leb (length content) (2 ^ 56) fits.1))
  subject_again version kind (one key) known fits about =
      let e = one_again version key known fits in
      each_on_key (λ k. subject_at version k (key_hashed version key) ≡ Some (one key)) kind about e e
  subject_again version kind (two primary subkey) known fits about =
      let e = two_again version primary subkey known fits.0 fits.1 in
      each_on_subkey (λ k. subject_at version k (key_hashed version primary ++ key_hashed version subkey) ≡ Some (two primary subkey)) kind about e e e
  subject_again version kind (on_user_id primary id) known fits about =
      let e = on_again version primary (id_hashed id) (on_user_id primary id) known fits.0 (id_again primary id fits.1.1) in
      each_certification (λ k. subject_at version k (key_hashed version primary ++ id_hashed id) ≡ Some (on_user_id primary id)) kind about e e e e e
  subject_again version kind (on_attribute primary body) known fits about =
      let e = on_again version primary (attribute_hashed body) (on_attribute primary body) known fits.0 (attribute_again primary body fits.1) in
      each_certification (λ k. subject_at version k (key_hashed version primary ++ attribute_hashed body) ≡ Some (on_attribute primary body)) kind about e e e e e

  -- ---- the front and the trailer

  area_counted : (area : List ℕ) (read : Option (ℕ × List ℕ)) → read ≡ Some (length area, area) → (read >>= λ x. checked (x.0 == length x.1) x.1) ≡ Some area
  area_counted area read r =
      ap (λ (x : Option (ℕ × List ℕ)). x >>= λ y. checked (y.0 == length y.1) y.1) r ∙ checked_true (length area == length area) area (eq-eqb (length area) (length area) refl)

  pub area_again : (version : ℕ) (area : List ℕ) → is_version version ≡ true → length area ≤ area_most version → area_at version (area_hashed version area) ≡ Some area
  area_again version area known =
      by_version (λ v. length area ≤ area_most v → area_at v (area_hashed v area) ≡ Some area) version known
      (λ most. area_counted area (number_at w16 (to_be_bytes w16 (length area) ++ area)) (number_again w16 (2 ^ 16) wide16 (length area) area (omega arith)))
      (λ most. area_counted area (number_at w32 (to_be_bytes w32 (length area) ++ area)) (number_again w32 (2 ^ 32) wide32 (length area) area (omega arith)))

  pub front_length : (version : ℕ) (area : List ℕ) → is_version version ≡ true → length area ≤ area_most version → length (area_hashed version area) + 4 ≤ 4294967295
  front_length version area known =
      by_version (λ v. length area ≤ area_most v → length (area_hashed v area) + 4 ≤ 4294967295) version known
      (λ most. omega (arith, length-append (to_be_bytes w16 (length area)) area))
      (λ most. omega (arith, length-append (to_be_bytes w32 (length area)) area))

  abbrev pub front_of : QuestionValue → Front
  front_of q = record { kind = q.kind; algorithm = q.algorithm; hash = q.hash; area = q.area }

  pub fields_again : (q : QuestionValue) → IsQuestion q → fields_at q.version (front_hashed q) ≡ Some (front_of q)
  unfolding fields_at
  fields_again q is =
      let test : (q.version == q.version) && is_hash q.version q.hash ≡ true = and_from _ _ (eq-eqb q.version q.version refl) is.hash in
      let parts : Option (List ℕ) → Option Front = λ x. x >>= λ area. Some (record { kind = q.kind; algorithm = q.algorithm; hash = q.hash; area = area }) in
      cond-true ((q.version == q.version) && is_hash q.version q.hash) (parts (area_at q.version (area_hashed q.version q.area))) None test
      ∙ ap parts (area_again q.version q.area is.version is.area)

  abbrev pub trailer_of : ℕ → ℕ → Trailer
  trailer_of version n = record { version = version; count = n }

  abbrev some_trailer : ℕ → ℕ → Option Trailer
  some_trailer version m = Some (record { version = version; count = m })

  pub trailer_again : (version n : ℕ) → is_version version ≡ true → n ≤ 4294967295 → trailer_at (trailer_hashed version n) ≡ Some (trailer_of version n)
  unfolding trailer_at
  trailer_again version n known most =
      let test : is_version version && (0xFF == 0xFF) ≡ true = and_from _ _ known refl in
      cond-true (is_version version && (0xFF == 0xFF)) (Some (record { version = version; count = from_be_bytes w32 (to_be_bytes w32 n) })) None test
      ∙ ap (λ (m : ℕ). some_trailer version m) (from_be_bytes-to_be_bytes_4 n (omega arith))

  -- ---- the question

  pub question_again : (q : QuestionValue) → IsQuestion q → question_at (hashed q) ≡ Some q
  unfolding question_at
  question_again q is =
      let front = front_hashed q in
      let subject = subject_hashed q.version q.subject in
      let count = length front in
      let trailer = trailer_hashed q.version count in
      let most : count ≤ 4294967295 = omega (arith, front_length q.version q.area is.version is.area) in
      let after_salt : Front → List ℕ × List ℕ → Option QuestionValue = λ f x. opened q.version f x in
      let after_fields : List ℕ → Front → Option QuestionValue = λ o f. front_at (salt_amount q.version f.hash) o >>= λ z. opened q.version f z in
      let after_front : List ℕ × List ℕ → Option QuestionValue = λ y. fields_at q.version y.1 >>= λ f. after_fields y.0 f in
      let after_trailer : List ℕ → Trailer → Option QuestionValue =
      λ o t. end_at t.count o >>= λ y. fields_at t.version y.1 >>= λ f. front_at (salt_amount t.version f.hash) y.0 >>= λ z. opened t.version f z in
      let after_end : List ℕ × List ℕ → Option QuestionValue = λ x. trailer_at x.1 >>= λ t. after_trailer x.0 t in
      ap (λ (x : Option (List ℕ × List ℕ)). x >>= after_end) (end_again (q.salt ++ subject ++ front) trailer 6 refl)
      ∙ ap (λ (x : Option Trailer). x >>= λ t. after_trailer (q.salt ++ subject ++ front) t) (trailer_again q.version count is.version most)
      ∙ ap (λ (x : Option (List ℕ × List ℕ)). x >>= after_front) (end_again (q.salt ++ subject) front count refl)
      ∙ ap (λ (x : Option Front). x >>= λ f. after_fields (q.salt ++ subject) f) (fields_again q is)
      ∙ ap (λ (x : Option (List ℕ × List ℕ)). x >>= λ z. opened q.version (front_of q) z) (front_again q.salt subject (salt_amount q.version q.hash) is.salt)
      ∙ ap (λ (x : Option SubjectValue). x >>= λ s. Some (record q { subject = s })) (subject_again q.version q.kind q.subject is.version is.subject is.kind)
