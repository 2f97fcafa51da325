-- A signature that is read is what the octets spell, what they spell is read, and a fault is the first.
use Rattle.std.proofs.Common.{◌≡◌, ℕ, ◌==◌, Bool, true, false, cond, List, [], ◌∷◌, Result, Ok, Err, refl, sym, ap, subst, ◌∙◌, inl, inr, ◌⊎◌}
use Rattle.std.specs.Prelude.{IfOk, IfErr}
use Rattle.std.proofs.lemmas.Bool.{eqb-true, eqb-false, ne_eqb}
use Rattle.opgp_octets.specs.declared.fault.Reason.TheVariants.{Short}
use Rattle.opgp_octets.specs.declared.fault.BodyFault.{BodyFault}
use Rattle.opgp_octets.specs.declared.refusal.ParseFault.{ParseFault}
use Rattle.opgp_octets.specs.declared.refusal.ParseFault.TheVariants as faults
use Rattle.opgp_octets.specs.Octets.{IsOctets}
use Rattle.opgp_octets.specs.Reading.{◌>>=◌, Reads}
use Rattle.opgp_octets.proofs.Bytes.{chosen, bind_ok}
use Rattle.opgp_packet.specs.Fields.{exact, Field, small, octets_of, Grammar, field, Body}
use Rattle.opgp_packet.specs.FieldReading.{body_at}
use Rattle.opgp_octets.specs.ParseFault.{Parses, RefusedBy}
use Rattle.opgp_packet.proofs.AreaLaws.{same_read}
use Rattle.opgp_packet.proofs.GrammarLaws.{body_found, body_only, body_fault, body_refused}
use Rattle.opgp_packet.specs.SignatureBody.{version_three, version_four, version_six, with_areas, SignatureValue, of_three, of_four, of_six, of_other, IsOther, Spells, SignatureFault, three_or_other, signature_at}

abbrev well : SignatureValue → Result SignatureValue BodyFault
well v = Ok v

bind_err : {A B : Type 0} (r : Result A BodyFault) (g : A → B) (f : BodyFault) → (r >>= λ x. Ok (g x)) ≡ Err f → r ≡ Err f
bind_err (Ok x) g f e = absurd cc
bind_err (Err d) g f e = cc

-- what begins with one octet
head_exact : (k : ℕ) (next : Field → Grammar) (fields : List Field) (o : List ℕ) → Body (field (exact Short k) next) fields o → (rest : List ℕ) × (o ≡ k ∷ rest)
head_exact k next [] o b = absurd b.follows
head_exact k next (small n ∷ fs) o b = (octets_of fs, b.spelled ∙ ap (λ (x : ℕ). x ∷ octets_of fs) b.follows.0.1)
head_exact k next (f ∷ fs) o b = absurd b.follows.0

-- ---- what is read is spelled so

read_three : (v : ℕ) (o : List ℕ) (value : SignatureValue) → IsOctets (v ∷ o) → (v ≡ 4 → ⊥) → (v ≡ 6 → ⊥) → three_or_other (v ∷ o) (body_at version_three (v ∷ o)) ≡ Ok value → Spells value (v ∷ o)
read_three v o value fits not4 not6 e =
    elim (body_at version_three (v ∷ o)) as (λ (r : Result (List Field) BodyFault). body_at version_three (v ∷ o) ≡ r → three_or_other (v ∷ o) r ≡ Ok value → Spells value (v ∷ o)) [
      | Ok fields ↦ λ k h. subst (λ (w : SignatureValue). Spells w (v ∷ o)) (same_read (of_three fields) value h) (body_found version_three (v ∷ o) fields fits k)
      | Err f ↦ λ k h. subst (λ (w : SignatureValue). Spells w (v ∷ o)) (same_read (of_other (v ∷ o)) value h)
          (refl, (not4, not6, λ fields b. let only = body_only version_three (v ∷ o) fields b in cc))
    ] refl e

read_other : (v : ℕ) (o : List ℕ) (value : SignatureValue) → (v ≡ 4 → ⊥) → (v ≡ 6 → ⊥) → (v ≡ 3 → ⊥) → well (of_other (v ∷ o)) ≡ well value → Spells value (v ∷ o)
unfolding version_three
read_other v o value not4 not6 not3 e =
    subst (λ (w : SignatureValue). Spells w (v ∷ o)) (same_read (of_other (v ∷ o)) value e)
    (refl, (not4, not6, λ fields b. let h = (head_exact 3 _ fields (v ∷ o) b).1 in not3 (cc)))

pub sig_found : (o : List ℕ) (v : SignatureValue) → IsOctets o → signature_at o ≡ Ok v → Spells v o
unfolding signature_at
sig_found [] value fits e = absurd cc
sig_found (v ∷ o) value fits e =
    elim (chosen (v == 4) (body_at version_four (v ∷ o) >>= λ x. Ok (of_four x)) _ (Ok value) e) [
      | inl p ↦
          let a = bind_ok (body_at version_four (v ∷ o)) (λ x. Ok (of_four x)) value p.1 in
          subst (λ (w : SignatureValue). Spells w (v ∷ o)) (same_read (of_four a.0) value a.2) (body_found version_four (v ∷ o) a.0 fits a.1)
      | inr p ↦ elim (chosen (v == 6) (body_at version_six (v ∷ o) >>= λ x. Ok (of_six x)) _ (Ok value) p.1) [
        | inl q ↦
            let a = bind_ok (body_at version_six (v ∷ o)) (λ x. Ok (of_six x)) value q.1 in
            subst (λ (w : SignatureValue). Spells w (v ∷ o)) (same_read (of_six a.0) value a.2) (body_found version_six (v ∷ o) a.0 fits a.1)
        | inr q ↦ elim (chosen (v == 3) (three_or_other (v ∷ o) (body_at version_three (v ∷ o))) (Ok (of_other (v ∷ o))) (Ok value) q.1) [
          | inl s ↦ read_three v o value fits (eqb-false v 4 p.0) (eqb-false v 6 q.0) s.1
          | inr s ↦ read_other v o value (eqb-false v 4 p.0) (eqb-false v 6 q.0) (eqb-false v 3 s.0) s.1
        ]
      ]
    ]

-- ---- what is spelled so is read

three_again : (o : List ℕ) (fields : List Field) → Body version_three fields o → (rest : List ℕ) → o ≡ 3 ∷ rest → signature_at o ≡ Ok (of_three fields)
unfolding signature_at
three_again o fields b rest h =
    let only = body_only version_three o fields b in
    rw h (ap (three_or_other (3 ∷ rest)) (subst (λ (l : List ℕ). body_at version_three l ≡ Ok fields) h only))

four_again : (o : List ℕ) (fields : List Field) → Body version_four fields o → (rest : List ℕ) → o ≡ 4 ∷ rest → signature_at o ≡ Ok (of_four fields)
unfolding signature_at
four_again o fields b rest h =
    let only = body_only version_four o fields b in
    rw h (ap (λ (r : Result (List Field) BodyFault). r >>= λ x. Ok (of_four x)) (subst (λ (l : List ℕ). body_at version_four l ≡ Ok fields) h only))

six_again : (o : List ℕ) (fields : List Field) → Body version_six fields o → (rest : List ℕ) → o ≡ 6 ∷ rest → signature_at o ≡ Ok (of_six fields)
unfolding signature_at
six_again o fields b rest h =
    let only = body_only version_six o fields b in
    rw h (ap (λ (r : Result (List Field) BodyFault). r >>= λ x. Ok (of_six x)) (subst (λ (l : List ℕ). body_at version_six l ≡ Ok fields) h only))

other_three : (o : List ℕ) → IsOctets o → ((fields : List Field) → Body version_three fields o → ⊥) → three_or_other o (body_at version_three o) ≡ Ok (of_other o)
other_three o fits none =
    elim (body_at version_three o) as (λ (r : Result (List Field) BodyFault). body_at version_three o ≡ r → three_or_other o r ≡ Ok (of_other o)) [
      | Ok fields ↦ λ k. absurd (none fields (body_found version_three o fields fits k))
      | Err f ↦ λ k. refl
    ] refl

other_again : (o : List ℕ) → IsOctets o → IsOther o → signature_at o ≡ Ok (of_other o)
unfolding signature_at
other_again [] fits h = absurd h
other_again (v ∷ o) fits h =
    rw (ne_eqb v 4 h.0, ne_eqb v 6 h.1)
    (elim (v == 3) as (λ (b : Bool). cond b (three_or_other (v ∷ o) (body_at version_three (v ∷ o))) (Ok (of_other (v ∷ o))) ≡ Ok (of_other (v ∷ o))) [
      | true ↦ other_three (v ∷ o) fits h.2
      | false ↦ refl
    ])

pub sig_only : (o : List ℕ) (v : SignatureValue) → IsOctets o → Spells v o → signature_at o ≡ Ok v
unfolding version_three with_areas
sig_only o (of_three fields) fits b = let h = head_exact 3 _ fields o b in three_again o fields b h.0 h.1
sig_only o (of_four fields) fits b = let h = head_exact 4 _ fields o b in four_again o fields b h.0 h.1
sig_only o (of_six fields) fits b = let h = head_exact 6 _ fields o b in six_again o fields b h.0 h.1
sig_only o (of_other octets) fits b = other_again o fits b.1 ∙ ap (λ (l : List ℕ). Ok (of_other l)) b.0

-- ---- the fault

never_fails : (o : List ℕ) (r : Result (List Field) BodyFault) (f : BodyFault) → three_or_other o r ≡ Err f → ⊥
never_fails o (Ok fields) f e = cc
never_fails o (Err d) f e = cc

pub sig_fault : (o : List ℕ) (f : BodyFault) → IsOctets o → signature_at o ≡ Err f → SignatureFault o f
unfolding signature_at
sig_fault [] f fits e = cc
sig_fault (v ∷ o) f fits e =
    elim (chosen (v == 4) (body_at version_four (v ∷ o) >>= λ x. Ok (of_four x)) _ (Err f) e) [
      | inl p ↦ inl (eqb-true v 4 p.0, body_fault version_four (v ∷ o) f fits (bind_err (body_at version_four (v ∷ o)) of_four f p.1))
      | inr p ↦ elim (chosen (v == 6) (body_at version_six (v ∷ o) >>= λ x. Ok (of_six x)) _ (Err f) p.1) [
        | inl q ↦ inr (eqb-true v 6 q.0, body_fault version_six (v ∷ o) f fits (bind_err (body_at version_six (v ∷ o)) of_six f q.1))
        | inr q ↦ elim (chosen (v == 3) (three_or_other (v ∷ o) (body_at version_three (v ∷ o))) (Ok (of_other (v ∷ o))) (Err f) q.1) [
          | inl s ↦ absurd (never_fails (v ∷ o) (body_at version_three (v ∷ o)) f s.1)
          | inr s ↦ absurd (let x = s.1 in cc)
        ]
      ]
    ]

pub sig_refused : (o : List ℕ) (f : BodyFault) → IsOctets o → SignatureFault o f → signature_at o ≡ Err f
unfolding signature_at
sig_refused [] f fits e = cc
sig_refused (v ∷ o) f fits (inl p) = rw p.0 (ap (λ (r : Result (List Field) BodyFault). r >>= λ x. Ok (of_four x)) (subst (λ (w : ℕ). body_at version_four (w ∷ o) ≡ Err f) p.0 (body_refused version_four (v ∷ o) f fits p.1)))
sig_refused (v ∷ o) f fits (inr p) = rw p.0 (ap (λ (r : Result (List Field) BodyFault). r >>= λ x. Ok (of_six x)) (subst (λ (w : ℕ). body_at version_six (w ∷ o) ≡ Err f) p.0 (body_refused version_six (v ∷ o) f fits p.1)))

-- ---- one reading

abbrev ill : {A : Type 0} → BodyFault → Result A BodyFault
ill f = Err f

same_ill : {A : Type 0} (f g : BodyFault) → ill {A = A} f ≡ ill {A = A} g → f ≡ g
same_ill f g e = cc

pub one_value : (o : List ℕ) (v w : SignatureValue) → IsOctets o → Spells v o → Spells w o → v ≡ w
one_value o v w fits a b = same_read v w (sym (sig_only o v fits a) ∙ sig_only o w fits b)

pub one_fault : (o : List ℕ) (f g : BodyFault) → IsOctets o → SignatureFault o f → SignatureFault o g → f ≡ g
one_fault o f g fits a b = same_ill {A = SignatureValue} f g (sym (sig_refused o f fits a) ∙ sig_refused o g fits b)

pub no_fault : (v : SignatureValue) (o : List ℕ) (f : BodyFault) → IsOctets o → Spells v o → SignatureFault o f → ⊥
no_fault v o f fits b h = let e = sym (sig_only o v fits b) ∙ sig_refused o f fits h in cc

pub some_answer : (o : List ℕ) → IsOctets o → ((v : SignatureValue) × Spells v o) ⊎ ((f : BodyFault) × SignatureFault o f)
some_answer o fits =
    elim (signature_at o) as (λ (r : Result SignatureValue BodyFault). signature_at o ≡ r → ((v : SignatureValue) × Spells v o) ⊎ ((f : BodyFault) × SignatureFault o f)) [
      | Ok v ↦ λ e. inl (v, sig_found o v fits e)
      | Err f ↦ λ e. inr (f, sig_fault o f fits e)
    ] refl

-- ---- what a parser may promise

module _ {X : Type 0} (view : X → SignatureValue) (o : List ℕ) where
  pub parser_found : (r : Result X BodyFault) → IsOctets o → Reads view r (signature_at o) → IfOk r (λ s. Spells (view s) o)
  parser_found (Ok s) fits e = sig_found o (view s) fits e
  parser_found (Err f) fits e = tt

  pub parser_only : (r : Result X BodyFault) → IsOctets o → Reads view r (signature_at o) → (v : SignatureValue) → Spells v o → Reads view r (Ok v)
  parser_only (Ok s) fits e v b = sym (sig_only o v fits b) ∙ e
  parser_only (Err f) fits e v b = sym (sig_only o v fits b) ∙ e

  pub parser_fault : (r : Result X BodyFault) → IsOctets o → Reads view r (signature_at o) → IfErr r (SignatureFault o)
  parser_fault (Ok s) fits e = tt
  parser_fault (Err f) fits e = sig_fault o f fits e

  pub parsed_found : (r : Result X ParseFault) → IsOctets o → Parses view r (signature_at o) → IfOk r (λ s. Spells (view s) o)
  parsed_found (Ok s) fits e = sig_found o (view s) fits e
  parsed_found (Err f) fits e = tt

  pub parsed_only : (r : Result X ParseFault) → IsOctets o → Parses view r (signature_at o) → (v : SignatureValue) → Spells v o → Parses view r (Ok v)
  parsed_only (Ok s) fits e v b = sym (sig_only o v fits b) ∙ e
  parsed_only (Err faults.Memory) fits e v b = tt
  parsed_only (Err (faults.Body f)) fits e v b = sym (sig_only o v fits b) ∙ e

  pub parsed_fault : (r : Result X ParseFault) → IsOctets o → Parses view r (signature_at o) → IfErr r (RefusedBy (SignatureFault o))
  parsed_fault (Ok s) fits e = tt
  parsed_fault (Err faults.Memory) fits e = tt
  parsed_fault (Err (faults.Body f)) fits e = sig_fault o f fits e
