-- A body that is read is the concatenation of its fields, such a concatenation is read, and a fault is the first.
use Rattle.std.proofs.Common.{◌≡◌, ℕ, ◌+◌, ◌-◌, eqb, List, [], ◌∷◌, ◌++◌, length, Result, Ok, Err, refl, sym, ap, subst, ◌∙◌, append_assoc, arith, inl, inr, ◌⊎◌}
use Rattle.std.specs.Prelude.{IfOk, IfErr, IfSome, IfNone, Option, Some, None}
use Rattle.std.proofs.lemmas.Bool.{eqb-true, eqb-false, ne_eqb}
use Rattle.std.proofs.lemmas.List.{length-append, append-nil, nil_from_length}
use Rattle.opgp_octets.specs.declared.fault.Reason.{Reason}
use Rattle.opgp_octets.specs.declared.fault.Reason.TheVariants.{Trailing}
use Rattle.opgp_octets.specs.declared.fault.BodyFault.{BodyFault}
use Rattle.opgp_octets.specs.Octets.{IsOctets}
use Rattle.opgp_octets.specs.Reading.{◌>>=◌, Reads}
use Rattle.opgp_octets.proofs.Bytes.{chosen, bind_ok, same_some, Takes, Takes-then}
use Rattle.opgp_packet.specs.Subpackets.{Sub, AreaFault}
use Rattle.opgp_packet.specs.Fields.{Extent, Field, subpackets, field_octets, octets_of, Stands, StandsAsArea, Grammar, done, field, area, Follows, Body, fault_at, FirstFault}
use Rattle.opgp_packet.specs.AreaReading.{placed, area_at, fault_of}
use Rattle.opgp_octets.specs.declared.refusal.ParseFault.{ParseFault}
use Rattle.opgp_octets.specs.declared.refusal.ParseFault.TheVariants as faults
use Rattle.opgp_octets.specs.ParseFault.{Parses, RefusedBy}
use Rattle.opgp_packet.specs.FieldReading.{kind_at, extent_at, step_at, area_step_at, read_at, ended, body_at}
use Rattle.opgp_packet.proofs.KindLaws.{kind_takes, kind_again, kind_fails, kind_refused}
use Rattle.opgp_packet.proofs.AreaLaws.{same_read, area_takes, area_again, area_fails, area_refused}
use Rattle.opgp_packet.proofs.ExtentLaws.{placed_ok, placed_err, extent_takes, extent_again, extent_why, extent_none, extent_refused, area_step_takes, area_step_again}

-- what is known of fields that were read
pub record AreTaken (grammar : Grammar) (o : List ℕ) (x : List Field × List ℕ) : Type 0 where
  pub takes : Takes o (octets_of x.0) x.1
  pub follows : Follows grammar x.0 (length x.1)

pub grammar_takes : (total : ℕ) (grammar : Grammar) (o : List ℕ) (x : List Field × List ℕ) → IsOctets o → read_at total grammar o ≡ Ok x → AreTaken grammar o x
unfolding step_at
grammar_takes total done o x fits e = subst (λ (y : List Field × List ℕ). AreTaken done o y) (same_read ([], o) x e) (record { takes = record { parts = refl; rest_fits = fits }; follows = tt })
grammar_takes total (field kind next) o x fits e =
    let a = bind_ok (step_at total kind o) (λ y. read_at total (next y.0) y.1 >>= λ z. Ok (y.0 ∷ z.0, z.1)) x e in
    let y = a.0 in
    let b = bind_ok (read_at total (next y.0) y.1) (λ z. Ok (y.0 ∷ z.0, z.1)) x a.2 in
    let z = b.0 in
    let first = kind_takes kind o y fits (placed_ok total (length o) (kind_at kind o) y a.1) in
    let others = grammar_takes total (next y.0) y.1 z first.takes.rest_fits b.1 in
    let both = Takes-then o (field_octets y.0) y.1 (octets_of z.0) z.1 first.takes others.takes in
    let len : length y.1 ≡ length (octets_of z.0) + length z.1 = omega (arith, ap length others.takes.parts, length-append (octets_of z.0) z.1) in
    subst (λ (w : List Field × List ℕ). AreTaken (field kind next) o w) (same_read (y.0 ∷ z.0, z.1) x b.2)
    (record { takes = both; follows = (subst (λ (n : ℕ). Stands kind y.0 n) len first.stands, others.follows) })
grammar_takes total (area extent next) o x fits e =
    let a = bind_ok (area_step_at total extent o) (λ y. read_at total next y.1 >>= λ z. Ok (y.0 ∷ z.0, z.1)) x e in
    let y = a.0 in
    let b = bind_ok (read_at total next y.1) (λ z. Ok (y.0 ∷ z.0, z.1)) x a.2 in
    let z = b.0 in
    let first = area_step_takes total extent o y fits a.1 in
    let others = grammar_takes total next y.1 z first.takes.rest_fits b.1 in
    let both = Takes-then o (field_octets y.0) y.1 (octets_of z.0) z.1 first.takes others.takes in
    let len : length y.1 ≡ length (octets_of z.0) + length z.1 = omega (arith, ap length others.takes.parts, length-append (octets_of z.0) z.1) in
    subst (λ (w : List Field × List ℕ). AreTaken (area extent next) o w) (same_read (y.0 ∷ z.0, z.1) x b.2)
    (record { takes = both; follows = (subst (λ (n : ℕ). StandsAsArea extent y.0 n) len first.stands, others.follows) })

pub grammar_again : (total : ℕ) (grammar : Grammar) (fields : List Field) (rest : List ℕ) → Follows grammar fields (length rest) → read_at total grammar (octets_of fields ++ rest) ≡ Ok (fields, rest)
unfolding step_at
grammar_again total done [] rest h = refl
grammar_again total done (x ∷ xs) rest h = absurd h
grammar_again total (field kind next) [] rest h = absurd h
grammar_again total (field kind next) (x ∷ xs) rest h =
    let len : length (octets_of xs) + length rest ≡ length (octets_of xs ++ rest) = sym (length-append (octets_of xs) rest) in
    let regrouped : octets_of (x ∷ xs) ++ rest ≡ field_octets x ++ (octets_of xs ++ rest) = append_assoc (field_octets x) (octets_of xs) rest in
    let first : kind_at kind (field_octets x ++ (octets_of xs ++ rest)) ≡ Ok (x, octets_of xs ++ rest) = kind_again kind x (octets_of xs ++ rest) (subst (λ (n : ℕ). Stands kind x n) len h.0) in
    let step : step_at total kind (field_octets x ++ (octets_of xs ++ rest)) ≡ Ok (x, octets_of xs ++ rest) = ap (placed total (length (field_octets x ++ (octets_of xs ++ rest)))) first in
    ap (read_at total (field kind next)) regrouped
    ∙ ap (λ (r : Result (Field × List ℕ) BodyFault). r >>= λ y. read_at total (next y.0) y.1 >>= λ z. Ok (y.0 ∷ z.0, z.1)) step
    ∙ ap (λ (r : Result (List Field × List ℕ) BodyFault). r >>= λ z. Ok (x ∷ z.0, z.1)) (grammar_again total (next x) xs rest h.1)
grammar_again total (area extent next) [] rest h = absurd h
grammar_again total (area extent next) (x ∷ xs) rest h =
    let len : length (octets_of xs) + length rest ≡ length (octets_of xs ++ rest) = sym (length-append (octets_of xs) rest) in
    let regrouped : octets_of (x ∷ xs) ++ rest ≡ field_octets x ++ (octets_of xs ++ rest) = append_assoc (field_octets x) (octets_of xs) rest in
    let step = area_step_again total extent x (octets_of xs ++ rest) (subst (λ (n : ℕ). StandsAsArea extent x n) len h.0) in
    ap (read_at total (area extent next)) regrouped
    ∙ ap (λ (r : Result (Field × List ℕ) BodyFault). r >>= λ y. read_at total next y.1 >>= λ z. Ok (y.0 ∷ z.0, z.1)) step
    ∙ ap (λ (r : Result (List Field × List ℕ) BodyFault). r >>= λ z. Ok (x ∷ z.0, z.1)) (grammar_again total next xs rest h.1)

-- ---- what is read is spelled so

pub body_found : (grammar : Grammar) (o : List ℕ) (fields : List Field) → IsOctets o → body_at grammar o ≡ Ok fields → Body grammar fields o
unfolding body_at
body_found grammar o fields fits e =
    let a = bind_ok (read_at (length o) grammar o) (ended (length o)) fields e in
    let x = a.0 in
    let t = grammar_takes (length o) grammar o x fits a.1 in
    elim (chosen (eqb (length x.1) 0) (Ok x.0) (Err (fault_at (length o) (length x.1) Trailing)) (Ok fields) a.2) [
      | inl p ↦
          let none : x.1 ≡ [] = nil_from_length x.1 (eqb-true _ _ p.0) in
          let zero : length x.1 ≡ 0 = eqb-true _ _ p.0 in
          subst (λ (fs : List Field). Body grammar fs o) (same_read x.0 fields p.1)
          (record { spelled = t.takes.parts ∙ ap (λ (r : List ℕ). octets_of x.0 ++ r) none ∙ append-nil (octets_of x.0); follows = subst (λ (n : ℕ). Follows grammar x.0 n) zero t.follows })
      | inr p ↦ absurd (let q = p.1 in cc)
    ]

-- ---- what is spelled so is read

pub body_only : (grammar : Grammar) (o : List ℕ) (fields : List Field) → Body grammar fields o → body_at grammar o ≡ Ok fields
unfolding body_at
body_only grammar o fields b =
    let again = grammar_again (length o) grammar fields [] b.follows in
    let here : read_at (length o) grammar o ≡ Ok (fields, []) = ap (read_at (length o) grammar) (b.spelled ∙ sym (append-nil (octets_of fields))) ∙ again in
    ap (λ (r : Result (List Field × List ℕ) BodyFault). r >>= ended (length o)) here

-- ---- the first fault

-- one field more in front changes no fault
inner : (total : ℕ) (x : Field) (r : Result (List Field × List ℕ) BodyFault) (f : BodyFault) → ((r >>= λ z. Ok (x ∷ z.0, z.1)) >>= ended total) ≡ Err f → (r >>= ended total) ≡ Err f
inner total x (Err d) f e = e
inner total x (Ok z) f e =
    elim (chosen (eqb (length z.1) 0) (Ok (x ∷ z.0)) (Err (fault_at total (length z.1) Trailing)) (Err f) e) [
      | inl p ↦ absurd (let q = p.1 in cc)
      | inr p ↦ rw p.0 p.1
    ]

outer : (total : ℕ) (x : Field) (r : Result (List Field × List ℕ) BodyFault) (f : BodyFault) → (r >>= ended total) ≡ Err f → ((r >>= λ z. Ok (x ∷ z.0, z.1)) >>= ended total) ≡ Err f
outer total x (Err d) f e = e
outer total x (Ok z) f e =
    elim (chosen (eqb (length z.1) 0) (Ok z.0) (Err (fault_at total (length z.1) Trailing)) (Err f) e) [
      | inl p ↦ absurd (let q = p.1 in cc)
      | inr p ↦ rw p.0 p.1
    ]

abbrev ill : {A : Type 0} → BodyFault → Result A BodyFault
ill f = Err f

same_ill : {A : Type 0} (f g : BodyFault) → ill {A = A} f ≡ ill {A = A} g → f ≡ g
same_ill f g e = cc

-- the rest of a body, past an area of these octets and before these
abbrev area_made : Extent → List ℕ → Result (List Sub) BodyFault → Result (Field × List ℕ) BodyFault
area_made extent rest r = r >>= λ w. Ok (subpackets extent w, rest)

abbrev area_cut : ℕ → Extent → ℕ → Result (List ℕ × List ℕ) Reason → Result (Field × List ℕ) BodyFault
area_cut total extent left r = placed total left r >>= λ x. area_made extent x.1 (area_at (total - length x.1) x.0)

abbrev step_done : ℕ → (Field → Grammar) → Result (Field × List ℕ) BodyFault → Result (List Field) BodyFault
step_done total next r = (r >>= λ y. read_at total (next y.0) y.1 >>= λ z. Ok (y.0 ∷ z.0, z.1)) >>= ended total

grammar_fault : (total : ℕ) (grammar : Grammar) (o : List ℕ) (f : BodyFault) → IsOctets o → (read_at total grammar o >>= ended total) ≡ Err f → FirstFault total grammar o f
unfolding step_at area_step_at
grammar_fault total done o f fits e =
    elim (chosen (eqb (length o) 0) (Ok []) (Err (fault_at total (length o) Trailing)) (Err f) e) [
      | inl p ↦ absurd (let q = p.1 in cc)
      | inr p ↦ let not0 = eqb-false (length o) 0 p.0 in (omega (arith, not0), let q = p.1 in cc)
    ]
grammar_fault total (field kind next) o f fits e =
    elim (step_at total kind o) as (λ (r : Result (Field × List ℕ) BodyFault). step_at total kind o ≡ r → step_done total next r ≡ Err f → FirstFault total (field kind next) o f) [
      | Err d ↦ λ k h.
          let p = placed_err total (length o) (kind_at kind o) d k in
          let n = kind_fails kind o p.0 p.1 in
          let same : d ≡ f = same_ill {A = List Field} d f h in
          inl (n.0, sym same ∙ p.2 ∙ ap (fault_at total (length o)) n.1)
      | Ok y ↦ λ k h.
          let first = kind_takes kind o y fits (placed_ok total (length o) (kind_at kind o) y k) in
          inr (y.0, y.1, first.stands, first.takes.parts, grammar_fault total (next y.0) y.1 f first.takes.rest_fits (inner total y.0 (read_at total (next y.0) y.1) f h))
    ] refl e
grammar_fault total (area extent next) o f fits e =
    elim (extent_at extent o) as (λ (r : Result (List ℕ × List ℕ) Reason). extent_at extent o ≡ r
    → step_done total (λ y. next) (area_cut total extent (length o) r) ≡ Err f → FirstFault total (area extent next) o f) [
      | Err d ↦ λ k h.
          let same : fault_at total (length o) d ≡ f = same_ill {A = List Field} (fault_at total (length o) d) f h in
          inl (extent_none extent o d k, sym same ∙ ap (fault_at total (length o)) (extent_why extent o d k))
      | Ok x ↦ λ k h.
          let t = extent_takes extent o x fits k in
          (elim (area_at (total - length x.1) x.0) as (λ (r : Result (List Sub) BodyFault). area_at (total - length x.1) x.0 ≡ r
          → step_done total (λ y. next) (area_made extent x.1 r) ≡ Err f → FirstFault total (area extent next) o f) [
            | Err g ↦ λ m j.
                let same : g ≡ f = same_ill {A = List Field} g f j in
                inr (x.0, x.1, t.extends, t.takes.parts, inl (subst (λ (d : BodyFault). AreaFault (total - length x.1) x.0 d) same (area_fails (total - length x.1) x.0 g t.each m)))
            | Ok w ↦ λ m j.
                let s = area_takes (total - length x.1) x.0 w t.each m in
                inr (x.0, x.1, t.extends, t.takes.parts, inr (w, (s.1, s.0, grammar_fault total next x.1 f t.takes.rest_fits (inner total (subpackets extent w) (read_at total next x.1) f j))))
          ] refl h)
    ] refl e

pub body_fault : (grammar : Grammar) (o : List ℕ) (f : BodyFault) → IsOctets o → body_at grammar o ≡ Err f → FirstFault (length o) grammar o f
unfolding body_at
body_fault grammar o f fits e = grammar_fault (length o) grammar o f fits e

-- ---- no other fault is the first

grammar_refused : (total : ℕ) (grammar : Grammar) (o : List ℕ) (f : BodyFault) → IsOctets o → FirstFault total grammar o f → (read_at total grammar o >>= ended total) ≡ Err f
unfolding step_at area_step_at
grammar_refused total done o f fits h = rw (ne_eqb (length o) 0 (λ k. omega (arith, k, h.0)), h.1) refl
grammar_refused total (field kind next) o f fits (inl h) =
    ap (λ (r : Result (Field × List ℕ) Reason). step_done total next (placed total (length o) r)) (kind_refused kind o fits h.0) ∙ ap (λ (g : BodyFault). Err g) (sym h.1)
grammar_refused total (field kind next) o f fits (inr (x, rest, stands, parts, h)) =
    let here : kind_at kind o ≡ Ok (x, rest) = ap (kind_at kind) parts ∙ kind_again kind x rest stands in
    let t = kind_takes kind o (x, rest) fits here in
    ap (λ (r : Result (Field × List ℕ) Reason). step_done total next (placed total (length o) r)) here
    ∙ outer total x (read_at total (next x) rest) f (grammar_refused total (next x) rest f t.takes.rest_fits h)
grammar_refused total (area extent next) o f fits (inl h) =
    ap (λ (r : Result (List ℕ × List ℕ) Reason). step_done total (λ y. next) (area_cut total extent (length o) r)) (extent_refused extent o fits h.0) ∙ ap (λ (g : BodyFault). Err g) (sym h.1)
grammar_refused total (area extent next) o f fits (inr (a, rest, extends, parts, h)) =
    let here : extent_at extent o ≡ Ok (a, rest) = ap (extent_at extent) parts ∙ extent_again extent a rest extends in
    let t = extent_takes extent o (a, rest) fits here in
    ap (λ (r : Result (List ℕ × List ℕ) Reason). step_done total (λ y. next) (area_cut total extent (length o) r)) here
    ∙ elim h [
      | inl k ↦ ap (λ (r : Result (List Sub) BodyFault). step_done total (λ y. next) (area_made extent rest r)) (area_refused (total - length rest) a f t.each k)
      | inr (subs, k) ↦
          let read : area_at (total - length rest) a ≡ Ok subs = ap (area_at (total - length rest)) k.1 ∙ area_again (total - length rest) subs k.0 in
          ap (λ (r : Result (List Sub) BodyFault). step_done total (λ y. next) (area_made extent rest r)) read
          ∙ outer total (subpackets extent subs) (read_at total next rest) f (grammar_refused total next rest f t.takes.rest_fits k.2)
    ]

pub body_refused : (grammar : Grammar) (o : List ℕ) (f : BodyFault) → IsOctets o → FirstFault (length o) grammar o f → body_at grammar o ≡ Err f
unfolding body_at
body_refused grammar o f fits h = grammar_refused (length o) grammar o f fits h

-- ---- what a parser may promise

module _ {X : Type 0} (view : X → List Field) (grammar : Grammar) (o : List ℕ) where
  pub parser_found : (r : Result X BodyFault) → IsOctets o → Reads view r (body_at grammar o) → IfOk r (λ v. Body grammar (view v) o)
  parser_found (Ok v) fits e = body_found grammar o (view v) fits e
  parser_found (Err f) fits e = tt

  pub parser_only : (r : Result X BodyFault) → Reads view r (body_at grammar o) → (fields : List Field) → Body grammar fields o → Reads view r (Ok fields)
  parser_only (Ok v) e fields b = sym (body_only grammar o fields b) ∙ e
  parser_only (Err f) e fields b = sym (body_only grammar o fields b) ∙ e

  pub parser_fault : (r : Result X BodyFault) → IsOctets o → Reads view r (body_at grammar o) → IfErr r (FirstFault (length o) grammar o)
  parser_fault (Ok v) fits e = tt
  parser_fault (Err f) fits e = body_fault grammar o f fits e

  pub parsed_found : (r : Result X ParseFault) → IsOctets o → Parses view r (body_at grammar o) → IfOk r (λ v. Body grammar (view v) o)
  parsed_found (Ok v) fits e = body_found grammar o (view v) fits e
  parsed_found (Err f) fits e = tt

  pub parsed_only : (r : Result X ParseFault) → Parses view r (body_at grammar o) → (fields : List Field) → Body grammar fields o → Parses view r (Ok fields)
  parsed_only (Ok v) e fields b = sym (body_only grammar o fields b) ∙ e
  parsed_only (Err faults.Memory) e fields b = tt
  parsed_only (Err (faults.Body f)) e fields b = sym (body_only grammar o fields b) ∙ e

  pub parsed_fault : (r : Result X ParseFault) → IsOctets o → Parses view r (body_at grammar o) → IfErr r (RefusedBy (FirstFault (length o) grammar o))
  parsed_fault (Ok v) fits e = tt
  parsed_fault (Err faults.Memory) fits e = tt
  parsed_fault (Err (faults.Body f)) fits e = body_fault grammar o f fits e

-- ---- what a check may promise

pub checked_fault : (grammar : Grammar) (o : List ℕ) (r : Option BodyFault) → IsOctets o → r ≡ fault_of (body_at grammar o) → IfSome r (FirstFault (length o) grammar o)
checked_fault grammar o None fits e = tt
checked_fault grammar o (Some f) fits e =
    elim (body_at grammar o) as (λ (r : Result (List Field) BodyFault). body_at grammar o ≡ r → Some f ≡ fault_of r → FirstFault (length o) grammar o f) [
      | Ok fields ↦ λ k h. absurd cc
      | Err g ↦ λ k h. subst (λ (d : BodyFault). FirstFault (length o) grammar o d) (sym (same_some f g h)) (body_fault grammar o g fits k)
    ] refl e

pub checked_none : (grammar : Grammar) (o : List ℕ) (r : Option BodyFault) → r ≡ fault_of (body_at grammar o) → (fields : List Field) → Body grammar fields o → r ≡ None
checked_none grammar o r e fields b = e ∙ ap fault_of (body_only grammar o fields b)

pub checked_found : (grammar : Grammar) (o : List ℕ) (r : Option BodyFault) → IsOctets o → r ≡ fault_of (body_at grammar o) → IfNone r ((fields : List Field) × Body grammar fields o)
checked_found grammar o (Some f) fits e = tt
checked_found grammar o None fits e =
    elim (body_at grammar o) as (λ (r : Result (List Field) BodyFault). body_at grammar o ≡ r → None ≡ fault_of r → (fields : List Field) × Body grammar fields o) [
      | Ok fields ↦ λ k h. (fields, body_found grammar o fields fits k)
      | Err g ↦ λ k h. absurd cc
    ] refl e

-- ---- one reading

pub one_body : (grammar : Grammar) (fields others : List Field) (o : List ℕ) → Body grammar fields o → Body grammar others o → fields ≡ others
one_body grammar fields others o a b = same_read fields others (sym (body_only grammar o fields a) ∙ body_only grammar o others b)

pub no_fault : (grammar : Grammar) (fields : List Field) (o : List ℕ) (f : BodyFault) → IsOctets o → Body grammar fields o → FirstFault (length o) grammar o f → ⊥
no_fault grammar fields o f fits b h = let e = sym (body_only grammar o fields b) ∙ body_refused grammar o f fits h in cc

pub some_answer : (grammar : Grammar) (o : List ℕ) → IsOctets o → ((fields : List Field) × Body grammar fields o) ⊎ ((f : BodyFault) × FirstFault (length o) grammar o f)
some_answer grammar o fits =
    elim (body_at grammar o) as (λ (r : Result (List Field) BodyFault). body_at grammar o ≡ r → ((fields : List Field) × Body grammar fields o) ⊎ ((f : BodyFault) × FirstFault (length o) grammar o f)) [
      | Ok fields ↦ λ e. inl (fields, body_found grammar o fields fits e)
      | Err f ↦ λ e. inr (f, body_fault grammar o f fits e)
    ] refl

pub one_fault : (grammar : Grammar) (o : List ℕ) (f g : BodyFault) → IsOctets o → FirstFault (length o) grammar o f → FirstFault (length o) grammar o g → f ≡ g
one_fault grammar o f g fits a b = same_ill {A = List Field} f g (sym (body_refused grammar o f fits a) ∙ body_refused grammar o g fits b)
