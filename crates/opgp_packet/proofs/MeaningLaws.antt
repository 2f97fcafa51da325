-- What reading octets as a kind gives is what they mean, and nothing else is.
use Rattle.std.proofs.Common.{◌≡◌, ℕ, suc, ◌+◌, ◌-◌, ◌^◌, ◌<◌, Bool, true, false, cond, eqb, ltb, ◌&&◌, ◌||◌, List, [], ◌∷◌, ◌++◌, length, take, drop, get_or, Option, Some, None, Result, Ok, Err, refl, sym, ap, subst, ◌∙◌, arith, inl, inr, ◌⊎◌}
use Rattle.std.specs.Prelude.{is_ok, ◌%◌, ◌/◌}
use Rattle.std.specs.Int.{w16, w32, to_be_bytes, from_be_bytes}
use Rattle.std.proofs.lemmas.Bool.{eqb-true, eq-eqb, ltb-true, lt-ltb, and_parts}
use Rattle.std.proofs.lemmas.Option.{cond_some, option_and_then_some}
use Rattle.std.proofs.lemmas.List.{take_at, drop_at, take-append-drop, length-append, length-take, length-drop}
use Rattle.std.proofs.Math.Seq.{drop-cons, drop-length, get_or-append_seam}
use Rattle.opgp_octets.specs.declared.fault.BodyFault.{BodyFault}
use Rattle.opgp_octets.specs.declared.subpacket_kind.SubpacketKind.{SubpacketKind}
use Rattle.opgp_octets.specs.declared.subpacket_kind.SubpacketKind.TheVariants as kind
use Rattle.opgp_octets.specs.Octets.{IsOctets}
use Rattle.opgp_octets.specs.Reading.{number_at}
use Rattle.opgp_octets.proofs.Bytes.{same_some, wide16, wide32, number_takes, number_again}
use Rattle.opgp_packet.specs.SignatureBody.{SignatureValue, Spells, signature_at}
use Rattle.opgp_packet.specs.Forms.{Form, Fields, IsOf, IsNumber, IsNotation, IsNamed}
use Rattle.opgp_packet.specs.Forms as form
use Rattle.opgp_packet.specs.Meaning.{Meaning, Means, Writes, IsListed, form_of, typed, unfit, unknown}
use Rattle.opgp_packet.specs.MeaningReading.{number_in, one_in, two_in, ended_in, behind_one_in, behind_two_in, revoker_in, eight_in}
use Rattle.opgp_packet.specs.MeaningReading.{◌and_then◌, notation_cut, notation_in, embedded_in, named_in, pairs_in, fields_in, or_unfit, meaning_by, meaning_of}
use Rattle.opgp_packet.proofs.SignatureLaws.{sig_found, sig_only}

-- ---- what a form writes is read as that form

number_back : (o : List ℕ) (n : ℕ) → IsNumber o n → number_in o ≡ Some n
number_back o n h = rw (h.1, wide32.again n h.0) refl

ended_back : (o text : List ℕ) → o ≡ text ++ 0 ∷ [] → ended_in o ≡ Some text
ended_back o text h =
    let some : ltb 0 (length (text ++ 0 ∷ [])) ≡ true = lt-ltb _ _ (omega (arith, length-append text (0 ∷ []))) in
    let n : length (text ++ 0 ∷ []) - 1 ≡ length text = omega (arith, length-append text (0 ∷ [])) in
    rw (h, some, n, get_or-append_seam text 0 [] 0, take_at text (0 ∷ []) (length text) refl) refl

revoker_back : (o : List ℕ) (class algorithm : ℕ) (fingerprint : List ℕ) → (o ≡ class ∷ algorithm ∷ fingerprint) × (length fingerprint ≡ 20) → revoker_in o ≡ Some (class, algorithm, fingerprint)
revoker_back o class algorithm fingerprint h = rw (h.0, eq-eqb (length fingerprint) 20 h.1) refl

eight_back : (o id : List ℕ) → (o ≡ id) × (length id ≡ 8) → eight_in o ≡ Some id
eight_back o id h = rw (h.0, eq-eqb (length id) 8 h.1) refl

cut_back : (flags : ℕ) (name value : List ℕ) → notation_cut flags (length name) (length value, name ++ value) ≡ Some (flags, name, value)
cut_back flags name value =
    rw (eq-eqb (length (name ++ value)) (length name + length value) (length-append name value), take_at name value (length name) refl, drop_at name value (length name) refl) refl

notation_back : (o : List ℕ) (flags : ℕ) (name value : List ℕ) → IsNotation o flags name value → notation_in o ≡ Some (flags, name, value)
notation_back o flags name value h =
    let c : List ℕ = name ++ value in
    let b : List ℕ = to_be_bytes w16 (length value) ++ c in
    let a : List ℕ = to_be_bytes w16 (length name) ++ b in
    rw h.3
    (ap (λ (r : Option (ℕ × List ℕ)). r and_then λ f. number_at w16 f.1 and_then λ n. number_at w16 n.1 and_then notation_cut f.0 n.0) (number_again w32 (2 ^ 32) wide32 flags a h.0)
    ∙ ap (λ (r : Option (ℕ × List ℕ)). r and_then λ n. number_at w16 n.1 and_then notation_cut flags n.0) (number_again w16 (2 ^ 16) wide16 (length name) b h.1)
    ∙ ap (λ (r : Option (ℕ × List ℕ)). r and_then notation_cut flags (length name)) (number_again w16 (2 ^ 16) wide16 (length value) c h.2)
    ∙ cut_back flags name value)

embedded_back : (o body : List ℕ) → IsOctets o → (o ≡ body) × ((value : SignatureValue) × Spells value o) → embedded_in o ≡ Some body
embedded_back o body fits h = rw (sig_only o h.1.0 fits h.1.1) (ap (λ (x : List ℕ). Some x) h.0)

named_back : (o : List ℕ) (version : ℕ) (fingerprint : List ℕ) → IsNamed o version fingerprint → named_in o ≡ Some (version, fingerprint)
named_back o version fingerprint h =
    elim h.1 [
      | inl p ↦ rw (h.0, p.0, eq-eqb (length fingerprint) 20 p.1) refl
      | inr p ↦ rw (h.0, p.0, eq-eqb (length fingerprint) 32 p.1) refl
    ]

pairs_back : (o pairs : List ℕ) → (o ≡ pairs) × ((n : ℕ) × (length o ≡ n + n)) → pairs_in o ≡ Some pairs
pairs_back o pairs h =
    let n = h.1.0 in
    let even : length o % 2 ≡ 0 = omega (arith, h.1.1) in
    rw (eq-eqb (length o % 2) 0 even) (ap (λ (x : List ℕ). Some x) h.0)

fields_back : (f : Form) (o : List ℕ) (x : Fields f) → IsOctets o → IsOf f o x → fields_in f o ≡ Some x
fields_back form.number o n fits h = number_back o n h
fields_back form.octet o n fits h = rw h refl
fields_back form.two_octets o x fits h = rw h refl
fields_back form.ended_text o text fits h = ended_back o text h
fields_back form.octets o x fits h = ap (λ (y : List ℕ). Some y) h
fields_back form.revoker o x fits h = revoker_back o x.0 x.1 x.2 h
fields_back form.key_id o id fits h = eight_back o id h
fields_back form.notation o x fits h = notation_back o x.0 x.1 x.2 h
fields_back form.code_and_text o x fits h = rw h refl
fields_back form.target o x fits h = rw h refl
fields_back form.signature o body fits h = embedded_back o body fits h
fields_back form.fingerprint o x fits h = named_back o x.0 x.1 h
fields_back form.pairs o x fits h = pairs_back o x h

pub written_read : (k : SubpacketKind) (o : List ℕ) (m : Meaning) → IsOctets o → Writes k o m → meaning_of k o ≡ m
unfolding meaning_of
written_read k o (typed of f x) fits h = ap (meaning_by k o) h.1 ∙ ap (or_unfit (typed k f)) (fields_back f o x fits h.2) ∙ ap (λ (j : SubpacketKind). typed j f x) h.0
written_read k o unfit fits h = absurd h
written_read k o unknown fits h = absurd h

-- ---- what is read as a form is what the form writes

number_found : (o : List ℕ) (n : ℕ) → IsOctets o → number_in o ≡ Some n → IsNumber o n
number_found o n fits e =
    let p = cond_some (eqb (length o) 4) (from_be_bytes w32 o) n e in
    (subst (λ (m : ℕ). m < 2 ^ 32) p.1 (wide32.below o fits), sym (wide32.back o (eqb-true (length o) 4 p.0) fits) ∙ ap (to_be_bytes w32) p.1)

one_found : (o : List ℕ) (n : ℕ) → one_in o ≡ Some n → o ≡ n ∷ []
one_found (m ∷ []) n e = ap (λ (x : ℕ). x ∷ []) (same_some m n e)
one_found o n e = absurd cc

two_found : (o : List ℕ) (x : ℕ × ℕ) → two_in o ≡ Some x → o ≡ x.0 ∷ x.1 ∷ []
two_found (m ∷ k ∷ []) x e = ap (λ (y : ℕ × ℕ). y.0 ∷ y.1 ∷ []) (same_some (m, k) x e)
two_found o x e = absurd cc

behind_one_found : (o : List ℕ) (x : ℕ × List ℕ) → behind_one_in o ≡ Some x → o ≡ x.0 ∷ x.1
behind_one_found (m ∷ o) x e = ap (λ (y : ℕ × List ℕ). y.0 ∷ y.1) (same_some (m, o) x e)
behind_one_found o x e = absurd cc

behind_two_found : (o : List ℕ) (x : ℕ × ℕ × List ℕ) → behind_two_in o ≡ Some x → o ≡ x.0 ∷ x.1 ∷ x.2
behind_two_found (m ∷ k ∷ o) x e = ap (λ (y : ℕ × ℕ × List ℕ). y.0 ∷ y.1 ∷ y.2) (same_some (m, k, o) x e)
behind_two_found o x e = absurd cc

ended_found : (o text : List ℕ) → ended_in o ≡ Some text → o ≡ text ++ 0 ∷ []
ended_found o text e =
    let p = cond_some (ltb 0 (length o) && eqb (get_or o (length o - 1) 0) 0) (take (length o - 1) o) text e in
    let both = and_parts (ltb 0 (length o)) (eqb (get_or o (length o - 1) 0) 0) p.0 in
    let some : 0 < length o = ltb-true 0 (length o) both.0 in
    let zero : get_or o (length o - 1) 0 ≡ 0 = eqb-true (get_or o (length o - 1) 0) 0 both.1 in
    let last : suc (length o - 1) ≡ length o = omega (arith, some) in
    let end : drop (length o - 1) o ≡ get_or o (length o - 1) 0 ∷ drop (suc (length o - 1)) o = drop-cons o (length o - 1) 0 (omega (arith, some)) in
    let rest : drop (suc (length o - 1)) o ≡ [] = ap (λ (n : ℕ). drop n o) last ∙ drop-length o in
    let is : take (length o - 1) o ≡ text = p.1 in
    sym (take-append-drop (length o - 1) o) ∙ rw (end, zero, rest, is) refl

revoker_found : (o : List ℕ) (x : ℕ × ℕ × List ℕ) → revoker_in o ≡ Some x → (o ≡ x.0 ∷ x.1 ∷ x.2) × (length x.2 ≡ 20)
revoker_found o x e =
    option_and_then_some _ (behind_two_in o) x e (λ y p q.
    let r = cond_some (eqb (length y.2) 20) y x q in
    subst (λ (z : ℕ × ℕ × List ℕ). (o ≡ z.0 ∷ z.1 ∷ z.2) × (length z.2 ≡ 20)) r.1 (behind_two_found o y p, eqb-true (length y.2) 20 r.0))

eight_found : (o id : List ℕ) → eight_in o ≡ Some id → (o ≡ id) × (length id ≡ 8)
eight_found o id e =
    let p = cond_some (eqb (length o) 8) o id e in
    (p.1, ap length (sym p.1) ∙ eqb-true (length o) 8 p.0)

-- three numbers, and as many octets as the last two say
cut_found : (o a b r : List ℕ) (flags n v : ℕ) (x : ℕ × List ℕ × List ℕ) → IsOctets o → number_at w32 o ≡ Some (flags, a) → number_at w16 a ≡ Some (n, b) → number_at w16 b ≡ Some (v, r)
    → notation_cut flags n (v, r) ≡ Some x → IsNotation o x.0 x.1 x.2
cut_found o a b r flags n v x each p q s e =
    let f = number_takes w32 (2 ^ 32) wide32 o flags a each p in
    let g = number_takes w16 (2 ^ 16) wide16 a n b f.0.rest_fits q in
    let h = number_takes w16 (2 ^ 16) wide16 b v r g.0.rest_fits s in
    let t = cond_some (eqb (length r) (n + v)) (flags, take n r, drop n r) x e in
    let size : length r ≡ n + v = eqb-true (length r) (n + v) t.0 in
    let name : length (take n r) ≡ n = omega (arith, size, length-take n r) in
    let value : length (drop n r) ≡ v = omega (arith, size, length-drop n r) in
    let parts : r ≡ take n r ++ drop n r = sym (take-append-drop n r) in
    let behind : b ≡ to_be_bytes w16 v ++ (take n r ++ drop n r) = rw (← parts) h.0.parts in
    let whole : o ≡ to_be_bytes w32 flags ++ (to_be_bytes w16 n ++ (to_be_bytes w16 v ++ (take n r ++ drop n r))) = rw (← behind, ← g.0.parts) f.0.parts in
    let note : IsNotation o flags (take n r) (drop n r) = rw (name, value) (f.1, g.1, h.1, whole) in
    subst (λ (y : ℕ × List ℕ × List ℕ). IsNotation o y.0 y.1 y.2) t.1 note

notation_found : (o : List ℕ) (x : ℕ × List ℕ × List ℕ) → IsOctets o → notation_in o ≡ Some x → IsNotation o x.0 x.1 x.2
notation_found o x each e =
    option_and_then_some _ (number_at w32 o) x e (λ f p d.
    option_and_then_some _ (number_at w16 f.1) x d (λ n q c.
    option_and_then_some _ (number_at w16 n.1) x c (λ v s b. cut_found o f.1 n.1 v.1 f.0 n.0 v.0 x each p q s b)))

embedded_found : (o body : List ℕ) → IsOctets o → embedded_in o ≡ Some body → (o ≡ body) × ((value : SignatureValue) × Spells value o)
embedded_found o body fits e =
    elim (signature_at o) as (λ (r : Result SignatureValue BodyFault). signature_at o ≡ r → cond (is_ok r) (Some o) None ≡ Some body → (o ≡ body) × ((value : SignatureValue) × Spells value o)) [
      | Ok value ↦ λ k h. (same_some o body h, (value, sig_found o value fits k))
      | Err f ↦ λ k h. absurd cc
    ] refl e

IsPrint : ℕ × List ℕ → Type 0
IsPrint x = ((x.0 ≡ 4) × (length x.1 ≡ 20)) ⊎ ((x.0 ≡ 6) × (length x.1 ≡ 32))

sized : (x : ℕ × List ℕ) → ((eqb x.0 4 && eqb (length x.1) 20) || (eqb x.0 6 && eqb (length x.1) 32)) ≡ true → IsPrint x
unfolding IsPrint
sized x e =
    elim (eqb x.0 4 && eqb (length x.1) 20) as (λ (b : Bool). (eqb x.0 4 && eqb (length x.1) 20) ≡ b → (b || (eqb x.0 6 && eqb (length x.1) 32)) ≡ true → IsPrint x) [
      | true ↦ λ k h. let both = and_parts (eqb x.0 4) (eqb (length x.1) 20) k in inl (eqb-true x.0 4 both.0, eqb-true (length x.1) 20 both.1)
      | false ↦ λ k h. let both = and_parts (eqb x.0 6) (eqb (length x.1) 32) h in inr (eqb-true x.0 6 both.0, eqb-true (length x.1) 32 both.1)
    ] refl e

named_found : (o : List ℕ) (x : ℕ × List ℕ) → named_in o ≡ Some x → IsNamed o x.0 x.1
unfolding IsPrint
named_found o x e =
    option_and_then_some _ (behind_one_in o) x e (λ y p q.
    let r = cond_some ((eqb y.0 4 && eqb (length y.1) 20) || (eqb y.0 6 && eqb (length y.1) 32)) y x q in
    subst (λ (z : ℕ × List ℕ). IsNamed o z.0 z.1) r.1 (behind_one_found o y p, sized y r.0))

pairs_found : (o pairs : List ℕ) → pairs_in o ≡ Some pairs → (o ≡ pairs) × ((n : ℕ) × (length o ≡ n + n))
pairs_found o pairs e =
    let p = cond_some (eqb (length o % 2) 0) o pairs e in
    let even : length o % 2 ≡ 0 = eqb-true (length o % 2) 0 p.0 in
    (p.1, (length o / 2, omega (arith, even)))

pub fields_found : (f : Form) (o : List ℕ) (x : Fields f) → IsOctets o → fields_in f o ≡ Some x → IsOf f o x
fields_found form.number o n fits e = number_found o n fits e
fields_found form.octet o n fits e = one_found o n e
fields_found form.two_octets o x fits e = two_found o x e
fields_found form.ended_text o text fits e = ended_found o text e
fields_found form.octets o x fits e = same_some o x e
fields_found form.revoker o x fits e = revoker_found o x e
fields_found form.key_id o id fits e = eight_found o id e
fields_found form.notation o x fits e = notation_found o x fits e
fields_found form.code_and_text o x fits e = behind_one_found o x e
fields_found form.target o x fits e = behind_two_found o x e
fields_found form.signature o body fits e = embedded_found o body fits e
fields_found form.fingerprint o x fits e = named_found o x e
fields_found form.pairs o x fits e = pairs_found o x e

-- ---- meanings

pub listed_form : (k : SubpacketKind) → IsListed k → (f : Form) × (form_of k ≡ Some f)
listed_form (kind.Other n) h = absurd h
listed_form k h = (_, refl)

form_listed : (k : SubpacketKind) (f : Form) → form_of k ≡ Some f → IsListed k
form_listed (kind.Other n) f e = absurd cc
form_listed k f e = tt

-- octets of a kind with a form have its fields, or none
pub meanings_are_read : (k : SubpacketKind) (o : List ℕ) → IsOctets o → Means k o (meaning_of k o)
unfolding meaning_of
meanings_are_read k o fits =
    elim (form_of k) as (λ (r : Option Form). form_of k ≡ r → Means k o (meaning_by k o r)) [
      | None ↦ λ e. (fits, λ listed. let f = listed_form k listed in absurd (let q = sym e ∙ f.1 in cc))
      | Some f ↦ λ e.
          elim (fields_in f o) as (λ (r : Option (Fields f)). fields_in f o ≡ r → Means k o (or_unfit (typed k f) r)) [
            | None ↦ λ n. (
              fits,
              form_listed k f e,
              λ m w.
                  subst (λ (j : Meaning). Writes k o j) (sym (written_read k o m fits w) ∙ ap (meaning_by k o) e ∙ ap (or_unfit (typed k f)) n) w,
            )
            | Some x ↦ λ s. (fits, (refl, e, fields_found f o x fits s))
          ] refl
    ] refl

-- what octets mean is what reading them gives
meant_read : (k : SubpacketKind) (o : List ℕ) (m : Meaning) → Means k o m → meaning_of k o ≡ m
unfolding meaning_of
meant_read k o unfit h =
    let f = listed_form k h.1 in
    ap (meaning_by k o) f.1
    ∙ (elim (fields_in f.0 o) as (λ (r : Option (Fields f.0)). fields_in f.0 o ≡ r → or_unfit (typed k f.0) r ≡ unfit) [
      | None ↦ λ e. refl
      | Some x ↦ λ e. absurd (h.2 (typed k f.0 x) (refl, f.1, fields_found f.0 o x h.0 e))
    ] refl)
meant_read k o unknown h =
    elim (form_of k) as (λ (r : Option Form). form_of k ≡ r → meaning_by k o r ≡ unknown) [
      | None ↦ λ e. refl
      | Some f ↦ λ e. absurd (h.1 (form_listed k f e))
    ] refl
meant_read k o (typed of f x) h = written_read k o (typed of f x) h.0 h.1

pub one_meaning : (k : SubpacketKind) (o : List ℕ) (m n : Meaning) → Means k o m → Means k o n → m ≡ n
one_meaning k o m n g h = sym (meant_read k o m g) ∙ meant_read k o n h

same_octets : (f : Form) (o p : List ℕ) (x : Fields f) → IsOf f o x → IsOf f p x → o ≡ p
same_octets form.number o p x g h = g.1 ∙ sym h.1
same_octets form.revoker o p x g h = g.0 ∙ sym h.0
same_octets form.key_id o p x g h = g.0 ∙ sym h.0
same_octets form.notation o p x g h = g.3 ∙ sym h.3
same_octets form.signature o p x g h = g.0 ∙ sym h.0
same_octets form.fingerprint o p x g h = g.0 ∙ sym h.0
same_octets form.pairs o p x g h = g.0 ∙ sym h.0
same_octets f o p x g h = g ∙ sym h

pub one_spelling : (k : SubpacketKind) (o p : List ℕ) (m : Meaning) → Writes k o m → Writes k p m → o ≡ p
one_spelling k o p (typed of f x) g h = same_octets f o p x g.2 h.2
one_spelling k o p unfit g h = absurd g
one_spelling k o p unknown g h = absurd g
