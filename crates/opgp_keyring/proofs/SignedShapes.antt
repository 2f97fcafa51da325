-- How far packets have come that begin a signed literal, by their types.
use Rattle.std.proofs.Common.{◌≡◌, ℕ, suc, zero, ◌+◌, ◌-◌, ◌<◌, Bool, true, false, not, cond, ◌⊎◌, inl, inr, List, [], ◌∷◌, ◌++◌, map, replicate, length, refl, sym, ap, ◌∙◌, append_assoc, arith}
use Rattle.std.specs.List.{filter}
use Rattle.std.proofs.lemmas.Bool.{eqb-true, eqb-false}
use Rattle.std.proofs.lemmas.List.{map-append, replicate-append-replicate, replicate_more, length-replicate}
use Rattle.std.proofs.lemmas.List.Elements.{filter-append}
use Rattle.opgp_frame.specs.declared.form.Form.TheVariants.{OldOne}
use Rattle.opgp_frame.specs.Packet.{PacketValue}
use Rattle.opgp_octets.specs.PacketType.{packet_type_of, packet_type_number}
use Rattle.opgp_octets.specs.declared.packet_type.PacketType.{PacketType}
use Rattle.opgp_octets.specs.declared.packet_type.PacketType.TheVariants.{Signature, OnePassSignature, LiteralData}
use Rattle.opgp_keyring.specs.declared.shape.Shape.{Shape}
use Rattle.opgp_keyring.specs.declared.shape.Shape.TheVariants.{Opening, Closing}
use Rattle.opgp_keyring.specs.Keyring.{is_filler}
use Rattle.opgp_keyring.specs.Shape.{IsClosing, Stands, is_whole}
use Rattle.opgp_keyring.specs.Signed.{types_of, signed_types, IsSigned, BeginsSigned}

-- ---- types, with one more packet

pub types-append : (xs ys : List PacketValue) → types_of (xs ++ ys) ≡ types_of xs ++ types_of ys
types-append xs ys =
    let type : PacketValue → ℕ = λ p. p.kind in
    ap (filter (λ k. not (is_filler k))) (map-append type xs ys) ∙ filter-append (λ k. not (is_filler k)) (map type xs) (map type ys)

types-one : (p : PacketValue) → is_filler p.kind ≡ false → types_of (p ∷ []) ≡ p.kind ∷ []
types-one p e = ap (λ (b : Bool). cond (not b) (p.kind ∷ []) []) e

pub types-push : (ps : List PacketValue) (p : PacketValue) → is_filler p.kind ≡ false → types_of (ps ++ p ∷ []) ≡ types_of ps ++ p.kind ∷ []
types-push ps p e = types-append ps (p ∷ []) ∙ ap (λ (l : List ℕ). types_of ps ++ l) (types-one p e)

types-behind : (ps more : List PacketValue) (p : PacketValue) → is_filler p.kind ≡ false → types_of ((ps ++ p ∷ []) ++ more) ≡ types_of ps ++ p.kind ∷ types_of more
types-behind ps more p e =
    types-append (ps ++ p ∷ []) more ∙ ap (λ (l : List ℕ). l ++ types_of more) (types-push ps p e) ∙ append_assoc (types_of ps) (p.kind ∷ []) (types_of more)

-- ---- what follows where

apart : (a b : ℕ) → a ≡ b → a < b → ⊥
apart a b e h = absurd (omega arith)

-- behind one-pass signatures comes one more, or the literal
behind_opened : (n m k : ℕ) (rest ts : List ℕ) → replicate n 4 ++ k ∷ rest ≡ replicate m 4 ++ 11 ∷ ts → (k ≡ 4) ⊎ ((k ≡ 11) × (n ≡ m))
behind_opened zero zero k rest ts e = let h : k ≡ 11 = cc in inr (h, refl)
behind_opened zero (suc m) k rest ts e = let h : k ≡ 4 = cc in inl h
behind_opened (suc n) zero k rest ts e = let h : 4 ≡ 11 = cc in absurd (apart 4 11 h (omega arith))
behind_opened (suc n) (suc m) k rest ts e =
    let tail : replicate n 4 ++ k ∷ rest ≡ replicate m 4 ++ 11 ∷ ts = cc in
    elim (behind_opened n m k rest ts tail) [ inl a ↦ inl a | inr b ↦ inr (b.0, ap suc b.1) ]

-- the literal has one place
behind_literal : (n m : ℕ) (us ts : List ℕ) → replicate n 4 ++ 11 ∷ us ≡ replicate m 4 ++ 11 ∷ ts → (n ≡ m) × (us ≡ ts)
behind_literal zero zero us ts e = let h : us ≡ ts = cc in (refl, h)
behind_literal zero (suc m) us ts e = let h : 11 ≡ 4 = cc in absurd (apart 4 11 (sym h) (omega arith))
behind_literal (suc n) zero us ts e = let h : 4 ≡ 11 = cc in absurd (apart 4 11 h (omega arith))
behind_literal (suc n) (suc m) us ts e =
    let tail : replicate n 4 ++ 11 ∷ us ≡ replicate m 4 ++ 11 ∷ ts = cc in
    let again = behind_literal n m us ts tail in
    (ap suc again.0, again.1)

-- behind signatures comes one more
behind_signatures : (d m k : ℕ) (rest : List ℕ) → replicate d 2 ++ k ∷ rest ≡ replicate m 2 → (k ≡ 2) × (d < m)
behind_signatures zero zero k rest e = absurd cc
behind_signatures zero (suc m) k rest e = let h : k ≡ 2 = cc in (h, omega arith)
behind_signatures (suc d) zero k rest e = absurd cc
behind_signatures (suc d) (suc m) k rest e =
    let tail : replicate d 2 ++ k ∷ rest ≡ replicate m 2 = cc in
    let again = behind_signatures d m k rest tail in
    (again.0, omega (arith, again.1))

-- without a literal they aren't whole
no_literal : (n m : ℕ) (ts : List ℕ) → replicate n 4 ≡ replicate m 4 ++ 11 ∷ ts → ⊥
no_literal zero zero ts e = cc
no_literal zero (suc m) ts e = cc
no_literal (suc n) zero ts e = let h : 4 ≡ 11 = cc in apart 4 11 h (omega arith)
no_literal (suc n) (suc m) ts e = let tail : replicate n 4 ≡ replicate m 4 ++ 11 ∷ ts = cc in no_literal n m ts tail

-- ---- where no signed literal begins any more

pub open_ends : (n : ℕ) (ps : List PacketValue) (p : PacketValue) → is_filler p.kind ≡ false → types_of ps ≡ replicate n 4 → (p.kind ≡ 4 → ⊥) → (p.kind ≡ 11 → n ≡ 0) → BeginsSigned (ps ++ p ∷ []) → ⊥
open_ends n ps p e t one literal (more, w) =
    let whole : replicate n 4 ++ p.kind ∷ types_of more ≡ signed_types w.signatures = ap (λ (l : List ℕ). l ++ p.kind ∷ types_of more) (sym t) ∙ sym (types-behind ps more p e) ∙ w.whole in
    elim (behind_opened n w.signatures p.kind (types_of more) (replicate w.signatures 2) whole) [ inl a ↦ one a | inr b ↦ let none : n ≡ 0 = literal b.0 in absurd (omega (arith, w.some, b.1)) ]

pub close_ends : (left : ℕ) (ps : List PacketValue) (p : PacketValue) → is_filler p.kind ≡ false → IsClosing left ps → (p.kind ≡ 2 → left ≡ 0) → BeginsSigned (ps ++ p ∷ []) → ⊥
close_ends left ps p e c signature (more, w) =
    let rest : List ℕ = p.kind ∷ types_of more in
    let whole : replicate (c.done + left) 4 ++ 11 ∷ (replicate c.done 2 ++ rest) ≡ signed_types w.signatures =
    sym (append_assoc (replicate (c.done + left) 4) (11 ∷ replicate c.done 2) rest) ∙ ap (λ (l : List ℕ). l ++ rest) (sym c.whole) ∙ sym (types-behind ps more p e) ∙ w.whole in
    let at = behind_literal (c.done + left) w.signatures (replicate c.done 2 ++ rest) (replicate w.signatures 2) whole in
    let next = behind_signatures c.done w.signatures p.kind (types_of more) at.1 in
    let none : left ≡ 0 = signature next.0 in
    absurd (omega (arith, at.0, next.1))

-- ---- what has come so far begins one

like : ℕ → PacketValue
like k = record { form = OldOne; kind = k; body = [] }

types-signatures : (n : ℕ) → types_of (replicate n (like 2)) ≡ replicate n 2
unfolding like
types-signatures zero = refl
types-signatures (suc n) = ap (λ (l : List ℕ). 2 ∷ l) (types-signatures n)

open_begins : (n : ℕ) (ps : List PacketValue) → types_of ps ≡ replicate n 4 → BeginsSigned ps
unfolding like
open_begins n ps t =
    let more : List PacketValue = like 4 ∷ like 11 ∷ replicate (n + 1) (like 2) in
    let last : types_of more ≡ 4 ∷ 11 ∷ replicate (n + 1) 2 = ap (λ (l : List ℕ). 4 ∷ 11 ∷ l) (types-signatures (n + 1)) in
    let whole : types_of (ps ++ more) ≡ signed_types (n + 1) =
    types-append ps more ∙ ap (λ (l : List ℕ). l ++ types_of more) t ∙ ap (λ (l : List ℕ). replicate n 4 ++ l) last
    ∙ sym (append_assoc (replicate n 4) (4 ∷ []) (11 ∷ replicate (n + 1) 2)) ∙ ap (λ (l : List ℕ). l ++ 11 ∷ replicate (n + 1) 2) (replicate_more n 4) in
    (more, record { signatures = n + 1; some = omega arith; whole = whole })

close_begins : (left : ℕ) (ps : List PacketValue) → IsClosing left ps → BeginsSigned ps
close_begins left ps c =
    let more : List PacketValue = replicate left (like 2) in
    let whole : types_of (ps ++ more) ≡ signed_types (c.done + left) =
    types-append ps more ∙ ap (λ (l : List ℕ). l ++ types_of more) c.whole ∙ ap (λ (l : List ℕ). (replicate (c.done + left) 4 ++ 11 ∷ replicate c.done 2) ++ l) (types-signatures left)
    ∙ append_assoc (replicate (c.done + left) 4) (11 ∷ replicate c.done 2) (replicate left 2)
    ∙ ap (λ (l : List ℕ). replicate (c.done + left) 4 ++ 11 ∷ l) (replicate-append-replicate c.done left 2) in
    (more, record { signatures = c.done + left; some = c.some; whole = whole })

pub begins : (s : Shape) (ps : List PacketValue) → Stands s ps → BeginsSigned ps
begins (Opening n) ps t = open_begins n ps t
begins (Closing left) ps c = close_begins left ps c

-- ---- whole or not

whole_closing : (left : ℕ) (ps : List PacketValue) → left ≡ 0 → IsClosing left ps → IsSigned ps
whole_closing left ps e c =
    let all : c.done + left ≡ c.done = omega arith in
    record { signatures = c.done; some = omega (arith, c.some); whole = c.whole ∙ ap (λ (n : ℕ). replicate n 4 ++ 11 ∷ replicate c.done 2) all }

lacking : (left : ℕ) (ps : List PacketValue) → 0 < left → IsClosing left ps → IsSigned ps → ⊥
lacking left ps h c w =
    let at = behind_literal (c.done + left) w.signatures (replicate c.done 2) (replicate w.signatures 2) (sym c.whole ∙ w.whole) in
    let same : c.done ≡ w.signatures = sym (length-replicate c.done 2) ∙ ap (length {A = ℕ}) at.1 ∙ length-replicate w.signatures 2 in
    absurd (omega (arith, at.0))

pub whole : (s : Shape) (ps : List PacketValue) → Stands s ps → is_whole s ≡ true → IsSigned ps
whole (Opening n) ps t e = absurd cc
whole (Closing left) ps c e = whole_closing left ps (eqb-true left 0 e) c

pub lacks : (s : Shape) (ps : List PacketValue) → Stands s ps → is_whole s ≡ false → IsSigned ps → ⊥
lacks (Opening n) ps t e w = no_literal n w.signatures (replicate w.signatures 2) (sym t ∙ w.whole)
lacks (Closing left) ps c e w = let some : left ≡ 0 → ⊥ = eqb-false left 0 e in lacking left ps (omega (arith, some)) c w

-- ---- the types of some numbers

another : (t u : PacketType) (k n : ℕ) → t ≡ packet_type_of k → packet_type_of n ≡ u → (t ≡ u → ⊥) → k ≡ n → ⊥
another t u k n of here none e = none (of ∙ ap packet_type_of e ∙ here)

pub no_one_pass : (t : PacketType) (k : ℕ) → t ≡ packet_type_of k → (t ≡ OnePassSignature → ⊥) → k ≡ 4 → ⊥
unfolding packet_type_of
no_one_pass t k of none e = another t OnePassSignature k 4 of refl none e

pub no_literal_type : (t : PacketType) (k : ℕ) → t ≡ packet_type_of k → (t ≡ LiteralData → ⊥) → k ≡ 11 → ⊥
unfolding packet_type_of
no_literal_type t k of none e = another t LiteralData k 11 of refl none e

pub no_signature : (t : PacketType) (k : ℕ) → t ≡ packet_type_of k → (t ≡ Signature → ⊥) → k ≡ 2 → ⊥
unfolding packet_type_of
no_signature t k of none e = another t Signature k 2 of refl none e

pub signature_number : (t : PacketType) (k : ℕ) → packet_type_number t ≡ k → t ≡ Signature → k ≡ 2
signature_number t k number is = sym number ∙ ap packet_type_number is

-- ---- behind the literal

pub closes : (left : ℕ) (ps : List PacketValue) (p : PacketValue) → is_filler p.kind ≡ false → p.kind ≡ 2 → 0 < left → IsClosing left ps → IsClosing (left - 1) (ps ++ p ∷ [])
closes left ps p e signature h c =
    let count : (c.done + 1) + (left - 1) ≡ c.done + left = omega arith in
    record {
      done = c.done + 1;
      some = omega arith;
      whole = types-push ps p e ∙ ap (λ (k : ℕ). types_of ps ++ k ∷ []) signature ∙ ap (λ (l : List ℕ). l ++ 2 ∷ []) c.whole
          ∙ append_assoc (replicate (c.done + left) 4) (11 ∷ replicate c.done 2) (2 ∷ []) ∙ ap (λ (l : List ℕ). replicate (c.done + left) 4 ++ 11 ∷ l) (replicate_more c.done 2)
          ∙ ap (λ (n : ℕ). replicate n 4 ++ 11 ∷ replicate (c.done + 1) 2) (sym count);
    }
