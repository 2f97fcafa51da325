-- Faults of what is behind a cleartext message's document.
use Rattle.std.proofs.Common.{◌≡◌, ◌∙◌, ℕ, ◌+◌, ◌≤◌, ◌==◌, true, false, List, [], ◌∷◌, ◌++◌, length, Err, refl, ap, subst, inl, inr, arith}
use Rattle.std.proofs.lemmas.Bool.{cases_Bool, eqb-true}
use Rattle.opgp_octets.specs.declared.fault.Fault.{Fault}
use Rattle.opgp_octets.specs.declared.fault.Layer.TheVariants as layer
use Rattle.opgp_octets.specs.declared.limits.Limits.{Limits}
use Rattle.opgp_armor.specs.Armored.{IsArmorFault}
use Rattle.opgp_armor.specs.Cuts.{is_plain}
use Rattle.opgp_armor.specs.Rules.{line_rule}
use Rattle.opgp_armor.specs.Text.{Line, lines, offset, onto}
use Rattle.opgp_armor.proofs.Texts.{lines-cons, lines-feed, lines-nil}
use Rattle.opgp_keyring.specs.Composition.{Item, of_label, of_packet}
use Rattle.opgp_keyring.specs.Detached.{IsDetachedFaultAt}
use Rattle.opgp_cleartext.proofs.Grammar.{offset-append}
use Rattle.opgp_codec.specs.declared.mode.Mode.TheVariants.{Armor}
use Rattle.opgp_codec.specs.Reading.{AnswerOf, at_length, at_armor, at_framing, at_top, FirstFault, TextBlock, too_long}
use Rattle.opgp_codec.specs.Signatures.{AreDetachedSignatures, signature_label}

-- ---- places of lines
onto_offset : (c : ℕ) (ls : List Line) (n : ℕ) → offset ls ≤ n + 1 → offset (onto c ls) ≤ n + 2
onto_offset c [] n h = omega arith
onto_offset c (l ∷ ls) n h = omega arith

other_plain : (c : ℕ) → (c == 10) ≡ false → is_plain c ≡ true
other_plain c n = rw n refl

lines_offset : (text : List ℕ) → offset (lines text) ≤ length text + 1
lines_offset [] = omega (arith, ap offset lines-nil)
lines_offset (c ∷ text) = elim (cases_Bool (c == 10)) [
  | inl y ↦
      let e : lines (c ∷ text) ≡ [] ∷ lines text = ap (λ (v : ℕ). lines (v ∷ text)) (eqb-true c 10 y) ∙ lines-feed text in
      omega (arith, ap offset e, lines_offset text)
  | inr n ↦ omega (arith, ap offset (lines-cons c text (other_plain c n)), onto_offset c (lines text) (length text) (lines_offset text))
]

pub line_within : (text : List ℕ) (before : List Line) (line : Line) (after : List Line) → lines text ≡ before ++ line ∷ after → offset before ≤ length text
line_within text before line after e = omega (arith, lines_offset text, ap offset e, offset-append before (line ∷ after))

armor_within : (strict : Limits) (rest : List ℕ) (f : Fault) → IsArmorFault (line_rule strict) rest f → f.pos ≤ length rest
armor_within strict rest f h = elim h.found [
  | inl k ↦ omega (arith, k.pos_is, line_within rest k.before k.line k.after k.are)
  | inr k ↦ omega (arith, k.pos_is)
]

-- ---- faults of the other layers
framing_layer : (strict : Limits) (n : ℕ) (bs : List TextBlock) (f : Fault) → FirstFault strict n bs f → f.layer ≡ layer.Framing
framing_layer strict n [] f h = absurd h
framing_layer strict n (b ∷ bs) f (inl h) = h.layer
framing_layer strict n (b ∷ bs) f (inr h) = framing_layer strict (n + 1) bs f h.2

stops_layer : (i : Item) (f : Fault) → IsDetachedFaultAt i f → f.layer ≡ layer.Armor → ⊥
stops_layer (of_label block fits) f h a = let e = ap (λ (x : Fault). x.layer) h.1 in cc
stops_layer (of_packet p) f h a = let e = ap (λ (x : Fault). x.layer) h.1 in cc

top_layer : (strict : Limits) (items : List Item) (f : Fault) → AreDetachedSignatures strict items (Err f) → f.layer ≡ layer.Armor → ⊥
top_layer strict items f (inl h) a = let e = ap (λ (x : Fault). x.layer) h.is in cc
top_layer strict items f (inr h) a = elim h.1 [
  | inl k ↦ stops_layer k.at f k.here a
  | inr k ↦ let e = ap (λ (x : Fault). x.layer) k.is in cc
]

-- a fault of the armor is at a line of the text, or at its end
pub rest_within : (strict : Limits) (rest : List ℕ) (f : Fault) → AnswerOf signature_label (AreDetachedSignatures strict) Armor strict rest (Err f) → f.layer ≡ layer.Armor
    → f.pos ≤ length rest
rest_within strict rest f (at_length x e) a =
    let g : f ≡ too_long strict = cc in
    let b = ap (λ (y : Fault). y.layer) g in
    absurd cc
rest_within strict rest f (at_armor x g h e) a =
    let same : g ≡ f = cc in
    armor_within strict rest f (subst (IsArmorFault (line_rule strict) rest) same h)
rest_within strict rest f (at_framing x bs h g i e) a =
    let same : f ≡ g = cc in
    let b = ap (λ (y : Fault). y.layer) same ∙ framing_layer strict 0 bs g i in
    absurd cc
rest_within strict rest f (at_top x bs h items i t) a = absurd (top_layer strict items f t a)
