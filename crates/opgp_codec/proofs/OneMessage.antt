-- A text has one result as a cleartext message with its signatures.
use Rattle.std.proofs.Common.{◌≡◌, ◌∙◌, ℕ, ◌≤◌, List, length, drop, Err, refl, sym, ap, subst, inl, inr, arith}
use Rattle.std.proofs.lemmas.Bool.{cases_lt}
use Rattle.std.proofs.lemmas.List.{length-drop}
use Rattle.opgp_octets.proofs.Bytes.{IsOctets-drop}
use Rattle.opgp_octets.specs.Octets.{IsOctets}
use Rattle.opgp_octets.specs.Limits.{input_limit, line_limit}
use Rattle.opgp_octets.specs.declared.fault.Fault.{Fault}
use Rattle.opgp_octets.specs.declared.fault.Layer.TheVariants as layer
use Rattle.opgp_octets.specs.declared.fault.Reason.{Reason}
use Rattle.opgp_octets.specs.declared.limits.Limits.{Limits}
use Rattle.opgp_armor.specs.Text.{offset}
use Rattle.opgp_frame.specs.Packet.{PacketValue}
use Rattle.opgp_cleartext.specs.Cleartext.{HasCleartext}
use Rattle.opgp_cleartext.specs.Faults.{CleartextFault, IsCleartextFault}
use Rattle.opgp_cleartext.proofs.Whole.{either, err_same, fault_read, message_read, ok_same}
use Rattle.opgp_codec.specs.declared.mode.Mode.{Mode}
use Rattle.opgp_codec.specs.declared.mode.Mode.TheVariants.{Armor}
use Rattle.opgp_codec.specs.Cleartext.{AnswerOfRest, CleartextAnswer, SignedLines, at_length, at_lines, at_rest, of_rest}
use Rattle.opgp_codec.specs.Reading.{AnswerOf, Outcome, too_long}
use Rattle.opgp_codec.specs.Signatures.{AreDetachedSignatures, signature_label}
use Rattle.opgp_codec.proofs.Cleartexts.{line_within}
use Rattle.opgp_codec.proofs.Strict.{one_strict, strict_is, strict_of}

-- ---- faults of lines
same_fault : (f g : Fault) → f.layer ≡ g.layer → f.reason ≡ g.reason → f.block ≡ g.block → f.pos ≡ g.pos → f.inner ≡ g.inner → f ≡ g
same_fault f g l r b p i =
    ap (λ x. record { layer = x; reason = f.reason; block = f.block; pos = f.pos; inner = f.inner }) l
    ∙ ap (λ x. record { layer = g.layer; reason = x; block = f.block; pos = f.pos; inner = f.inner }) r
    ∙ ap (λ x. record { layer = g.layer; reason = g.reason; block = x; pos = f.pos; inner = f.inner }) b
    ∙ ap (λ x. record { layer = g.layer; reason = g.reason; block = g.block; pos = x; inner = f.inner }) p
    ∙ ap (λ x. record { layer = g.layer; reason = g.reason; block = g.block; pos = g.pos; inner = x }) i

one_fault : (most : ℕ) (text : List ℕ) (f g : Fault) → IsCleartextFault most text f → IsCleartextFault most text g → f ≡ g
one_fault most text f g h k =
    let e = err_same f.reason g.reason f.pos g.pos (sym (fault_read most text f.reason f.pos h.found) ∙ fault_read most text g.reason g.pos k.found) in
    same_fault f g (h.layer_is ∙ sym k.layer_is) e.0 (h.block_is ∙ sym k.block_is) e.1 (h.inner_is ∙ sym k.inner_is)

not_both : (most : ℕ) (text : List ℕ) (d : List (List ℕ)) (r : List ℕ) (f : Fault) → HasCleartext most text d r → IsCleartextFault most text f → ⊥
not_both most text d r f h k = let e = sym (message_read most text d r h) ∙ fault_read most text f.reason f.pos k.found in cc

-- ---- the rest
one_place : (most : ℕ) (text : List ℕ) (d e : List (List ℕ)) (p q : ℕ) → p ≤ length text → q ≤ length text → HasCleartext most text d (drop p text) → HasCleartext most text e (drop q text)
    → (d ≡ e) × (p ≡ q)
one_place most text d e p q m n h k =
    let same = ok_same d e (offset h.front) (offset k.front) (sym (message_read most text d (drop p text) h) ∙ message_read most text e (drop q text) k) in
    let rests : drop p text ≡ drop q text = h.rest_is ∙ ap (λ (x : ℕ). drop x text) same.1 ∙ sym k.rest_is in
    (same.0, omega (arith, m, n, ap (length {A = ℕ}) rests, length-drop p text, length-drop q text))

abbrev OneRest : Type 0
OneRest = (mode : Mode) (limits : Limits) (input : List ℕ) → IsOctets input → (a b : Outcome (List PacketValue))
    → AnswerOf signature_label (AreDetachedSignatures limits) mode limits input a → AnswerOf signature_label (AreDetachedSignatures limits) mode limits input b → a ≡ b

one_rest : OneRest → (limits : Limits) (rest : List ℕ) → IsOctets rest → (a b : Outcome (List PacketValue)) → AnswerOfRest limits rest a → AnswerOfRest limits rest b → a ≡ b
one_rest one limits rest octets a b h k =
    one Armor k.strict rest octets a b
    (subst (λ (s : Limits). AnswerOf {A = List PacketValue} signature_label (AreDetachedSignatures s) Armor s rest a) (one_strict limits h.strict k.strict h.are_strict k.are_strict) h.is) k.is

pub one_message : OneRest → (limits : Limits) (text : List ℕ) → IsOctets text → (a b : Outcome SignedLines) → CleartextAnswer limits text a → CleartextAnswer limits text b → a ≡ b
one_message one limits text octets a b (at_length x e) (at_length y d) = e ∙ sym d
one_message one limits text octets a b (at_length x e) (at_lines y g k d) = absurd (omega arith)
one_message one limits text octets a b (at_length x e) (at_rest y ls q n k g v d) = absurd (omega arith)
one_message one limits text octets a b (at_lines x f h e) (at_length y d) = absurd (omega arith)
one_message one limits text octets a b (at_lines x f h e) (at_lines y g k d) = e ∙ ap Err (one_fault (line_limit limits) text f g h k) ∙ sym d
one_message one limits text octets a b (at_lines x f h e) (at_rest y ls q n k g v d) = absurd (not_both (line_limit limits) text ls (drop q text) f k h)
one_message one limits text octets a b (at_rest x ds p m h f u e) (at_length y d) = absurd (omega arith)
one_message one limits text octets a b (at_rest x ds p m h f u e) (at_lines y g k d) = absurd (not_both (line_limit limits) text ds (drop p text) g h k)
one_message one limits text octets a b (at_rest x ds p m h f u e) (at_rest y ls q n k g v d) =
    let place = one_place (line_limit limits) text ds ls p q m n h k in
    let found : f ≡ g = one_rest one limits (drop q text) (IsOctets-drop q text octets) f g (subst (λ (z : ℕ). AnswerOfRest limits (drop z text) f) place.1 u) v in
    e ∙ ap (λ (z : List (List ℕ)). of_rest z p f) place.0 ∙ ap (λ (z : ℕ). of_rest ls z f) place.1 ∙ ap (of_rest ls q) found ∙ sym d

-- ---- and some
abbrev SomeRest : Type 0
SomeRest = (mode : Mode) (limits : Limits) (input : List ℕ) → IsOctets input → (a : Outcome (List PacketValue)) × AnswerOf signature_label (AreDetachedSignatures limits) mode limits input a

abbrev SomeMessage : Limits → List ℕ → Type 0
SomeMessage limits text = (a : Outcome SignedLines) × CleartextAnswer limits text a

of_message : SomeRest → (limits : Limits) (text : List ℕ) → IsOctets text → length text ≤ input_limit limits → (d : List (List ℕ)) (r : List ℕ) → HasCleartext (line_limit limits) text d r
    → SomeMessage limits text
of_message some limits text octets m d r h =
    let place : ℕ = offset h.front in
    let rest = some Armor (strict_of limits) (drop place text) (IsOctets-drop place text octets) in
    let is = subst (λ (x : List ℕ). HasCleartext (line_limit limits) text d x) h.rest_is h in (
      of_rest d place rest.0,
      at_rest m d place (line_within text h.front h.signature h.more h.are) is rest.0 (record { strict = strict_of limits; are_strict = strict_is limits; is = rest.1 }) refl,
    )

fault_made : (most : ℕ) (text : List ℕ) (why : Reason) (pos : ℕ) → CleartextFault most text why pos
    → IsCleartextFault most text (record { layer = layer.Cleartext; reason = why; block = 0; pos = pos; inner = 0 })
fault_made most text why pos h = record { layer_is = refl; block_is = refl; inner_is = refl; found = h }

pub some_message : SomeRest → (limits : Limits) (text : List ℕ) → IsOctets text → SomeMessage limits text
some_message some limits text octets = elim (cases_lt (input_limit limits) (length text)) [
  | inl long ↦ (Err (too_long limits), at_length long refl)
  | inr short ↦ elim (either (line_limit limits) text) [
    | inl m ↦ of_message some limits text octets short m.0 m.1 m.2
    | inr f ↦ (Err (record { layer = layer.Cleartext; reason = f.0; block = 0; pos = f.1; inner = 0 }), at_lines short _ (fault_made (line_limit limits) text f.0 f.1 f.2) refl)
  ]
]
