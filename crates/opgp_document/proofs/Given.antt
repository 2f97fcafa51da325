-- What a hasher of a document was given, a piece further and at its end.
use Rattle.std.proofs.Common.{◌≡◌, ◌⊎◌, ℕ, Bool, true, false, ◌&&◌, ◌||◌, true≢false, List, ◌++◌, refl, sym, ap, subst, ◌∙◌, append_assoc, inl, inr}
use Rattle.std.proofs.lemmas.Bool.{and_parts}
use Rattle.opgp_document.specs.Text.{HasText, to_text, ends_cr, has_stray}
use Rattle.opgp_document.specs.DocumentHasher.{IsGiven}
use Rattle.opgp_document.specs.HashedDocument.{IsHashedAs}
use Rattle.opgp_document.specs.declared.document_hasher.DocumentHasher.{DocumentHasher}
use Rattle.opgp_document.proofs.Text.{text_append, ends_append, stray_append, text_is_made, made_is_text}

pub or_then : (x y : Bool) → x ≡ true → true ≡ (x || y)
or_then x y h = rw h refl

pub or_else : (x y : Bool) → x ≡ false → y ≡ (x || y)
or_else x y h = rw h refl

pub both_false : (x y : Bool) → (x || y) ≡ false → (x ≡ false) × (y ≡ false)
both_false true y h = absurd (true≢false h)
both_false false y h = (refl, h)

-- a stray carriage return, or one at the end
pub no_text : (is_text : Bool) (d : List ℕ)
    → ((is_text && has_stray false d) ≡ true) ⊎ ((is_text && ends_cr false d) ≡ true)
    → (is_text ≡ true) × ((text : List ℕ) → HasText d text → ⊥)
no_text is_text d (inl h) =
    let p = and_parts is_text (has_stray false d) h in
    (p.0, λ text t. true≢false (sym p.1 ∙ (both_false (has_stray false d) (ends_cr false d) (text_is_made d text t).0).0))
no_text is_text d (inr h) =
    let p = and_parts is_text (ends_cr false d) h in
    (p.0, λ text t. true≢false (sym p.1 ∙ (both_false (has_stray false d) (ends_cr false d) (text_is_made d text t).0).1))

pub ended : {D : Type 0} (holds : D → List ℕ → Type 0) (h : DocumentHasher D) (is_text : Bool) (front d : List ℕ)
    → IsGiven holds h is_text front d → h.has_stray ≡ false → h.after_cr ≡ false
    → (shown : List ℕ) × IsHashedAs is_text d shown × holds h.hasher (front ++ shown)
ended holds h true front d g s a = (to_text false d, made_is_text d (sym g.stray ∙ s) (sym g.after ∙ a), g.held)
ended holds h false front d g s a = (d, refl, g.held)

pub pushed : {D : Type 0} (holds : D → List ℕ → Type 0) (h : DocumentHasher D) (fed : D) (after stray : Bool) (is_text : Bool)
    (front d piece : List ℕ) → IsGiven holds h is_text front d → h.is_text ≡ true
    → ((m : List ℕ) → holds h.hasher m → holds fed (m ++ to_text h.after_cr piece))
    → after ≡ ends_cr h.after_cr piece → stray ≡ (h.has_stray || has_stray h.after_cr piece)
    → IsGiven holds (record { hasher = fed; is_text = h.is_text; after_cr = after; has_stray = stray }) is_text front (d ++ piece)
pushed holds h fed after stray false front d piece g t feeds p q = absurd (true≢false (sym t ∙ g.kind))
pushed holds h fed after stray true front d piece g t feeds p q = record {
  kind = g.kind;
  held = subst (λ (m : List ℕ). holds fed m)
      (append_assoc front (to_text false d) (to_text h.after_cr piece)
      ∙ ap (λ (x : List ℕ). front ++ x) (ap (λ (a : Bool). to_text false d ++ to_text a piece) g.after ∙ sym (text_append false d piece)))
      (feeds (front ++ to_text false d) g.held);
  after = p ∙ ap (λ (a : Bool). ends_cr a piece) g.after ∙ sym (ends_append false d piece);
  stray = q ∙ ap (λ (x : Bool). x || has_stray h.after_cr piece) g.stray
      ∙ ap (λ (a : Bool). has_stray false d || has_stray a piece) g.after ∙ sym (stray_append false d piece);
}
