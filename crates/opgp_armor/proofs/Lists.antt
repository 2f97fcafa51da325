-- Lists in parts, and inversions.
use Rattle.std.proofs.Common.{◌≡◌, ℕ, true, List, [], ◌∷◌, ◌++◌, refl, sym, ap, ◌∙◌, inl, inr, subst, Some}
use Rattle.std.proofs.lemmas.List.{append-nil}
use Rattle.std.proofs.lemmas.List.Concat.{flat_map-append}
use Rattle.std.proofs.lemmas.Bool.{cases_Bool}
use Rattle.std.proofs.lemmas.Slice.Eq.{bytes_eq-Decides}
use Rattle.std.specs.List.{fold, flat_map, AllByRecursion}
use Rattle.std.specs.Str.{bytes_eq}
use Rattle.opgp_armor.specs.Rules.{LineRule}
use Rattle.opgp_armor.specs.declared.label.Label.{Label}
use Rattle.opgp_armor.specs.declared.label.Label.TheVariants.{Message, PublicKeyBlock, PrivateKeyBlock, Signature}
use Rattle.opgp_armor.specs.Text.{Line}
use Rattle.opgp_armor.specs.Armored.{label_at, ArePieces, IsPiece, Piece, Block, lines_of, blocks_of}

pub fold-both : {A B : Type 0} (f : B → A → B) (z : B) (a b : List A) → fold f z (a ++ b) ≡ fold f (fold f z a) b
fold-both f z [] b = refl
fold-both f z (x ∷ a) b = fold-both f (f z x) a b

pub recursion-append : {X : Type 0} (P : X → Type 0) (a b : List X) → AllByRecursion P a → AllByRecursion P b → AllByRecursion P (a ++ b)
recursion-append P [] b h k = k
recursion-append P (x ∷ a) b h k = (h.0, recursion-append P a b h.1 k)

-- two equal texts
pub same_text : (a b : List ℕ) → bytes_eq a b ≡ true → a ≡ b
same_text a b h = (bytes_eq-Decides a b).0 h

pub text_same : (a b : List ℕ) → a ≡ b → bytes_eq a b ≡ true
text_same a b h = (bytes_eq-Decides a b).1 h

pub label_at_some : (spelled : Label → List ℕ) (c : List ℕ) (l : Label) → label_at spelled c ≡ Some l → c ≡ spelled l
label_at_some spelled c l h = elim (cases_Bool (bytes_eq c (spelled Message))) [
  | inl y ↦ let e : Message ≡ l = cc (rw y at h) in subst (λ (v : Label). c ≡ spelled v) e (same_text c _ y)
  | inr n ↦ elim (cases_Bool (bytes_eq c (spelled PublicKeyBlock))) [
    | inl y ↦ let e : PublicKeyBlock ≡ l = cc (rw (n, y) at h) in subst (λ (v : Label). c ≡ spelled v) e (same_text c _ y)
    | inr n2 ↦ elim (cases_Bool (bytes_eq c (spelled PrivateKeyBlock))) [
      | inl y ↦ let e : PrivateKeyBlock ≡ l = cc (rw (n, n2, y) at h) in subst (λ (v : Label). c ≡ spelled v) e (same_text c _ y)
      | inr n3 ↦ elim (cases_Bool (bytes_eq c (spelled Signature))) [
        | inl y ↦ let e : Signature ≡ l = cc (rw (n, n2, n3, y) at h) in subst (λ (v : Label). c ≡ spelled v) e (same_text c _ y)
        | inr n4 ↦ cc (rw (n, n2, n3, n4) at h)
      ]
    ]
  ]
]

-- one piece more
pub piece_more : (rule : LineRule) (ls part : List Line) (blocks more : List Block) (p : Piece) → ArePieces rule ls blocks → IsPiece rule p
    → part ≡ lines_of p → more ≡ blocks_of p → ArePieces rule (ls ++ part) (blocks ++ more)
piece_more rule ls part blocks more p are is lines_are blocks_are = record {
  pieces = are.pieces ++ p ∷ [];
  each = recursion-append (IsPiece rule) are.pieces (p ∷ []) are.each (is, tt);
  are = rw (lines_are, are.are) (sym (flat_map-append lines_of are.pieces (p ∷ []) ∙ ap (λ (v : List Line). flat_map lines_of are.pieces ++ v) (append-nil (lines_of p))));
  blocks_are = rw (blocks_are, are.blocks_are) (sym (flat_map-append blocks_of are.pieces (p ∷ []) ∙ ap (λ (v : List Block). flat_map blocks_of are.pieces ++ v) (append-nil (blocks_of p))));
}
