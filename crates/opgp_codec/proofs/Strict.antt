-- Limits that are alike.
use Rattle.std.proofs.Common.{◌≡◌, ◌∙◌, ℕ, refl, sym, ap, subst}
use Rattle.std.proofs.Math.Bridge.{le_prop}
use Rattle.opgp_octets.specs.Ranges.{AreAllowed}
use Rattle.opgp_octets.specs.declared.limits.Limits.{Limits}
use Rattle.opgp_octets.specs.declared.malformed.Malformed.{Malformed}
use Rattle.opgp_octets.specs.declared.outside.Outside.{Outside}
use Rattle.opgp_octets.specs.declared.outside.Outside.TheVariants as policy
use Rattle.opgp_codec.specs.Cleartext.{AreStrict}

is_once : (line body cert input pieces : ℕ) → IsProp (AreAllowed line body cert input pieces)
is_once line body cert input pieces = hlevel (le_prop)

allowed_once : (line body cert input pieces : ℕ) (x y : AreAllowed line body cert input pieces) → x ≡ y
allowed_once line body cert input pieces = is_once line body cert input pieces

abbrev made : (line body cert input pieces : ℕ) (outside : Outside) (malformed : Malformed) → AreAllowed line body cert input pieces → Limits
made line body cert input pieces outside malformed allowed = record {
  line = line;
  body = body;
  cert = cert;
  input = input;
  pieces = pieces;
  outside = outside;
  malformed = malformed;
  allowed = allowed;
}

same_pieces : (l b c i p q : ℕ) (o : Outside) (m : Malformed) → p ≡ q → (x : AreAllowed l b c i p) (y : AreAllowed l b c i q) → made l b c i p o m x ≡ made l b c i q o m y
same_pieces l b c i p q o m e x =
    subst (λ (n : ℕ). (y : AreAllowed l b c i n) → made l b c i p o m x ≡ made l b c i n o m y) e (λ y. ap (made l b c i p o m) (allowed_once l b c i p x y))

same_input : (l b c i j p q : ℕ) (o : Outside) (m : Malformed) → i ≡ j → p ≡ q → (x : AreAllowed l b c i p) (y : AreAllowed l b c j q) → made l b c i p o m x ≡ made l b c j q o m y
same_input l b c i j p q o m e f x =
    subst (λ (n : ℕ). (y : AreAllowed l b c n q) → made l b c i p o m x ≡ made l b c n q o m y) e (same_pieces l b c i p q o m f x)

same_cert : (l b c d i j p q : ℕ) (o : Outside) (m : Malformed) → c ≡ d → i ≡ j → p ≡ q → (x : AreAllowed l b c i p) (y : AreAllowed l b d j q) → made l b c i p o m x ≡ made l b d j q o m y
same_cert l b c d i j p q o m e f g x =
    subst (λ (n : ℕ). (y : AreAllowed l b n j q) → made l b c i p o m x ≡ made l b n j q o m y) e (same_input l b c i j p q o m f g x)

same_body : (l a b c d i j p q : ℕ) (o : Outside) (m : Malformed) → a ≡ b → c ≡ d → i ≡ j → p ≡ q → (x : AreAllowed l a c i p) (y : AreAllowed l b d j q)
    → made l a c i p o m x ≡ made l b d j q o m y
same_body l a b c d i j p q o m e f g h x =
    subst (λ (n : ℕ). (y : AreAllowed l n d j q) → made l a c i p o m x ≡ made l n d j q o m y) e (same_cert l a c d i j p q o m f g h x)

same_line : (k l a b c d i j p q : ℕ) (o : Outside) (m : Malformed) → k ≡ l → a ≡ b → c ≡ d → i ≡ j → p ≡ q → (x : AreAllowed k a c i p) (y : AreAllowed l b d j q)
    → made k a c i p o m x ≡ made l b d j q o m y
same_line k l a b c d i j p q o m r e f g h x =
    subst (λ (n : ℕ). (y : AreAllowed n b d j q) → made k a c i p o m x ≡ made n b d j q o m y) r (same_body k a b c d i j p q o m e f g h x)

alike : (s t : Limits) → s.line ≡ t.line → s.body ≡ t.body → s.cert ≡ t.cert → s.input ≡ t.input → s.pieces ≡ t.pieces → s.outside ≡ t.outside → s.malformed ≡ t.malformed → s ≡ t
alike s t l b c i p o m =
    ap (λ (x : Outside). made s.line s.body s.cert s.input s.pieces x s.malformed s.allowed) o
    ∙ ap (λ (x : Malformed). made s.line s.body s.cert s.input s.pieces t.outside x s.allowed) m
    ∙ same_line s.line t.line s.body t.body s.cert t.cert s.input t.input s.pieces t.pieces t.outside t.malformed l b c i p s.allowed t.allowed

-- there are no two strict limits of the same ones
pub one_strict : (limits s t : Limits) → AreStrict limits s → AreStrict limits t → s ≡ t
one_strict limits s t a b =
    alike s t (a.line ∙ sym b.line) (a.body ∙ sym b.body) (a.cert ∙ sym b.cert) (a.input ∙ sym b.input) (a.pieces ∙ sym b.pieces)
    (a.outside ∙ sym b.outside) (a.malformed ∙ sym b.malformed)

pub strict_of : Limits → Limits
strict_of limits = made limits.line limits.body limits.cert limits.input limits.pieces policy.Refuse limits.malformed limits.allowed

pub strict_is : (limits : Limits) → AreStrict limits (strict_of limits)
unfolding strict_of
strict_is limits = record { line = refl; body = refl; cert = refl; input = refl; pieces = refl; outside = refl; malformed = refl }
