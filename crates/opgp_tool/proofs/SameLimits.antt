-- Limits are their numbers and their policies.
use Rattle.std.proofs.Common.{◌≡◌, ◌∙◌, ap, subst, ℕ}
use Rattle.std.proofs.Props.{props}
use Rattle.opgp_octets.specs.Ranges.{AreAllowed}
use Rattle.opgp_octets.specs.declared.limits.Limits.{Limits}
use Rattle.opgp_octets.specs.declared.malformed.Malformed.{Malformed}
use Rattle.opgp_octets.specs.declared.outside.Outside.{Outside}

abbrev with_policies : (o : Outside) (m : Malformed) (line body cert input pieces : ℕ)
    → AreAllowed line body cert input pieces → Limits
with_policies o m line body cert input pieces allowed = record {
  line = line;
  body = body;
  cert = cert;
  input = input;
  pieces = pieces;
  outside = o;
  malformed = m;
  allowed = allowed;
}

-- ranges have one proof
allowed-prop : (line body cert input pieces : ℕ) → IsProp (AreAllowed line body cert input pieces)
allowed-prop line body cert input pieces = hlevel props

module _ (o : Outside) (m : Malformed) (l b c i p : ℕ) (h : AreAllowed l b c i p) where
  abbrev of : (line body cert input pieces : ℕ) → AreAllowed line body cert input pieces → Limits
  of = with_policies o m

  one : (k : AreAllowed l b c i p) → of l b c i p h ≡ of l b c i p k
  one k = ap (of l b c i p) (allowed-prop l b c i p h k)

  two : (p2 : ℕ) → p ≡ p2 → (k : AreAllowed l b c i p2) → of l b c i p h ≡ of l b c i p2 k
  two p2 e = subst (λ x. (k : AreAllowed l b c i x) → of l b c i p h ≡ of l b c i x k) e one

  three : (p2 i2 : ℕ) → p ≡ p2 → i ≡ i2 → (k : AreAllowed l b c i2 p2)
      → of l b c i p h ≡ of l b c i2 p2 k
  three p2 i2 e f =
      subst (λ x. (k : AreAllowed l b c x p2) → of l b c i p h ≡ of l b c x p2 k) f (two p2 e)

  four : (p2 i2 c2 : ℕ) → p ≡ p2 → i ≡ i2 → c ≡ c2 → (k : AreAllowed l b c2 i2 p2)
      → of l b c i p h ≡ of l b c2 i2 p2 k
  four p2 i2 c2 e f g = subst (λ x. (k : AreAllowed l b x i2 p2) → of l b c i p h ≡ of l b x i2 p2 k)
      g (three p2 i2 e f)

  five : (p2 i2 c2 b2 : ℕ) → p ≡ p2 → i ≡ i2 → c ≡ c2 → b ≡ b2 → (k : AreAllowed l b2 c2 i2 p2)
      → of l b c i p h ≡ of l b2 c2 i2 p2 k
  five p2 i2 c2 b2 e f g k =
      subst (λ x. (k : AreAllowed l x c2 i2 p2) → of l b c i p h ≡ of l x c2 i2 p2 k) k
      (four p2 i2 c2 e f g)

  six : (p2 i2 c2 b2 l2 : ℕ) → p ≡ p2 → i ≡ i2 → c ≡ c2 → b ≡ b2 → l ≡ l2
      → (k : AreAllowed l2 b2 c2 i2 p2) → of l b c i p h ≡ of l2 b2 c2 i2 p2 k
  six p2 i2 c2 b2 l2 e f g k n =
      subst (λ x. (k : AreAllowed x b2 c2 i2 p2) → of l b c i p h ≡ of x b2 c2 i2 p2 k) n
      (five p2 i2 c2 b2 e f g k)

pub same_limits : (a b : Limits) → a.line ≡ b.line → a.body ≡ b.body → a.cert ≡ b.cert
    → a.input ≡ b.input → a.pieces ≡ b.pieces → a.outside ≡ b.outside → a.malformed ≡ b.malformed
    → a ≡ b
same_limits a b line body cert input pieces outside malformed =
    six a.outside a.malformed a.line a.body a.cert a.input a.pieces a.allowed
    b.pieces b.input b.cert b.body b.line pieces input cert body line b.allowed
    ∙ ap (λ (o : Outside). with_policies o a.malformed b.line b.body b.cert b.input b.pieces b.allowed) outside
    ∙ ap (λ (m : Malformed). with_policies b.outside m b.line b.body b.cert b.input b.pieces b.allowed) malformed
