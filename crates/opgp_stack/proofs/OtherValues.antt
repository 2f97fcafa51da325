-- The line of data whose meaning has no line of its own: its octets.
use Rattle.std.proofs.Common.{◌≡◌, ℕ, List, refl}
use Rattle.std.specs.Prelude.{codes}
use Rattle.opgp_packet.specs.SubMeaning.{meaning_shown}
use Rattle.opgp_packet.specs.declared.sub_meaning.SubMeaning.{SubMeaning}
use Rattle.opgp_packet.specs.declared.sub_meaning.SubMeaning.TheVariants as sub
use Rattle.opgp_stack.specs.Values.{digits_line, value_line}

-- it isn't of this variant, of one to three fields
abbrev pub Not : {A : Type 0} → (A → SubMeaning) → SubMeaning → Type 0
Not {A} f m = (x : A) → m ≡ f x → ⊥

abbrev pub Not2 : {A B : Type 0} → (A → B → SubMeaning) → SubMeaning → Type 0
Not2 {A} {B} f m = (x : A) (y : B) → m ≡ f x y → ⊥

abbrev pub Not3 : {A B C : Type 0} → (A → B → C → SubMeaning) → SubMeaning → Type 0
Not3 {A} {B} {C} f m = (x : A) (y : B) (z : C) → m ≡ f x y z → ⊥

pub octets_alone : (m : SubMeaning) (o : List ℕ) → Not sub.Created m → Not sub.Expires m
    → Not sub.Exportable m → Not2 sub.Trust m → Not sub.RegularExpression m → Not sub.Revocable m
    → Not sub.KeyExpires m → Not sub.PreferredSymmetric m → Not3 sub.RevocationKey m
    → Not sub.Issuer m → Not3 sub.Notation m → Not sub.PreferredHash m
    → Not sub.PreferredCompression m → Not sub.KeyServerPreferences m
    → Not sub.PreferredKeyServer m → Not sub.PrimaryUserId m → Not sub.PolicyUri m
    → Not sub.KeyFlags m → Not sub.SignersUserId m → Not2 sub.RevocationReason m
    → Not sub.Features m → Not3 sub.SignatureTarget m → Not sub.EmbeddedSignature m
    → Not2 sub.IssuerFingerprint m → Not2 sub.IntendedRecipient m → Not sub.PreferredAead m
    → value_line (meaning_shown m) o ≡ digits_line (codes " ") o
octets_alone (sub.Created x) o h _ _ _ _ _ _ _ _ _ _ _ _ _ _ _ _ _ _ _ _ _ _ _ _ _ = absurd (h x refl)
octets_alone (sub.Expires x) o _ h _ _ _ _ _ _ _ _ _ _ _ _ _ _ _ _ _ _ _ _ _ _ _ _ = absurd (h x refl)
octets_alone (sub.Exportable x) o _ _ h _ _ _ _ _ _ _ _ _ _ _ _ _ _ _ _ _ _ _ _ _ _ _ = absurd (h x refl)
octets_alone (sub.Trust x y) o _ _ _ h _ _ _ _ _ _ _ _ _ _ _ _ _ _ _ _ _ _ _ _ _ _ = absurd (h x y refl)
octets_alone (sub.RegularExpression x) o _ _ _ _ h _ _ _ _ _ _ _ _ _ _ _ _ _ _ _ _ _ _ _ _ _ = absurd (h x refl)
octets_alone (sub.Revocable x) o _ _ _ _ _ h _ _ _ _ _ _ _ _ _ _ _ _ _ _ _ _ _ _ _ _ = absurd (h x refl)
octets_alone (sub.KeyExpires x) o _ _ _ _ _ _ h _ _ _ _ _ _ _ _ _ _ _ _ _ _ _ _ _ _ _ = absurd (h x refl)
octets_alone (sub.PreferredSymmetric x) o _ _ _ _ _ _ _ h _ _ _ _ _ _ _ _ _ _ _ _ _ _ _ _ _ _ = absurd (h x refl)
octets_alone (sub.RevocationKey x y z) o _ _ _ _ _ _ _ _ h _ _ _ _ _ _ _ _ _ _ _ _ _ _ _ _ _ = absurd (h x y z refl)
octets_alone (sub.Issuer x) o _ _ _ _ _ _ _ _ _ h _ _ _ _ _ _ _ _ _ _ _ _ _ _ _ _ = absurd (h x refl)
octets_alone (sub.Notation x y z) o _ _ _ _ _ _ _ _ _ _ h _ _ _ _ _ _ _ _ _ _ _ _ _ _ _ = absurd (h x y z refl)
octets_alone (sub.PreferredHash x) o _ _ _ _ _ _ _ _ _ _ _ h _ _ _ _ _ _ _ _ _ _ _ _ _ _ = absurd (h x refl)
octets_alone (sub.PreferredCompression x) o _ _ _ _ _ _ _ _ _ _ _ _ h _ _ _ _ _ _ _ _ _ _ _ _ _ = absurd (h x refl)
octets_alone (sub.KeyServerPreferences x) o _ _ _ _ _ _ _ _ _ _ _ _ _ h _ _ _ _ _ _ _ _ _ _ _ _ = absurd (h x refl)
octets_alone (sub.PreferredKeyServer x) o _ _ _ _ _ _ _ _ _ _ _ _ _ _ h _ _ _ _ _ _ _ _ _ _ _ = absurd (h x refl)
octets_alone (sub.PrimaryUserId x) o _ _ _ _ _ _ _ _ _ _ _ _ _ _ _ h _ _ _ _ _ _ _ _ _ _ = absurd (h x refl)
octets_alone (sub.PolicyUri x) o _ _ _ _ _ _ _ _ _ _ _ _ _ _ _ _ h _ _ _ _ _ _ _ _ _ = absurd (h x refl)
octets_alone (sub.KeyFlags x) o _ _ _ _ _ _ _ _ _ _ _ _ _ _ _ _ _ h _ _ _ _ _ _ _ _ = absurd (h x refl)
octets_alone (sub.SignersUserId x) o _ _ _ _ _ _ _ _ _ _ _ _ _ _ _ _ _ _ h _ _ _ _ _ _ _ = absurd (h x refl)
octets_alone (sub.RevocationReason x y) o _ _ _ _ _ _ _ _ _ _ _ _ _ _ _ _ _ _ _ h _ _ _ _ _ _ = absurd (h x y refl)
octets_alone (sub.Features x) o _ _ _ _ _ _ _ _ _ _ _ _ _ _ _ _ _ _ _ _ h _ _ _ _ _ = absurd (h x refl)
octets_alone (sub.SignatureTarget x y z) o _ _ _ _ _ _ _ _ _ _ _ _ _ _ _ _ _ _ _ _ _ h _ _ _ _ = absurd (h x y z refl)
octets_alone (sub.EmbeddedSignature x) o _ _ _ _ _ _ _ _ _ _ _ _ _ _ _ _ _ _ _ _ _ _ h _ _ _ = absurd (h x refl)
octets_alone (sub.IssuerFingerprint x y) o _ _ _ _ _ _ _ _ _ _ _ _ _ _ _ _ _ _ _ _ _ _ _ h _ _ = absurd (h x y refl)
octets_alone (sub.IntendedRecipient x y) o _ _ _ _ _ _ _ _ _ _ _ _ _ _ _ _ _ _ _ _ _ _ _ _ h _ = absurd (h x y refl)
octets_alone (sub.PreferredAead x) o _ _ _ _ _ _ _ _ _ _ _ _ _ _ _ _ _ _ _ _ _ _ _ _ _ h = absurd (h x refl)
octets_alone m o _ _ _ _ _ _ _ _ _ _ _ _ _ _ _ _ _ _ _ _ _ _ _ _ _ _ = refl
