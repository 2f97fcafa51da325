-- Which packets have bodies that are read, and which stand in no keyring.
use Rattle.std.proofs.Common.{◌≡◌, ℕ, true, false, ◌||◌, ◌==◌, List, refl, ap, subst, ◌∙◌}
use Rattle.std.proofs.lemmas.Bool.{eqb-true}
use Rattle.opgp_octets.specs.declared.malformed.Malformed.{Malformed}
use Rattle.opgp_octets.specs.PacketType.{packet_type_of}
use Rattle.opgp_octets.specs.declared.fault.BodyFault.{BodyFault}
use Rattle.opgp_octets.specs.declared.packet_type.PacketType.{PacketType}
use Rattle.opgp_octets.specs.declared.packet_type.PacketType.TheVariants.{Signature, PublicKey, PublicSubkey, UserId, UserAttribute}
use Rattle.opgp_frame.specs.Packet.{PacketValue}
use Rattle.opgp_keyring.specs.Bodies.{HasFault}
use Rattle.opgp_keyring.specs.PacketBody.{HasBodyFault}
use Rattle.opgp_keyring.specs.Composition.{stands_in_keyring}
use Rattle.opgp_keyring.specs.Keyring.{is_filler, is_head, is_hung, is_primary}
use Rattle.opgp_keyring.proofs.KindTests.{or_false}

-- the types of some numbers
is_signature : packet_type_of 2 ≡ Signature
unfolding packet_type_of
is_signature = refl

is_key : packet_type_of 6 ≡ PublicKey
unfolding packet_type_of
is_key = refl

is_user_id : packet_type_of 13 ≡ UserId
unfolding packet_type_of
is_user_id = refl

is_subkey : packet_type_of 14 ≡ PublicSubkey
unfolding packet_type_of
is_subkey = refl

is_attribute : packet_type_of 17 ≡ UserAttribute
unfolding packet_type_of
is_attribute = refl

-- a number of another type is another number
another : (t u : PacketType) (k n : ℕ) → t ≡ packet_type_of k → packet_type_of n ≡ u → (t ≡ u → ⊥) → (k == n) ≡ false
another t u k n of here none =
    elim (k == n) as (λ b. (k == n) ≡ b → b ≡ false) [ true ↦ λ h. absurd (none (of ∙ ap packet_type_of (eqb-true k n h) ∙ here)) | false ↦ λ h. refl ] refl

-- a type that stands nowhere in a keyring
pub stray : (t : PacketType) (k : ℕ) → t ≡ packet_type_of k → (t ≡ Signature → ⊥) → (t ≡ PublicKey → ⊥) → (t ≡ UserId → ⊥) → (t ≡ PublicSubkey → ⊥) → (t ≡ UserAttribute → ⊥)
    → is_filler k ≡ false → stands_in_keyring k ≡ false
stray t k of signature key user_id subkey attribute filler =
    let head : is_head k ≡ false = or_false (k == 13) ((k == 17) || (k == 14)) (another t UserId k 13 of is_user_id user_id)
    (or_false (k == 17) (k == 14) (another t UserAttribute k 17 of is_attribute attribute) (another t PublicSubkey k 14 of is_subkey subkey)) in
    let hung : is_hung k ≡ false = or_false (k == 2) (is_filler k) (another t Signature k 2 of is_signature signature) filler in
    or_false (is_primary k) (is_head k || is_hung k) (another t PublicKey k 6 of is_key key) (or_false (is_head k) (is_hung k) head hung)

-- a type that stands in a keyring, and is none of these, is a filler's
pub filler_left : (t : PacketType) (k : ℕ) → t ≡ packet_type_of k → (t ≡ Signature → ⊥) → (t ≡ PublicKey → ⊥) → (t ≡ UserId → ⊥) → (t ≡ PublicSubkey → ⊥) → (t ≡ UserAttribute → ⊥)
    → stands_in_keyring k ≡ true → is_filler k ≡ true
filler_left t k of signature key user_id subkey attribute stands =
    elim (is_filler k) as (λ b. is_filler k ≡ b → b ≡ true) [ true ↦ λ e. refl | false ↦ λ e. absurd (let none : stands_in_keyring k ≡ false = stray t k of signature key user_id subkey attribute e in cc) ] refl

-- ---- what a body's type says of its faults

pub untyped : (policy : Malformed) (p : PacketValue) (k : ℕ) (t : PacketType) (o : List ℕ) (f : BodyFault) → k ≡ p.kind → t ≡ packet_type_of k → o ≡ p.body → HasBodyFault policy t o f → HasFault policy p f
untyped policy p k t o f same of body h =
    subst (λ (x : PacketType). HasBodyFault policy x p.body f) (of ∙ ap packet_type_of same) (subst (λ (l : List ℕ). HasBodyFault policy t l f) body h)
