-- How much a composer holds.
use Rattle.std.proofs.Common.{◌≡◌, ℕ, ◌+◌, ◌≤◌, true, false, List, ◌∷◌, ◌++◌, length, Option, Some, None, is_some, refl, ap, length-append, arith}
use Rattle.opgp_octets.specs.Limits.{cert_limit, body_limit}
use Rattle.opgp_frame.specs.declared.form.Form.{Form}
use Rattle.opgp_frame.specs.declared.form.Form.TheVariants.{OldOne, OldTwo, OldFour, NewOne, NewTwo, NewFive, Partial}
use Rattle.opgp_frame.specs.Form.{form_takes, last_length, header_octet}
use Rattle.opgp_frame.specs.Header.{is_data_kind}
use Rattle.opgp_frame.specs.Length.{length_octets}
use Rattle.opgp_frame.specs.Packet.{PacketValue, IsPacket, spelling}
use Rattle.opgp_keyring.specs.declared.composer.Composer.{Composer}
use Rattle.opgp_keyring.specs.declared.ready.Ready.{Ready}
use Rattle.opgp_keyring.specs.Fed.{held_of, limits_of}
use Rattle.opgp_keyring.specs.Keyring.{IsPrimary, octets_of}
use Rattle.opgp_keyring.specs.State.{open_octets, ready_octets}
use Rattle.opgp_keyring.proofs.KindTests.{primary_no_data}

plain : (n : ℕ) (a body : List ℕ) → length a ≤ 5 → length (n ∷ (a ++ body)) ≤ length body + 6
plain n a body h = omega (arith, length-append a body)

in_form : (form : Form) (kind : ℕ) (body : List ℕ) → is_data_kind kind ≡ false → form_takes form kind ≡ true
    → length (spelling (record { form = form; kind = kind; body = body })) ≤ length body + 6
in_form OldOne kind body none takes = plain (header_octet OldOne kind) (length_octets (last_length OldOne (length body))) body (omega arith)
in_form OldTwo kind body none takes = plain (header_octet OldTwo kind) (length_octets (last_length OldTwo (length body))) body (omega arith)
in_form OldFour kind body none takes = plain (header_octet OldFour kind) (length_octets (last_length OldFour (length body))) body (omega arith)
in_form NewOne kind body none takes = plain (header_octet NewOne kind) (length_octets (last_length NewOne (length body))) body (omega arith)
in_form NewTwo kind body none takes = plain (header_octet NewTwo kind) (length_octets (last_length NewTwo (length body))) body (omega arith)
in_form NewFive kind body none takes = plain (header_octet NewFive kind) (length_octets (last_length NewFive (length body))) body (omega arith)
in_form (Partial p) kind body none takes = absurd cc

-- a primary key has no pieces, so its header has six octets at most
primary_short : (p : PacketValue) → IsPacket p → IsPrimary p → length (spelling p) ≤ length p.body + 6
primary_short p is primary = in_form p.form p.kind p.body (primary_no_data p.kind primary) is.takes

bound : (o : Option Ready) (open_now size cert body : ℕ) → open_now ≡ size → size ≤ cert → ready_octets o ≤ cert → (is_some o ≡ true → size ≤ body + 16) → open_now + ready_octets o ≤ cert + body + 16
bound None open_now size cert body e short ready h = omega arith
bound (Some r) open_now size cert body e short ready h = let k : size ≤ body + 16 = h refl in omega (arith, k)

-- no packet lies in spare memory
pub none_spare : (c : Composer) → octets_of c.spare ≡ 0
unfolding octets_of
none_spare c = ap octets_of c.spare_empty

pub held_short : (c : Composer) (p : PacketValue) → IsPacket p → length p.body ≤ body_limit (limits_of c) → (is_some c.ready ≡ true → IsPrimary p × (c.size ≡ length (spelling p))) → held_of c ≤ cert_limit (limits_of c) + body_limit (limits_of c) + 16
held_short c p is short h =
    omega (
      arith,
      none_spare c,
      bound c.ready (open_octets c.state) c.size (cert_limit c.limits) (body_limit c.limits) c.counted c.short c.ready_short
          (λ e. let k = h e in omega (arith, primary_short p is k.0, k.1, short)),
    )

pub held_none : (c : Composer) → is_some c.ready ≡ false → held_of c ≤ cert_limit (limits_of c) + body_limit (limits_of c) + 16
held_none c e =
    omega (arith, none_spare c, bound c.ready (open_octets c.state) c.size (cert_limit c.limits) (body_limit c.limits) c.counted c.short c.ready_short (λ t. absurd cc))
