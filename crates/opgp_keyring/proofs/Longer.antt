-- A keyring with one more packet, and what is said where there is none.
use Rattle.std.proofs.Common.{◌≡◌, ℕ, Bool, true, false, not, ◌||◌, ◌&&◌, ◌==◌, inl, inr, List, [], ◌∷◌, ◌++◌, All, if◌then◌else◌, refl, sym, ap, subst, ◌∙◌, append-nil}
use Rattle.std.proofs.lemmas.List.Elements.{All-push}
use Rattle.opgp_octets.specs.declared.fault.Reason.TheVariants.{NoPrimary, NotInKeyring, CertTooLong}
use Rattle.opgp_octets.specs.declared.limits.Limits.{Limits}
use Rattle.opgp_frame.specs.Packet.{PacketValue}
use Rattle.opgp_keyring.specs.Composition.{AreKeyring, has_primary, needs_primary, order_reason, stands_in_keyring}
use Rattle.opgp_keyring.specs.Keyring.{CertificateValue, IsCertificate, IsFiller, IsKeyring, IsPrimary, KeyringValue, flat, is_filler, is_head, is_hung, is_primary}
use Rattle.opgp_keyring.proofs.Adding.{Stands, all_stand, begun_whole, certificates_front, certificates_push, fillers_lack, grown_whole, keyring, lacks_in, last_of, lead_is, lead_whole}
use Rattle.opgp_keyring.proofs.Feeding.{begun, begun_is}
use Rattle.opgp_keyring.proofs.KindTests.{or_cases, or_left, or_right}
use Rattle.opgp_keyring.proofs.Prefixes.{Ends, ends}
use Rattle.opgp_keyring.proofs.Values.{OneMore, more_behind}

pub record Longer (r : KeyringValue) (p : PacketValue) : Type 0 where
  pub more : KeyringValue
  pub is : IsKeyring more
  pub whole : flat more ≡ flat r ++ p ∷ []

begun_longer : (r : KeyringValue) (p : PacketValue) → IsKeyring r → IsPrimary p → Longer r p
begun_longer r p k primary = record {
  more = keyring r.lead (r.certificates ++ begun p ∷ []);
  is = certificates_push r.lead r.certificates (begun p) k (begun_is p primary);
  whole = begun_whole r.lead r.certificates p;
}

lead_longer : (lead : List PacketValue) (p : PacketValue) → IsKeyring (keyring lead []) → IsFiller p → Longer (keyring lead []) p
lead_longer lead p k filler = record { more = keyring (lead ++ p ∷ []) []; is = lead_is lead p k filler; whole = lead_whole lead p }

grown_longer : (lead : List PacketValue) (done : List CertificateValue) (c : CertificateValue) (p : PacketValue) → IsKeyring (keyring lead (done ++ c ∷ [])) → OneMore c p → Longer (keyring lead (done ++ c ∷ [])) p
grown_longer lead done c p k m =
    let parts = certificates_front IsCertificate done c k.certificates in
    record {
      more = keyring lead (done ++ m.more ∷ []);
      is = record { lead = k.lead; certificates = All-push IsCertificate done m.more parts.0 m.is };
      whole = grown_whole lead done c m.more p m.packets;
    }

-- behind the last certificate, or else behind the lead
attach : (lead : List PacketValue) (cs : List CertificateValue) (p : PacketValue) → Ends cs → IsKeyring (keyring lead cs) → (is_head p.kind || is_hung p.kind) ≡ true → (cs ≡ [] → Longer (keyring lead []) p) → Longer (keyring lead cs) p
attach lead cs p (inl e) k behind alone = subst (λ (l : List CertificateValue). Longer (keyring lead l) p) (sym e) (alone e)
attach lead cs p (inr (done, c, e)) k behind alone =
    let q : IsKeyring (keyring lead (done ++ c ∷ [])) = subst (λ (l : List CertificateValue). IsKeyring (keyring lead l)) e k in
    subst (λ (l : List CertificateValue). Longer (keyring lead l) p) (sym e) (grown_longer lead done c p q (more_behind c p (certificates_front IsCertificate done c q.certificates).1 behind))

-- with no certificate there is no primary key
none_first : (r : KeyringValue) (ps : List PacketValue) (kind : ℕ) → IsKeyring r → flat r ≡ ps → (needs_primary kind && not (has_primary ps)) ≡ false → r.certificates ≡ [] → needs_primary kind ≡ true → ⊥
none_first r ps kind k whole free e needs =
    let none : has_primary ps ≡ false = ap has_primary (sym whole ∙ ap (λ (cs : List CertificateValue). flat (keyring r.lead cs)) e ∙ append-nil r.lead) ∙ fillers_lack r.lead k.lead in
    let lacks : (needs_primary kind && not (has_primary ps)) ≡ true = ap (λ (b : Bool). b && not (has_primary ps)) needs ∙ ap not none in
    cc

pub longer : (r : KeyringValue) (ps : List PacketValue) (p : PacketValue) → IsKeyring r → flat r ≡ ps → stands_in_keyring p.kind ≡ true → (needs_primary p.kind && not (has_primary ps)) ≡ false → Longer r p
longer r ps p k whole stands free =
    let never = none_first r ps p.kind k whole free in
    elim (or_cases (is_primary p.kind) (is_head p.kind || is_hung p.kind) stands) [
      | inl primary ↦ begun_longer r p k primary
      | inr behind ↦ attach r.lead r.certificates p (ends r.certificates) k behind (λ e. elim (or_cases (is_head p.kind) (is_hung p.kind) behind) [
        | inl head ↦ absurd (never e (or_right (p.kind == 2) (is_head p.kind) head))
        | inr hung ↦ elim (or_cases (p.kind == 2) (is_filler p.kind) hung) [
          | inl signature ↦ absurd (never e (or_left (p.kind == 2) (is_head p.kind) signature))
          | inr filler ↦ lead_longer r.lead p (subst (λ (cs : List CertificateValue). IsKeyring (keyring r.lead cs)) e k) filler
        ]
      ])
    ]

-- ---- why there is none

by_tests : (stands lacks : Bool) → (if not stands then NotInKeyring else (if lacks then NoPrimary else CertTooLong)) ≡ CertTooLong → (stands ≡ true) × (lacks ≡ false)
by_tests true false e = (refl, refl)
by_tests true true e = absurd cc
by_tests false lacks e = absurd cc

-- the packet would make a keyring, within no limit
pub would_be : (limits : Limits) (ps : List PacketValue) (p : PacketValue) → AreKeyring limits ps → order_reason ps p ≡ CertTooLong → (r : KeyringValue) × IsKeyring r × (flat r ≡ ps ++ p ∷ [])
would_be limits ps p (q, k) e =
    let tests = by_tests (stands_in_keyring p.kind) (needs_primary p.kind && not (has_primary ps)) e in
    let l = longer q ps p k.keyring k.whole tests.0 tests.1 in
    (l.more, l.is, l.whole ∙ ap (λ (l : List PacketValue). l ++ p ∷ []) k.whole)

not_lacking : (needs has : Bool) → (needs ≡ true → has ≡ false → ⊥) → (needs && not has) ≡ false
not_lacking true true none = refl
not_lacking true false none = absurd (none refl refl)
not_lacking false has none = refl

-- and where it would, the limit is told
pub is_too_long : (ps : List PacketValue) (p : PacketValue) (r : KeyringValue) → IsKeyring r → flat r ≡ ps ++ p ∷ [] → order_reason ps p ≡ CertTooLong
is_too_long ps p r k whole =
    let stands : stands_in_keyring p.kind ≡ true = last_of Stands ps p (subst (All Stands) whole (all_stand r k)) in
    let free = not_lacking (needs_primary p.kind) (has_primary ps) (λ needs none. lacks_in r.lead r.certificates ps p k whole needs none) in
    ap (λ (b : Bool). if not b then NotInKeyring else (if needs_primary p.kind && not (has_primary ps) then NoPrimary else CertTooLong)) stands ∙ ap (λ (b : Bool). if b then NoPrimary else CertTooLong) free
