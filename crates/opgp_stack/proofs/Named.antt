-- The certificates with keys of some names, or the others, as they come.
use mathlib.Core.Bool.{beq}
use Rattle.std.proofs.Common.{◌≡◌, ◌∙◌, ℕ, Bool, true, false, not, List, [], ◌∷◌, ◌++◌, refl, sym, ap, subst, append-nil, if◌then◌else◌}
use Rattle.std.proofs.lemmas.List.Concat.{flat_map-append}
use Rattle.std.proofs.lemmas.List.Elements.{filter-append}
use Rattle.opgp_frame.specs.Packet.{PacketValue}
use Rattle.opgp_report.specs.Report.{certificate_keys}
use Rattle.opgp_keyring.specs.Composed.{PartValue, of_lead, of_certificate}
use Rattle.opgp_keyring.specs.Keyring.{CertificateValue, certificate_packets}
use Rattle.opgp_codec.specs.declared.out.Out.{Out}
use Rattle.opgp_codec.specs.Writing.{certificates_text, packets_text}
use Rattle.opgp_stack.specs.ByKey.{HasNamed}
use Rattle.opgp_stack.specs.KeyName.{has_any, is_picked, picked}
use Rattle.opgp_stack.specs.OnePart.{certificates_in}
use Rattle.opgp_stack.specs.WantedKeys.{AreNotes, keys_of}
use Rattle.opgp_stack.proofs.Looking.{lead_push, certificate_push}
use Rattle.opgp_stack.proofs.Wanted.{Notes}

-- ---- tests
pub same_test : (a b : Bool) → beq a b ≡ true → a ≡ b
same_test true true e = refl
same_test false false e = refl
same_test true false e = absurd (cc e)
same_test false true e = absurd (cc e)

pub other_test : (a b : Bool) → beq a b ≡ false → a ≡ b → ⊥
other_test true true e d = absurd (cc e)
other_test false false e d = absurd (cc e)
other_test true false e d = absurd (cc d)
other_test false true e d = absurd (cc d)

-- ---- a certificate more
keys_more : (cs : List CertificateValue) (c : CertificateValue) → keys_of (cs ++ c ∷ []) ≡ keys_of cs ++ certificate_keys c
keys_more cs c = flat_map-append certificate_keys cs (c ∷ []) ∙ ap (λ (l : List (List ℕ)). keys_of cs ++ l) (append-nil (certificate_keys c))

picked_one : (names : List (List ℕ)) (except : Bool) (c : CertificateValue) → is_picked names except c ≡ true → picked names except (c ∷ []) ≡ c ∷ []
picked_one names except c h = rw h refl

picked_none : (names : List (List ℕ)) (except : Bool) (c : CertificateValue) → is_picked names except c ≡ false → picked names except (c ∷ []) ≡ []
picked_none names except c h = rw h refl

text_with : (out : Out) (names : List (List ℕ)) (except : Bool) (cs : List CertificateValue) (c : CertificateValue) → is_picked names except c ≡ true
    → certificates_text out (picked names except (cs ++ c ∷ [])) ≡ certificates_text out (picked names except cs) ++ packets_text out (certificate_packets c)
text_with out names except cs c h =
    ap (certificates_text out) (filter-append (is_picked names except) cs (c ∷ []) ∙ ap (λ (ds : List CertificateValue). picked names except cs ++ ds) (picked_one names except c h))
    ∙ flat_map-append (λ d. packets_text out (certificate_packets d)) (picked names except cs) (c ∷ [])
    ∙ ap (λ (o : List ℕ). certificates_text out (picked names except cs) ++ o) (append-nil (packets_text out (certificate_packets c)))

without : (names : List (List ℕ)) (except : Bool) (cs : List CertificateValue) (c : CertificateValue) → is_picked names except c ≡ false
    → picked names except (cs ++ c ∷ []) ≡ picked names except cs
without names except cs c h =
    filter-append (is_picked names except) cs (c ∷ []) ∙ ap (λ (ds : List CertificateValue). picked names except cs ++ ds) (picked_none names except c h) ∙ append-nil (picked names except cs)

module _ {D : Type 0} (has : D → List ℕ → Type 0) (out : Out) (names : List (List ℕ)) (except : Bool) where
  same : (notes : Notes) (draft : D) (cs ds : List CertificateValue) → ds ≡ cs → HasNamed has out names except notes draft cs → HasNamed has out names except notes draft ds
  same notes draft cs ds e h = subst (HasNamed has out names except notes draft) (sym e) h

  pub named_lead : (notes : Notes) (draft : D) (parts : List PartValue) (ps : List PacketValue) → HasNamed has out names except notes draft (certificates_in parts)
      → HasNamed has out names except notes draft (certificates_in (parts ++ of_lead ps ∷ []))
  named_lead notes draft parts ps h = same notes draft _ _ (lead_push parts ps) h

  abbrev Notes_more : Notes → Notes → Bool → CertificateValue → Type 0
  Notes_more notes new is c = (names bodies : List (List ℕ)) → AreNotes names bodies notes → (is ≡ has_any names c) × AreNotes names (bodies ++ certificate_keys c) new

  notes_now : (notes new : Notes) (is : Bool) (cs : List CertificateValue) (c : CertificateValue) → Notes_more notes new is c → AreNotes names (keys_of cs) notes → AreNotes names (keys_of (cs ++ c ∷ [])) new
  notes_now notes new is cs c more h = subst (λ (bodies : List (List ℕ)). AreNotes names bodies new) (sym (keys_more cs c)) (more names (keys_of cs) h).1

  pub named_passed : (notes new : Notes) (is : Bool) (draft : D) (parts : List PartValue) (c : CertificateValue) → Notes_more notes new is c → is ≡ except → HasNamed has out names except notes draft (certificates_in parts)
      → HasNamed has out names except new draft (certificates_in (parts ++ of_certificate c ∷ []))
  named_passed notes new is draft parts c more passes h =
      let has_it : has_any names c ≡ except = sym (more names (keys_of (certificates_in parts)) h.noted).0 ∙ passes in
      let lacks : is_picked names except c ≡ false = ap (λ (b : Bool). if except then not b else b) has_it ∙ neither except in
      same new draft _ _ (certificate_push parts c) (record {
        text = subst (λ (cs : List CertificateValue). has draft (certificates_text out cs)) (sym (without names except (certificates_in parts) c lacks)) h.text;
        noted = notes_now notes new is (certificates_in parts) c more h.noted;
      })
    where
      neither : (b : Bool) → (if b then not b else b) ≡ false
      neither true = refl
      neither false = refl

  pub named_here : (notes new : Notes) (is : Bool) (draft next : D) (parts : List PartValue) (c : CertificateValue) → Notes_more notes new is c → (is ≡ except → ⊥)
      → ((given : List ℕ) → has draft given → has next (given ++ packets_text out (certificate_packets c))) → HasNamed has out names except notes draft (certificates_in parts)
      → HasNamed has out names except new next (certificates_in (parts ++ of_certificate c ∷ []))
  named_here notes new is draft next parts c more differs adds h =
      let has_it : is ≡ has_any names c = (more names (keys_of (certificates_in parts)) h.noted).0 in
      let holds : is_picked names except c ≡ true = ap (λ (b : Bool). if except then not b else b) (sym has_it) ∙ either is except differs in
      same new next _ _ (certificate_push parts c) (record {
        text = subst (has next) (sym (text_with out names except (certificates_in parts) c holds)) (adds _ h.text);
        noted = notes_now notes new is (certificates_in parts) c more h.noted;
      })
    where
      either : (a b : Bool) → (a ≡ b → ⊥) → (if b then not a else a) ≡ true
      either true true d = absurd (d refl)
      either false false d = absurd (d refl)
      either true false d = refl
      either false true d = refl
