-- Every key that made a good revocation stays in the keyring.
use Rattle.std.proofs.Common.{◌≡◌, ◌∙◌, ◌⊎◌, inl, inr, ℕ, ◌<◌, Bool, true, false, cond, List, [], ◌∷◌, length, drop, map, refl, sym, ap, subst, if◌then◌else◌, Option, Some, None, arith}
use Rattle.std.specs.Prelude.{◌&&◌, ◌||◌, is_some, Result, Ok, Err}
use Rattle.std.specs.List.{Contains, filter, flat_map, position, position_or_len, slice_get}
use Rattle.std.specs.Option.{option_and_then}
use Rattle.std.proofs.lemmas.Bool.{lt-ltb, true≢false}
use Rattle.std.proofs.lemmas.List.Elements.{Contains-append_cases, Contains-append_left, Contains-append_right}
use Rattle.std.proofs.lemmas.List.Sums.{fails_before_first}
use Rattle.std.proofs.lemmas.Option.{get_or_from_slice_get, slice_get_within}
use Rattle.std.proofs.lemmas.Slice.Eq.{bytes_eq-Decides}
use Rattle.opgp_octets.specs.declared.fault.BodyFault.{BodyFault}
use Rattle.opgp_octets.specs.declared.packet_type.PacketType.TheVariants as packet
use Rattle.opgp_frame.specs.Header.{is_type}
use Rattle.opgp_packet.specs.SignatureBody.{SignatureValue, signature_at}
use Rattle.opgp_hash.specs.Fingerprint.{print_octets, print_version}
use Rattle.opgp_hash.specs.SubjectValue.{one}
use Rattle.opgp_hash.specs.declared.fingerprints.Fingerprint.{Fingerprint}
use Rattle.opgp_hash.specs.declared.fingerprints.Fingerprint.TheVariants.{Four, Six}
use Rattle.opgp_keyring.specs.Keyring.{CertificateValue, ComponentValue, KeyringValue}
use Rattle.opgp_report.specs.First.{has_print, print_of}
use Rattle.opgp_report.specs.Report.{certificate_keys, keys_in, subkey_bodies}
use Rattle.opgp_report.specs.Signer.{signer_of}
use Rattle.opgp_report.specs.Standing.{standing_in}
use Rattle.opgp_report.specs.declared.verifier.Verdict.{Verdict}
use Rattle.opgp_valid.specs.KnownKeys.{issuer_among, known_in, known_of}
use Rattle.opgp_valid.specs.Told.{is_good_verdict, with_verdicts}
use Rattle.opgp_valid.specs.declared.known_keys.Known.{Known}
use Rattle.opgp_valid.proofs.Members.{member_cases, member_here, member_there, none_in}
use Rattle.opgp_bound.specs.Bound.{bound_certificate, bound_certificates, bound_keyring, component_stays, is_bound, kept_component, kept_components}
use Rattle.opgp_bound.specs.Issuers.{is_issuer, is_print_among, issuer_at, issuer_read, print_in, revocation_issuers, revokes_typed}
use Rattle.opgp_bound.specs.Judged.{certificate_rows, component_rows, judged_component, judged_components, rows_on}
use Rattle.opgp_bound.specs.Role.{kind_in}

-- ---- lists
pub from_flat : {X Y : Type 0} (f : X → List Y) (xs : List X) (y : Y) → Contains (flat_map f xs) y → (x : X) × Contains xs x × Contains (f x) y
from_flat f [] y h = absurd (none_in y h)
from_flat f (x ∷ xs) y h = elim (Contains-append_cases (f x) (flat_map f xs) y h) [ inl a ↦ (x, member_here x xs, a) | inr b ↦ let r = from_flat f xs y b in (r.0, member_there x r.0 xs r.1, r.2) ]

pub from_map : {X Y : Type 0} (f : X → Y) (xs : List X) (y : Y) → Contains (map f xs) y → (x : X) × Contains xs x × (f x ≡ y)
from_map f [] y h = absurd (none_in y h)
from_map f (x ∷ xs) y h = elim (member_cases (f x) y (map f xs) h) [ inl e ↦ (x, member_here x xs, e) | inr b ↦ let r = from_map f xs y b in (r.0, member_there x r.0 xs r.1, r.2) ]

pub to_map : {X Y : Type 0} (f : X → Y) (xs : List X) (x : X) → Contains xs x → Contains (map f xs) (f x)
to_map f [] x h = absurd (none_in x h)
to_map {X} {Y} f (y ∷ xs) x h = elim (member_cases y x xs h) [ inl e ↦ subst (λ (z : X). Contains (f y ∷ map f xs) (f z)) e (member_here (f y) (map f xs)) | inr b ↦ member_there (f y) (f x) (map f xs) (to_map f xs x b) ]

pub single : {X : Type 0} (y x : X) → Contains (y ∷ []) x → y ≡ x
single y x h = elim (member_cases y x [] h) [ inl e ↦ e | inr b ↦ absurd (none_in x b) ]

found_before : {X : Type 0} (p : X → Bool) (xs : List X) (x : X) → Contains xs x → p x ≡ true → position_or_len p xs < length xs
found_before p xs x (k, within, is) e =
    let not_before : k < position_or_len p xs → ⊥ = λ l. true≢false (sym (ap p is ∙ e) ∙ fails_before_first p xs k x l) in
    omega (arith, not_before, within)

pub found : {X : Type 0} (p : X → Bool) (xs : List X) (x : X) → Contains xs x → p x ≡ true → is_some (position p xs) ≡ true
found p xs x h e = ap (λ (b : Bool). is_some (cond b (Some (position_or_len p xs)) None)) (lt-ltb (position_or_len p xs) (length xs) (found_before p xs x h e))

-- ---- fingerprints
has_own : (print : Fingerprint) → has_print (print_version print) (print_octets print) print ≡ true
has_own (Four o) = (bytes_eq-Decides o o).1 refl
has_own (Six o) = (bytes_eq-Decides o o).1 refl

print_among : (prints : List Fingerprint) (print : Fingerprint) → Contains prints print → is_print_among prints print ≡ true
print_among prints print h = found (has_print (print_version print) (print_octets print)) prints print h (has_own print)

-- ---- the issuer of a revocation is one of the keyring's keys
abbrev IsKnown : List Known → Fingerprint → Type 0
IsKnown known print = (k : Known) × Contains known k × (k.print ≡ print)

got : (known : List Known) (place : Option ℕ) (k : Known) → option_and_then (λ i. slice_get known i) place ≡ Some k → Contains known k
got known None k e = absurd (cc e)
got known (Some i) k e = (i, slice_get_within known i k e, get_or_from_slice_get known i k k e)

issuer_known : (known : List Known) (v : SignatureValue) (print : Fingerprint) (o : Option Known) → issuer_among known v ≡ o → Contains (print_in o) print → IsKnown known print
issuer_known known v print None e h = absurd (none_in print h)
issuer_known known v print (Some k) e h = (k, got known (signer_of (map (λ (k : Known). k.print) known) v) k e, single k.print print h)

read_known : (known : List Known) (found : Verdict) (print : Fingerprint) (r : Result SignatureValue BodyFault) → Contains (issuer_read known found r) print → IsKnown known print
read_known known found print (Err fault) h = absurd (none_in print h)
read_known known found print (Ok v) h = go (is_good_verdict found && revokes_typed (kind_in v)) h where
  go : (b : Bool) → Contains (if b then print_in (issuer_among known v) else []) print → IsKnown known print
  go true i = issuer_known known v print (issuer_among known v) refl i
  go false i = absurd (none_in print i)

made_known : (r : KeyringValue) (founds : List Verdict) (print : Fingerprint) → Contains (revocation_issuers r founds) print → IsKnown (known_in r) print
made_known r founds print h =
    let x = from_flat (issuer_at (known_in r)) (with_verdicts founds (standing_in r)) print h in
    read_known (known_in r) x.0.1 print (signature_at x.0.0.body) x.2

-- ---- a key among them stays
module _ (known : List Known) (issuers : List Fingerprint) (body : List ℕ) (among : is_print_among issuers (print_of body) ≡ true) where
  is_one : (c : ComponentValue) → Contains (subkey_bodies c) body → is_issuer issuers c ≡ true
  is_one c h = go (is_type packet.PublicSubkey c.head.kind) h where
    go : (b : Bool) → Contains (if b then c.head.body ∷ [] else []) body → (b && is_print_among issuers (print_of c.head.body)) ≡ true
    go true i = ap (λ (o : List ℕ). is_print_among issuers (print_of o)) (single c.head.body body i) ∙ among
    go false i = absurd (none_in body i)

  one_stays : (a b : Bool) → b ≡ true → (a || b) ≡ true
  one_stays true b e = refl
  one_stays false b e = e

  subkey_stays : (print : Fingerprint) (primary : List ℕ) (cs : List ComponentValue) (founds : List Verdict) → Contains (flat_map subkey_bodies cs) body
      → Contains (flat_map subkey_bodies (kept_components (judged_components known print issuers primary cs founds))) body
  subkey_stays print primary [] founds h = h
  subkey_stays print primary (c ∷ cs) founds h = step (component_stays (judged_component known print issuers primary c founds)) refl (Contains-append_cases (subkey_bodies c) (flat_map subkey_bodies cs) body h) (subkey_stays print primary cs (drop (component_rows primary c) founds)) where
    step : (b : Bool) → component_stays (judged_component known print issuers primary c founds) ≡ b → Contains (subkey_bodies c) body ⊎ Contains (flat_map subkey_bodies cs) body
        → (Contains (flat_map subkey_bodies cs) body → Contains (flat_map subkey_bodies (kept_components (judged_components known print issuers primary cs (drop (component_rows primary c) founds)))) body)
        → Contains (flat_map subkey_bodies (map kept_component (if b then judged_component known print issuers primary c founds ∷ filter component_stays (judged_components known print issuers primary cs (drop (component_rows primary c) founds)) else filter component_stays (judged_components known print issuers primary cs (drop (component_rows primary c) founds))))) body
    step true e (inl a) later = Contains-append_left (subkey_bodies c) (flat_map subkey_bodies (kept_components (judged_components known print issuers primary cs (drop (component_rows primary c) founds)))) body a
    step true e (inr b) later = Contains-append_right (subkey_bodies c) (flat_map subkey_bodies (kept_components (judged_components known print issuers primary cs (drop (component_rows primary c) founds)))) body (later b)
    step false e (inl a) later = absurd (true≢false (sym (one_stays (is_bound (judged_component known print issuers primary c founds).hangs) (is_issuer issuers c) (is_one c a)) ∙ e))
    step false e (inr b) later = later b

  key_stays : (c : CertificateValue) (founds : List Verdict) → Contains (certificate_keys c) body → Contains (certificate_keys (bound_certificate known issuers c founds)) body
  key_stays c founds h = elim (member_cases c.primary.body body (flat_map subkey_bodies c.components) h) [
    | inl e ↦ subst (λ (o : List ℕ). Contains (certificate_keys (bound_certificate known issuers c founds)) o) e (member_here c.primary.body (flat_map subkey_bodies (bound_certificate known issuers c founds).components))
    | inr b ↦ member_there c.primary.body body (flat_map subkey_bodies (bound_certificate known issuers c founds).components) (subkey_stays (print_of c.primary.body) c.primary.body c.components (drop (rows_on (one c.primary.body) c.hangs) founds) b)
  ]

  keys_stay : (cs : List CertificateValue) (founds : List Verdict) → Contains (flat_map certificate_keys cs) body → Contains (flat_map certificate_keys (bound_certificates known issuers cs founds)) body
  keys_stay [] founds h = h
  keys_stay (c ∷ cs) founds h = elim (Contains-append_cases (certificate_keys c) (flat_map certificate_keys cs) body h) [
    | inl a ↦ Contains-append_left (certificate_keys (bound_certificate known issuers c founds)) (flat_map certificate_keys (bound_certificates known issuers cs (drop (certificate_rows c) founds))) body (key_stays c founds a)
    | inr b ↦ Contains-append_right (certificate_keys (bound_certificate known issuers c founds)) (flat_map certificate_keys (bound_certificates known issuers cs (drop (certificate_rows c) founds))) body (keys_stay cs (drop (certificate_rows c) founds) b)
  ]

-- ---- of a keyring
pub issuers_known : (r : KeyringValue) (founds : List Verdict) (print : Fingerprint) → Contains (revocation_issuers r founds) print
    → (k : Known) × Contains (known_in (bound_keyring r founds)) k × (k.print ≡ print)
issuers_known r founds print h =
    let made = made_known r founds print h in
    let key = from_map known_of (keys_in r) made.0 made.1 in
    let is : print_of key.0 ≡ print = ap (λ (k : Known). k.print) key.2 ∙ made.2 in
    let among : is_print_among (revocation_issuers r founds) (print_of key.0) ≡ true =
    ap (is_print_among (revocation_issuers r founds)) is ∙ print_among (revocation_issuers r founds) print h in
    (known_of key.0, to_map known_of (keys_in (bound_keyring r founds)) key.0 (keys_stay (known_in r) (revocation_issuers r founds) key.0 among r.certificates founds key.1), is)
