-- What revokes a key in a copy of its certificate revokes it in the merged one.
use Rattle.std.proofs.Common.{◌≡◌, ◌∙◌, ℕ, Bool, true, false, ◌&&◌, ◌==◌, List, [], map, Option, Some, None, Result, Ok, Err, is_none, is_some, refl, sym, ap, subst, if◌then◌else◌, get_or, slice_get, true≢false}
use Rattle.std.specs.List.{Contains, flat_map, fold, list_any, position}
use Rattle.std.proofs.lemmas.Bool.{and_from, and_parts, eq-eqb, eqb-true}
use Rattle.std.proofs.lemmas.List.Elements.{Contains-get_or}
use Rattle.std.proofs.lemmas.List.Quantifiers.{position-Some}
use Rattle.std.proofs.lemmas.Option.{same_Some}
use Rattle.opgp_octets.specs.declared.fault.BodyFault.{BodyFault}
use Rattle.opgp_octets.specs.declared.signature_type.SignatureType.{SignatureType}
use Rattle.opgp_octets.specs.declared.signature_type.SignatureType.TheVariants as types
use Rattle.opgp_frame.specs.Packet.{PacketValue}
use Rattle.opgp_packet.specs.SignatureBody.{SignatureValue, signature_at}
use Rattle.opgp_hash.specs.Fingerprint.{print_octets, print_version}
use Rattle.opgp_hash.specs.SignedValue.{signed_of}
use Rattle.opgp_hash.specs.SubjectValue.{SubjectValue, one}
use Rattle.opgp_hash.specs.declared.fingerprints.Fingerprint.{Fingerprint}
use Rattle.opgp_hash.specs.declared.site.Site.TheVariants.{Hung}
use Rattle.opgp_keyring.specs.Keyring.{CertificateValue, ComponentValue, KeyringValue}
use Rattle.opgp_report.specs.First.{has_print, print_of}
use Rattle.opgp_report.specs.Standing.{Standing, certificate_standing, is_signature, on_head}
use Rattle.opgp_report.specs.declared.verifier.Verdict.{Verdict}
use Rattle.opgp_merge.specs.Merged.{merged_of, same_head, same_primary}
use Rattle.opgp_valid.specs.KnownKeys.{issuer_among}
use Rattle.opgp_valid.specs.Standing.{is_component, is_revocation_of, is_revoked, revokes}
use Rattle.opgp_valid.specs.Told.{author_of, is_genuine, is_print, is_print_among, named_by, revokers_at, revokers_by, told, type_in, with_revocations}
use Rattle.opgp_valid.specs.declared.facts.Key.{Key}
use Rattle.opgp_valid.specs.declared.facts.Key.TheVariants.{Primary, Subkey}
use Rattle.opgp_valid.specs.declared.known_keys.Known.{Known}
use Rattle.opgp_valid.specs.declared.policy.Policy.{Policy}
use Rattle.opgp_valid.specs.declared.statement.Author.TheVariants as author
use Rattle.opgp_valid.proofs.Members.{none_in, passes_some, some_passes}
use Rattle.opgp_bound.specs.Copies.{Deciding, decided, facts_decided}
use Rattle.opgp_bound.proofs.Hanging.{HangsOn, at_member, from_rows, member_at, outer_row, to_rows}
use Rattle.opgp_bound.proofs.Issuing.{found, from_flat, from_map, to_map}
use Rattle.opgp_bound.proofs.Revoking.{revoked_by, revokes_read, revokes_row, revokes_said, with_each}
use Rattle.opgp_bound.proofs.Staying.{flat_in}
use Rattle.opgp_bound.proofs.United.{HasAll, head_key, key_of_head, merged_has, packet_key}

-- ---- who may revoke
-- where there is a first item that passes, one passes
passing : {X : Type 0} (d : X) (p : X → Bool) (xs : List X) → is_some (position p xs) ≡ true → (x : X) × Contains xs x × (p x ≡ true)
passing {X} d p xs e = go (position p xs) refl e where
  go : (o : Option ℕ) → position p xs ≡ o → is_some o ≡ true → (x : X) × Contains xs x × (p x ≡ true)
  go None at none = absurd (cc none)
  go (Some i) at some =
      let first = position-Some p xs i d at in
      (get_or xs i d, Contains-get_or xs i d first.0, first.1)

-- each of the first is among the others, so who may revoke by the first may by the others
abbrev HasEach : List Fingerprint → List Fingerprint → Type 0
HasEach few more = (print : Fingerprint) → Contains few print → Contains more print

among_more : (few more : List Fingerprint) → HasEach few more → (o : Option Known) → is_print_among few o ≡ true → is_print_among more o ≡ true
among_more few more each None e = e
among_more few more each (Some k) e =
    let test : Fingerprint → Bool = has_print (print_version k.print) (print_octets k.print) in
    let one = passing k.print test few e in
    found test more one.0 (each one.0 one.1) one.2

author_more : (known : List Known) (policy : Policy) (primary : Fingerprint) (few more : List Fingerprint) → HasEach few more → (o : Option Known)
    → is_some (author_of known policy primary few o) ≡ true → is_some (author_of known policy primary more o) ≡ true
author_more known policy primary few more each o e = go (is_print primary o) (is_print_among few o) (is_print_among more o) (among_more few more each o) e where
  go : (own a b : Bool) → (a ≡ true → b ≡ true) → is_some (if own then Some author.Primary else (if a then Some author.Revoker else None)) ≡ true
      → is_some (if own then Some author.Primary else (if b then Some author.Revoker else None)) ≡ true
  go true a b f h = refl
  go false true b f h = ap (λ (t : Bool). is_some (if t then Some author.Revoker else None)) (f refl)
  go false false b f h = absurd (cc h)

-- ---- which key is revoked
-- what revokes the first key on the first component would revoke the second on the second
abbrev Follows : Key → Key → Option ℕ → Option ℕ → Type 0
Follows k l a b = (t : SignatureType) → is_revocation_of k t a ≡ true → is_revocation_of l t b ≡ true

follows : (k l : Key) (a b : Option ℕ) → (is_component k a ≡ true → is_component l b ≡ true) → (t : SignatureType) → is_revocation_of k t a ≡ true → is_revocation_of l t b ≡ true
follows k l a b f types.KeyRevocation e = refl
follows k l a b f types.SubkeyRevocation e = f e
follows k l a b f other e = e

-- ---- one row in the place of another
-- what names a key that may revoke isn't embedded, nor is what revokes a key
outer_revoker : (known : List Known) (primary : Fingerprint) (s : Standing) (verdict : Verdict) (print : Fingerprint) (r : Result SignatureValue BodyFault) → Contains (revokers_by known primary s verdict r) print → is_none s.place.nested ≡ true
outer_revoker known primary s verdict print (Err fault) h = absurd (none_in print h)
outer_revoker known primary s verdict print (Ok v) h = go (is_none s.place.nested) (is_genuine s verdict v) h where
  go : (a b : Bool) → Contains (if a && b then named_by known primary v else []) print → a ≡ true
  go true b g = refl
  go false b g = absurd (none_in print g)

middle : (a b c : Bool) → (a && (b && c)) ≡ true → b ≡ true
middle true true c e = refl
middle true false c e = e
middle false b c e = absurd (cc e)

outer_revocation : (known : List Known) (policy : Policy) (primary : Fingerprint) (revokers : List Fingerprint) (k : Key) (s : Standing) (verdict : Verdict) (r : Result SignatureValue BodyFault)
    → revokes_read known policy primary revokers k s verdict r ≡ true → is_none s.place.nested ≡ true
outer_revocation known policy primary revokers k s verdict (Err fault) e = absurd (cc e)
outer_revocation known policy primary revokers k s verdict (Ok v) e = middle (is_genuine s verdict v) (is_none s.place.nested) (revokes_said known policy primary revokers k s v) e

-- in another place a signature names the same keys, and revokes the key that is there
same_revokers : (known : List Known) (primary : Fingerprint) (a b : Option ℕ) (m n : ℕ) (subject : SubjectValue) (body : List ℕ) (verdict : Verdict) (r : Result SignatureValue BodyFault)
    → revokers_by known primary (outer_row a m subject body) verdict r ≡ revokers_by known primary (outer_row b n subject body) verdict r
same_revokers known primary a b m n subject body verdict (Err fault) = refl
same_revokers known primary a b m n subject body verdict (Ok v) = refl

last_two : (genuine signed a b c d : Bool) → (a ≡ true → c ≡ true) → (b ≡ true → d ≡ true) → (genuine && (signed && (a && b))) ≡ true → (genuine && (signed && (c && d))) ≡ true
last_two true true a b c d f g e = let parts = and_parts a b e in and_from c d (f parts.0) (g parts.1)
last_two true false a b c d f g e = e
last_two false signed a b c d f g e = e

still_revokes : (known : List Known) (policy : Policy) (primary : Fingerprint) (few more : List Fingerprint) (k l : Key) (a b : Option ℕ) (m n : ℕ) (subject : SubjectValue) (body : List ℕ) (verdict : Verdict) (r : Result SignatureValue BodyFault)
    → HasEach few more → Follows k l a b → revokes_read known policy primary few k (outer_row a m subject body) verdict r ≡ true → revokes_read known policy primary more l (outer_row b n subject body) verdict r ≡ true
still_revokes known policy primary few more k l a b m n subject body verdict (Err fault) each f e = e
still_revokes known policy primary few more k l a b m n subject body verdict (Ok v) each f e =
    let who : Option Known = issuer_among known v in
    last_two (is_genuine (outer_row a m subject body) verdict v) (is_some (signed_of v))
    (is_some (author_of known policy primary few who)) (is_revocation_of k (type_in v) a)
    (is_some (author_of known policy primary more who)) (is_revocation_of l (type_in v) b)
    (author_more known policy primary few more each who) (f (type_in v)) e

-- ---- from a certificate to one that has all of it
no_component : (k l : Key) → Follows k l None None
no_component Primary l = follows Primary l None None (λ e. absurd (true≢false (sym e)))
no_component (Subkey n created) l = follows (Subkey n created) l None None (λ e. absurd (true≢false (sym e)))

-- a head of the same type and body is the same subject, and such a packet is a signature, too
same_subject : (primary : List ℕ) (d e : ComponentValue) → head_key d ≡ head_key e → on_head primary d.head ≡ on_head primary e.head
same_subject primary d e h = ap (λ (k : ℕ × List ℕ). on_head primary (record { form = d.head.form; kind = k.0; body = k.1 })) h

same_sort : (p q : PacketValue) → packet_key p ≡ packet_key q → is_signature p ≡ is_signature q
same_sort p q h = ap (λ (k : ℕ × List ℕ). is_signature (record { form = p.form; kind = k.0; body = k.1 })) h

module _ (c m : CertificateValue) (all : HasAll c m) where
  -- for each component one with the same head, where what revokes the one key revokes the other
  abbrev Choice : Key → Key → Type 0
  Choice k l = (a : ℕ) (d : ComponentValue) → slice_get c.components a ≡ Some d
      → (b : ℕ) × (e : ComponentValue) × (slice_get m.components b ≡ Some e) × (head_key d ≡ head_key e) × Follows k l (Some a) (Some b)

  for_primary : Choice Primary Primary
  for_primary a d at =
      let e = all.heads d (member_at c.components a d at) in
      (e.1.0, e.0, at_member m.components e.0 e.1, e.2, follows Primary Primary (Some a) (Some e.1.0) (λ h. h))

  for_subkey : (n k created again : ℕ) (d e : ComponentValue) → slice_get c.components n ≡ Some d → slice_get m.components k ≡ Some e → same_head d e ≡ true → Choice (Subkey n created) (Subkey k again)
  for_subkey n k created again d e first second same a x at = go (a == n) refl where
    go : (t : Bool) → (a == n) ≡ t
        → (b : ℕ) × (f : ComponentValue) × (slice_get m.components b ≡ Some f) × (head_key x ≡ head_key f) × Follows (Subkey n created) (Subkey k again) (Some a) (Some b)
    go true is =
        let here : Some x ≡ Some d = sym at ∙ ap (slice_get c.components) (eqb-true a n is) ∙ first in
        (k, e, second, ap head_key (same_Some x d here) ∙ key_of_head d e same, follows (Subkey n created) (Subkey k again) (Some a) (Some k) (λ h. eq-eqb k k refl))
    go false is =
        let f = all.heads x (member_at c.components a x at) in
        (f.1.0, f.0, at_member m.components f.0 f.1, f.2, follows (Subkey n created) (Subkey k again) (Some a) (Some f.1.0) (λ h. absurd (true≢false (sym h ∙ is))))

  -- a signature is there, too, over the same subject
  moved : (k l : Key) → Choice k l → (a : Option ℕ) (subject : SubjectValue) (p : PacketValue) → is_signature p ≡ true → HangsOn c a subject p
      → (b : Option ℕ) × (n : ℕ) × Contains (certificate_standing 0 m) (outer_row b n subject p.body) × Follows k l a b
  moved k l choice None subject p signs on =
      let q = all.hangs p on.1 in
      let row = to_rows m None subject q.0 (on.0 ∙ ap one all.primary, q.1) (sym (same_sort p q.0 q.2) ∙ signs) in
      (None, row.0, subst (λ (o : List ℕ). Contains (certificate_standing 0 m) (outer_row None row.0 subject o)) (sym (ap (λ (w : ℕ × List ℕ). w.1) q.2)) row.1, no_component k l)
  moved k l choice (Some a) subject p signs on =
      let to = choice a on.0 on.1 in
      let q = all.on on.0 to.1 p (member_at c.components a on.0 on.1) (member_at m.components to.0 to.1 to.2) to.3 on.3 in
      let about : subject ≡ on_head m.primary.body to.1.head = on.2 ∙ ap (λ (o : List ℕ). on_head o on.0.head) all.primary ∙ same_subject m.primary.body on.0 to.1 to.3 in
      let row = to_rows m (Some to.0) subject q.0 (to.1, to.2, about, q.1) (sym (same_sort p q.0 q.2) ∙ signs) in
      (Some to.0, row.0, subst (λ (o : List ℕ). Contains (certificate_standing 0 m) (outer_row (Some to.0) row.0 subject o)) (sym (ap (λ (w : ℕ × List ℕ). w.1) q.2)) row.1, to.4)

-- ---- by verdicts that go by what is signed
module _ (known : List Known) (policy : Policy) (v : Deciding) where
  abbrev row_of : Standing → Standing × Verdict
  row_of s = (s, decided v s)

  abbrev rows_of : CertificateValue → List (Standing × Verdict)
  rows_of c = map row_of (certificate_standing 0 c)

  -- those that may revoke a key with this fingerprint
  abbrev named : Fingerprint → CertificateValue → List Fingerprint
  named primary c = flat_map (revokers_at known primary) (rows_of c)

  abbrev revokes_by : Fingerprint → CertificateValue → Key → Standing × Verdict → Bool
  revokes_by primary c k x = revokes_row known policy primary (named primary c) k x

  revoked_is : (c : CertificateValue) (k : Key) → is_revoked (facts_decided known policy v c) k ≡ list_any (revokes_by (print_of c.primary.body) c k) (rows_of c)
  revoked_is c k =
      let own : Fingerprint = print_of c.primary.body in
      ap (λ (l : List (Standing × Verdict)). list_any (revokes k) (with_revocations (fold (told known policy own (flat_map (revokers_at known own) l)) [] l))) (with_each (decided v) (certificate_standing 0 c))
      ∙ revoked_by known policy own (named own c) k (rows_of c)

  -- the signatures that name such a key, and those that pass a test
  named_at : (primary : Fingerprint) (c : CertificateValue) (print : Fingerprint) → Contains (named primary c) print → (s : Standing) × Contains (certificate_standing 0 c) s × Contains (revokers_at known primary (row_of s)) print
  named_at primary c print h =
      let x = from_flat (revokers_at known primary) (rows_of c) print h in
      let s = from_map row_of (certificate_standing 0 c) x.0 x.1 in
      (s.0, s.1, subst (λ (y : Standing × Verdict). Contains (revokers_at known primary y) print) (sym s.2) x.2)

  passing_at : (q : Standing × Verdict → Bool) (c : CertificateValue) → list_any q (rows_of c) ≡ true → (s : Standing) × Contains (certificate_standing 0 c) s × (q (row_of s) ≡ true)
  passing_at q c e =
      let x = some_passes q (rows_of c) e in
      let s = from_map row_of (certificate_standing 0 c) x.0 x.1 in
      (s.0, s.1, ap q s.2 ∙ x.2)

  -- the same is said in another place
  module _ (primary : Fingerprint) (s : Standing) (a b : Option ℕ) (m n : ℕ) (subject : SubjectValue) (body : List ℕ) (is : s ≡ outer_row a m subject body) where
    names_there : (print : Fingerprint) → Contains (revokers_at known primary (row_of s)) print → Contains (revokers_at known primary (row_of (outer_row b n subject body))) print
    names_there print h =
        subst (λ (l : List Fingerprint). Contains l print) (same_revokers known primary a b m n subject body (v Hung subject body) (signature_at body))
        (subst (λ (t : Standing). Contains (revokers_at known primary (row_of t)) print) is h)

    revokes_there : (few more : List Fingerprint) (k l : Key) → HasEach few more → Follows k l a b → revokes_row known policy primary few k (row_of s) ≡ true → revokes_row known policy primary more l (row_of (outer_row b n subject body)) ≡ true
    revokes_there few more k l each f e =
        still_revokes known policy primary few more k l a b m n subject body (v Hung subject body) (signature_at body) each f
        (sym (ap (λ (t : Standing). revokes_row known policy primary few k (row_of t)) is) ∙ e)

  module _ (c m : CertificateValue) (all : HasAll c m) where
    named_too : (primary : Fingerprint) → HasEach (named primary c) (named primary m)
    named_too primary print h =
        let s = named_at primary c print h in
        let from = from_rows c s.0 s.1 (outer_revoker known primary s.0 (decided v s.0) print (signature_at s.0.body) s.2) in
        let to = moved c m all Primary Primary (for_primary c m all) from.component from.subject from.packet from.signs from.hangs in
        flat_in (revokers_at known primary) print (rows_of m) (row_of (outer_row to.0 to.1 from.subject from.packet.body))
        (to_map row_of (certificate_standing 0 m) (outer_row to.0 to.1 from.subject from.packet.body) to.2)
        (names_there primary s.0 from.component to.0 from.number to.1 from.subject from.packet.body from.is print s.2)

    some_revokes : (primary : Fingerprint) (k l : Key) → Choice c m all k l → list_any (revokes_by primary c k) (rows_of c) ≡ true → list_any (revokes_by primary m l) (rows_of m) ≡ true
    some_revokes primary k l choice e =
        let s = passing_at (revokes_by primary c k) c e in
        let from = from_rows c s.0 s.1 (outer_revocation known policy primary (named primary c) k s.0 (decided v s.0) (signature_at s.0.body) s.2) in
        let to = moved c m all k l choice from.component from.subject from.packet from.signs from.hangs in
        passes_some (revokes_by primary m l) (rows_of m) (row_of (outer_row to.0 to.1 from.subject from.packet.body))
        (to_map row_of (certificate_standing 0 m) (outer_row to.0 to.1 from.subject from.packet.body) to.2)
        (revokes_there primary s.0 from.component to.0 from.number to.1 from.subject from.packet.body from.is (named primary c) (named primary m) k l (named_too primary) to.3 s.2)

    revoked_too : (k l : Key) → Choice c m all k l → is_revoked (facts_decided known policy v c) k ≡ true → is_revoked (facts_decided known policy v m) l ≡ true
    revoked_too k l choice e =
        let there = some_revokes (print_of c.primary.body) k l choice (sym (revoked_is c k) ∙ e) in
        revoked_is m l ∙ subst (λ (o : List ℕ). list_any (revokes_by (print_of o) m l) (rows_of m) ≡ true) all.primary there

-- ---- of a keyring
module _ (known : List Known) (policy : Policy) (v : Deciding) (r : KeyringValue) (c m : CertificateValue) where
  pub primary_revoked : Contains r.certificates c → Contains (merged_of r).certificates m → same_primary c m ≡ true
      → is_revoked (facts_decided known policy v c) Primary ≡ true → is_revoked (facts_decided known policy v m) Primary ≡ true
  primary_revoked there united same e =
      let all : HasAll c m = merged_has r c m there united same in
      revoked_too known policy v c m all Primary Primary (for_primary c m all) e

  pub subkey_revoked : (n k created again : ℕ) (d e : ComponentValue) → Contains r.certificates c → Contains (merged_of r).certificates m → same_primary c m ≡ true
      → slice_get c.components n ≡ Some d → slice_get m.components k ≡ Some e → same_head d e ≡ true
      → is_revoked (facts_decided known policy v c) (Subkey n created) ≡ true → is_revoked (facts_decided known policy v m) (Subkey k again) ≡ true
  subkey_revoked n k created again d e there united same first second head h =
      let all : HasAll c m = merged_has r c m there united same in
      revoked_too known policy v c m all (Subkey n created) (Subkey k again) (for_subkey c m all n k created again d e first second head) h
