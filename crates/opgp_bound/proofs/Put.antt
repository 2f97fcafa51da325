-- Key revocations of components that go, which are put behind the packets on the primary key.
use Rattle.std.proofs.Common.{◌≡◌, ◌∙◌, ◌+◌, ◌++◌, ◌==◌, ℕ, Bool, true, false, ◌&&◌, ◌||◌, List, [], ◌∷◌, map, Option, Some, None, Result, Ok, Err, is_ok, is_some, refl, sym, ap, if◌then◌else◌, true≢false}
use Rattle.std.specs.List.{filter, flat_map, list_any}
use Rattle.std.proofs.lemmas.Bool.{and_left, and_right, eqb-true, false_from_ne_true, false≢true, or_from}
use Rattle.std.proofs.lemmas.List.Elements.{All-weaker}
use Rattle.std.proofs.lemmas.List.Folds.{list_any-append, list_any_none}
use Rattle.opgp_octets.specs.SignatureType.{signature_type_number, signature_type_of}
use Rattle.opgp_octets.specs.declared.fault.BodyFault.{BodyFault}
use Rattle.opgp_octets.specs.declared.packet_type.PacketType.TheVariants as packet
use Rattle.opgp_octets.specs.declared.signature_type.SignatureType.{SignatureType}
use Rattle.opgp_octets.specs.declared.signature_type.SignatureType.TheVariants as types
use Rattle.opgp_octets.specs.declared.subpacket_kind.SubpacketKind.TheVariants as kind
use Rattle.opgp_frame.specs.Header.{is_type}
use Rattle.opgp_frame.specs.Packet.{PacketValue}
use Rattle.opgp_packet.specs.Areas.{hashed_subs}
use Rattle.opgp_packet.specs.SignatureBody.{SignatureValue, signature_at}
use Rattle.opgp_hash.specs.Asking.{applies, ask_at_of, asked, asked_by, why_not}
use Rattle.opgp_hash.specs.QuestionValue.{QuestionValue}
use Rattle.opgp_hash.specs.SignedValue.{SignedValue, signed_of}
use Rattle.opgp_hash.specs.Site.{is_asked_at}
use Rattle.opgp_hash.specs.SubjectValue.{SubjectValue, first_key, is_about, is_certification, is_on_subkey, on_attribute, on_user_id, one, two}
use Rattle.opgp_hash.specs.SubjectValue as hash
use Rattle.opgp_hash.specs.declared.fingerprints.Fingerprint.{Fingerprint}
use Rattle.opgp_hash.specs.declared.site.Site.TheVariants.{Embedded, Hung}
use Rattle.opgp_hash.specs.declared.why.Why.{Why}
use Rattle.opgp_hash.specs.declared.why.Why.TheVariants.{Kind, Misplaced}
use Rattle.opgp_keyring.specs.Keyring.{CertificateValue, ComponentValue}
use Rattle.opgp_report.specs.First.{print_of}
use Rattle.opgp_report.specs.Named.{named_of}
use Rattle.opgp_report.specs.Standing.{bodies_within, is_signature, nested_at, on_head, stands}
use Rattle.opgp_report.specs.declared.verifier.Verdict.{Verdict}
use Rattle.opgp_valid.specs.Group.{is_the}
use Rattle.opgp_valid.specs.KnownKeys.{issuer_among}
use Rattle.opgp_valid.specs.Revocation.{alone_in, question_if, revocation_read}
use Rattle.opgp_valid.specs.Subpackets.{lasts_in, numbers_in, reason_in}
use Rattle.opgp_valid.specs.Told.{author_of, back_in, is_asked_alone, is_good_verdict, is_right, life_by, lives_by, revokes_key, second_key, stated_by, statement_of, type_by, type_in}
use Rattle.opgp_valid.specs.Told as told
use Rattle.opgp_valid.specs.declared.known_keys.Known.{Known}
use Rattle.opgp_valid.specs.declared.policy.Policy.{Policy}
use Rattle.opgp_valid.specs.declared.statement.Author.{Author}
use Rattle.opgp_valid.specs.declared.statement.Life.{Life}
use Rattle.opgp_valid.specs.declared.statement.Statement.{Statement}
use Rattle.opgp_valid.proofs.Renumbered.{any_map}
use Rattle.opgp_merge.specs.Chosen.{is_name_of}
use Rattle.opgp_bound.specs.Before.{SaysSameAnywhere, hashed, hashed_else}
use Rattle.opgp_bound.specs.Bound.{component_stays, kept, kept_component, kept_components, left_behind, packets_of, revokes, role_stays}
use Rattle.opgp_bound.specs.Copies.{Deciding}
use Rattle.opgp_bound.specs.Judged.{JudgedComponentValue, JudgedValue}
use Rattle.opgp_bound.specs.Role.{is_own_and_good, is_self_type, role_read}
use Rattle.opgp_bound.specs.declared.role.Role.TheVariants.{Other}
use Rattle.opgp_bound.proofs.Decided.{bound_by, component_on, judged_on, role_on}
use Rattle.opgp_bound.proofs.Placed.{in_parts, numbered, on, said, said_of, said_on, said_one, set_back, start, with_all, with_one}
use Rattle.opgp_bound.proofs.Revoking.{of_alike, of_changed}
use Rattle.opgp_bound.proofs.Roles.{IsIn, going_is_self, other_revokes_not, revokes_is, said_is, self_revokes_not, typed_is}

-- ---- tests
or_swap : (a b c : Bool) → (a || (b || c)) ≡ (b || (a || c))
or_swap true true c = refl
or_swap true false c = refl
or_swap false b c = refl

or_join : (a b c : Bool) → (a || (b || c)) ≡ ((a || b) || c)
or_join true b c = refl
or_join false b c = refl

-- ---- what a key revocation on a component hashes there
abbrev OtherType : SignatureType → Type 0
OtherType t = revokes_key (signature_type_of (signature_type_number t)) ≡ false

binding_other : OtherType types.SubkeyBinding
unfolding signature_type_of
binding_other = refl

back_other : OtherType types.PrimaryKeyBinding
unfolding signature_type_of
back_other = refl

subkey_other : OtherType types.SubkeyRevocation
unfolding signature_type_of
subkey_other = refl

generic_other : OtherType types.GenericCertification
unfolding signature_type_of
generic_other = refl

persona_other : OtherType types.PersonaCertification
unfolding signature_type_of
persona_other = refl

casual_other : OtherType types.CasualCertification
unfolding signature_type_of
casual_other = refl

positive_other : OtherType types.PositiveCertification
unfolding signature_type_of
positive_other = refl

certification_other : OtherType types.CertificationRevocation
unfolding signature_type_of
certification_other = refl

module _ (n : ℕ) (e : revokes_key (signature_type_of n) ≡ true) where
  not_of : (t : SignatureType) → OtherType t → hash.is_type t n ≡ false
  not_of t h = false_from_ne_true (n == signature_type_number t) (λ g. true≢false (sym e ∙ ap (λ (m : ℕ). revokes_key (signature_type_of m)) (eqb-true n (signature_type_number t) g) ∙ h))

  not_on_subkey : is_on_subkey n ≡ false
  not_on_subkey = or_from _ _ (not_of types.SubkeyBinding binding_other) (or_from _ _ (not_of types.PrimaryKeyBinding back_other) (not_of types.SubkeyRevocation subkey_other))

  not_certification : is_certification n ≡ false
  not_certification =
      or_from _ _ (not_of types.GenericCertification generic_other)
      (or_from _ _ (not_of types.PersonaCertification persona_other)
      (or_from _ _ (not_of types.CasualCertification casual_other)
      (or_from _ _ (not_of types.PositiveCertification positive_other) (not_of types.CertificationRevocation certification_other))))

  not_about : (body : List ℕ) (head : PacketValue) → is_about n (on_head body head) ≡ false
  not_about body head = go (is_type packet.UserId head.kind) (is_type packet.UserAttribute head.kind) where
    go : (a b : Bool) → is_about n (if a then on_user_id body head.body else (if b then on_attribute body head.body else two body head.body)) ≡ false
    go true b = not_certification
    go false true = not_certification
    go false false = not_on_subkey

misplaced : (s : SignedValue) (subject : SubjectValue) (there : Bool) → there ≡ false → is_ok (asked s subject (why_not there s subject)) ≡ false
misplaced s subject there e =
    ap (λ (t : Bool). is_ok (asked s subject (why_not t s subject))) e ∙ go (applies false s subject Kind) where
      go : (t : Bool) → is_ok (asked s subject (if t then Some Kind else Some Misplaced)) ≡ false
      go true = refl
      go false = refl

-- it isn't asked over what it follows
not_asked : (body : List ℕ) (head : PacketValue) (w : SignatureValue) → revokes_key (type_in w) ≡ true → is_ok (ask_at_of Hung w (on_head body head)) ≡ false
not_asked body head w e = go (signed_of w) e where
  go : (o : Option SignedValue) → revokes_key (type_by o) ≡ true → is_ok (asked_by (is_asked_at Hung) o (on_head body head)) ≡ false
  go None f = refl
  go (Some s) f = misplaced s (on_head body head) (is_asked_at Hung s.kind (on_head body head)) (and_left (is_about s.kind (on_head body head)) _ (not_about s.kind f body head))

-- what is on a component hashes the primary key first
first_is : (body : List ℕ) (head : PacketValue) → first_key (on_head body head) ≡ Some body
first_is body head = go (is_type packet.UserId head.kind) (is_type packet.UserAttribute head.kind) where
  go : (a b : Bool) → first_key (if a then on_user_id body head.body else (if b then on_attribute body head.body else two body head.body)) ≡ Some body
  go true b = refl
  go false true = refl
  go false false = refl

either_alone : (alone revoking : Bool) → revoking ≡ true → (alone || ((true && revoking) && alone)) ≡ alone
either_alone true revoking e = refl
either_alone false true e = refl
either_alone false false e = refl

none_there : (asked alone revoking : Bool) → asked ≡ false → revoking ≡ true → (asked || ((true && revoking) && alone)) ≡ alone
none_there false alone true e f = refl
none_there false alone false e f = absurd (false≢true f)
none_there true alone revoking e f = absurd (true≢false e)

module _ (v : Deciding) (says : SaysSameAnywhere v) (body : List ℕ) (head : PacketValue) (octets : List ℕ) (w : SignatureValue) (read : signature_at octets ≡ Ok w) (revoking : revokes_key (type_in w) ≡ true) where
  abbrev there : SubjectValue
  there = on_head body head

  abbrev alone : Bool
  alone = is_ok (ask_at_of Hung w (one body))

  is_hashed : (subject : SubjectValue) (q : QuestionValue) → first_key subject ≡ Some body → ask_at_of Hung w (one body) ≡ Ok q → hashed (stands Hung start subject octets) ≡ Some q
  is_hashed subject q first e =
      ap (hashed_else (stands Hung start subject octets))
      (ap (revocation_read start subject) read
      ∙ ap (λ (t : Bool). if true && t then alone_in (first_key subject) w else None) revoking
      ∙ ap (λ (o : Option (List ℕ)). alone_in o w) first
      ∙ ap question_if e)

  asked_is : (told.is_asked Hung start (one body) w ≡ alone) × (told.is_asked Hung start there w ≡ alone)
  asked_is = (
    either_alone alone (revokes_key (type_in w)) revoking,
    ap (λ (o : Option (List ℕ)). is_ok (ask_at_of Hung w there) || ((true && revokes_key (type_in w)) && is_asked_alone o w)) (first_is body head)
        ∙ none_there (is_ok (ask_at_of Hung w there)) alone (revokes_key (type_in w)) (not_asked body head w revoking) revoking,
  )

  -- so it is right there if it is right on the primary key
  right_same : is_right Hung start (one body) (v Hung (one body) octets) w ≡ is_right Hung start there (v Hung there octets) w
  right_same =
      ap (λ (t : Bool). is_good_verdict (v Hung (one body) octets) && t) asked_is.0
      ∙ go (ask_at_of Hung w (one body)) refl
      ∙ sym (ap (λ (t : Bool). is_good_verdict (v Hung there octets) && t) asked_is.1) where
        go : (r : Result QuestionValue Why) → ask_at_of Hung w (one body) ≡ r → (is_good_verdict (v Hung (one body) octets) && alone) ≡ (is_good_verdict (v Hung there octets) && alone)
        go (Ok q) e =
            ap (λ (found : Verdict). is_good_verdict found && alone)
            (says (stands Hung start (one body) octets) (stands Hung start there octets) q refl (is_hashed (one body) q refl e) (is_hashed there q (first_is body head) e))
        go (Err why) e =
            let none : alone ≡ false = ap (λ (r : Result QuestionValue Why). is_ok r) e in
            and_right (is_good_verdict (v Hung (one body) octets)) alone none ∙ sym (and_right (is_good_verdict (v Hung there octets)) alone none)

-- ---- which packets revoke a key, for a reason that is asked for
module _ (known : List Known) (policy : Policy) (print : Fingerprint) (revokers : List Fingerprint) (v : Deciding) (ok : Option ℕ → Bool) where
  abbrev pub is_sought : Statement → Bool
  is_sought s = revokes_key s.kind && ok s.reason

  abbrev tells : SignatureValue → Bool
  tells w = is_some (signed_of w) && (is_some (author_of known policy print revokers (issuer_among known w)) && (revokes_key (type_in w) && ok (reason_in (hashed_subs w))))

  abbrev read_tells : SubjectValue → Verdict → Result SignatureValue BodyFault → Bool
  read_tells subject found (Err fault) = false
  read_tells subject found (Ok w) = is_right Hung start subject found w && tells w

  abbrev tells_it : SubjectValue → PacketValue → Bool
  tells_it subject p = is_signature p && read_tells subject (v Hung subject p.body) (signature_at p.body)

  of_lives : (f : Option Life → Statement) (t : Bool) → ((life : Option Life) → is_sought (f life) ≡ t) → (lasts : ℕ) (made : List ℕ) → list_any is_sought (map f (lives_by lasts made)) ≡ t
  of_lives f t same lasts [] = of_alike is_sought f t same None []
  of_lives f t same lasts (m ∷ ms) = of_alike is_sought f t same (Some (life_by lasts m)) (map (λ n. Some (life_by lasts n)) ms)

  of_author : (subject : SubjectValue) (w : SignatureValue) (o : Option Author) → list_any is_sought (stated_by known policy print revokers start subject w o) ≡ (is_some o && (revokes_key (type_in w) && ok (reason_in (hashed_subs w))))
  of_author subject w None = refl
  of_author subject w (Some by) =
      of_lives (statement_of known policy print revokers start subject w by) (revokes_key (type_in w) && ok (reason_in (hashed_subs w))) (λ life. refl) (lasts_in kind.Expires (hashed_subs w)) (numbers_in kind.Created (hashed_subs w))

  of_one : (subject : SubjectValue) (found : Verdict) (r : Result SignatureValue BodyFault) → list_any is_sought (said_one known policy print revokers v subject found r) ≡ read_tells subject found r
  of_one subject found (Err fault) = refl
  of_one subject found (Ok w) = go (is_right Hung start subject found w) (is_some (signed_of w)) where
    who : Option Author
    who = author_of known policy print revokers (issuer_among known w)

    go : (t u : Bool) → list_any is_sought (if t then (if u then stated_by known policy print revokers start subject w who else []) else []) ≡ (t && (u && (is_some who && (revokes_key (type_in w) && ok (reason_in (hashed_subs w))))))
    go true true = of_author subject w who
    go true false = refl
    go false u = refl

  of_with : (subject : SubjectValue) (n : ℕ) (found : Verdict) (r : Result SignatureValue BodyFault) (ss : List Statement) → list_any is_sought (with_one known policy print revokers v subject n found r ss) ≡ list_any is_sought ss
  of_with subject n found (Err fault) ss = refl
  of_with subject n found (Ok w) ss = go (is_right Embedded (nested_at start n) subject found w) (is_the 0 (Some n)) where
    life : Option Life
    life = back_in known policy print (second_key subject) w

    go : (t u : Bool) → list_any is_sought (if t then (if u then told.change_last (set_back life) ss else ss) else ss) ≡ list_any is_sought ss
    go true true = of_changed is_sought (set_back life) (λ s. refl) ss
    go true false = refl
    go false u = refl

  of_all : (subject : SubjectValue) (n : ℕ) (bodies : List (List ℕ)) (ss : List Statement) → list_any is_sought (with_all known policy print revokers v subject n bodies ss) ≡ list_any is_sought ss
  of_all subject n [] ss = refl
  of_all subject n (body ∷ bodies) ss =
      of_all subject (n + 1) bodies (with_one known policy print revokers v subject n (v Embedded subject body) (signature_at body) ss)
      ∙ of_with subject n (v Embedded subject body) (signature_at body) ss

  of_packet : (subject : SubjectValue) (p : PacketValue) → list_any is_sought (said_of known policy print revokers v subject p) ≡ tells_it subject p
  of_packet subject p = go (is_signature p) where
    go : (t : Bool) → list_any is_sought (if t then said known policy print revokers v subject p.body else []) ≡ (t && read_tells subject (v Hung subject p.body) (signature_at p.body))
    go true =
        of_all subject 0 (bodies_within subject (signature_at p.body)) (said_one known policy print revokers v subject (v Hung subject p.body) (signature_at p.body))
        ∙ of_one subject (v Hung subject p.body) (signature_at p.body)
    go false = refl

  -- ---- all of them
  abbrev some_tells : SubjectValue → List PacketValue → Bool
  some_tells subject ps = list_any (tells_it subject) ps

  abbrev some_tell : List ℕ → List ComponentValue → Bool
  some_tell body ds = list_any (λ d. some_tells (on_head body d.head) d.hangs) ds

  of_packets : (o : Option ℕ) (subject : SubjectValue) (ps : List PacketValue) → list_any is_sought (flat_map (said_on known policy print revokers v o subject) ps) ≡ some_tells subject ps
  of_packets o subject [] = refl
  of_packets o subject (p ∷ ps) =
      let rest : List Statement = flat_map (said_on known policy print revokers v o subject) ps in
      list_any-append is_sought (said_on known policy print revokers v o subject p) rest
      ∙ ap (λ (t : Bool). t || list_any is_sought rest) (any_map (on o) is_sought is_sought (λ s. refl) (said_of known policy print revokers v subject p) ∙ of_packet subject p)
      ∙ ap (λ (t : Bool). tells_it subject p || t) (of_packets o subject ps)

  of_components : (q : ℕ → ℕ) (body : List ℕ) (n : ℕ) (ds : List ComponentValue) → list_any is_sought (numbered (said_on known policy print revokers v) q body n ds) ≡ some_tell body ds
  of_components q body n [] = refl
  of_components q body n (d ∷ ds) =
      let these : List Statement = flat_map (said_on known policy print revokers v (Some (q n)) (on_head body d.head)) d.hangs in
      let rest : List Statement = numbered (said_on known policy print revokers v) q body (n + 1) ds in
      list_any-append is_sought these rest
      ∙ ap (λ (t : Bool). t || list_any is_sought rest) (of_packets (Some (q n)) (on_head body d.head) d.hangs)
      ∙ ap (λ (t : Bool). some_tells (on_head body d.head) d.hangs || t) (of_components q body (n + 1) ds)

  pub of_parts : (q : ℕ → ℕ) (c : CertificateValue) → list_any is_sought (in_parts (said_on known policy print revokers v) q c) ≡ (some_tells (one c.primary.body) c.hangs || some_tell c.primary.body c.components)
  of_parts q c =
      let these : List Statement = flat_map (said_on known policy print revokers v None (one c.primary.body)) c.hangs in
      let rest : List Statement = numbered (said_on known policy print revokers v) q c.primary.body 0 c.components in
      list_any-append is_sought these rest
      ∙ ap (λ (t : Bool). t || list_any is_sought rest) (of_packets None (one c.primary.body) c.hangs)
      ∙ ap (λ (t : Bool). some_tells (one c.primary.body) c.hangs || t) (of_components q c.primary.body 0 c.components)

  -- ---- what goes tells of none
  tells_none : (subject : SubjectValue) (p : PacketValue) → ((k : SignatureType) (by : Author) → IsIn known policy print revokers v subject p k by → revokes_key k ≡ false) → tells_it subject p ≡ false
  tells_none subject p f =
      sym (of_packet subject p)
      ∙ list_any_none is_sought (said_of known policy print revokers v subject p)
      (All-weaker (λ (s : Statement). IsIn known policy print revokers v subject p s.kind s.author) (λ (s : Statement). is_sought s ≡ false) (λ s h. and_left (revokes_key s.kind) (ok s.reason) (f s.kind s.author h))
      (said_of known policy print revokers v subject p) (said_is known policy print revokers v subject p))

  kept_tells : (subject : SubjectValue) (ps : List PacketValue) → some_tells subject (kept (map (judged_on known print v subject) ps)) ≡ some_tells subject ps
  kept_tells subject [] = refl
  kept_tells subject (p ∷ ps) = go (role_stays (role_on known print v subject p)) refl (kept_tells subject ps) where
    rest : List JudgedValue
    rest = filter (λ j. role_stays j.role) (map (judged_on known print v subject) ps)

    go : (t : Bool) → role_stays (role_on known print v subject p) ≡ t → some_tells subject (packets_of rest) ≡ some_tells subject ps
        → some_tells subject (packets_of (if t then judged_on known print v subject p ∷ rest else rest)) ≡ (tells_it subject p || some_tells subject ps)
    go true e r = ap (λ (t : Bool). tells_it subject p || t) r
    go false e r =
        r ∙ sym (ap (λ (t : Bool). t || some_tells subject ps) (tells_none subject p (λ k by h. self_revokes_not k (going_is_self known policy print revokers v subject subject p k by h e))))

  -- ---- what is put elsewhere tells the same
  module _ (says : SaysSameAnywhere v) (body : List ℕ) where
    moved_read : (head : PacketValue) (octets : List ℕ) (r : Result SignatureValue BodyFault) → signature_at octets ≡ r → revokes (role_read known print (on_head body head) (v Hung (on_head body head) octets) r) ≡ true
        → read_tells (one body) (v Hung (one body) octets) r ≡ read_tells (on_head body head) (v Hung (on_head body head) octets) r
    moved_read head octets (Err fault) read e = refl
    moved_read head octets (Ok w) read e = go (is_some (signed_of w)) refl where
      there : SubjectValue
      there = on_head body head

      found : Verdict
      found = v Hung there octets

      rest : Bool
      rest = is_some (author_of known policy print revokers (issuer_among known w)) && (revokes_key (type_in w) && ok (reason_in (hashed_subs w)))

      go : (t : Bool) → is_some (signed_of w) ≡ t → (is_right Hung start (one body) (v Hung (one body) octets) w && (t && rest)) ≡ (is_right Hung start there found w && (t && rest))
      go true f =
          let revoking : revokes_key (type_in w) ≡ true =
          revokes_is (is_self_type (type_in w) && is_name_of (named_of w) print) (is_own_and_good known print there found w) (revokes_key (type_in w))
          (ap revokes (sym (typed_is known policy print revokers v there found w f)) ∙ e) in
          ap (λ (t : Bool). t && (true && rest)) (right_same v says body head octets w read revoking)
      go false f = and_right (is_right Hung start (one body) (v Hung (one body) octets) w) false refl ∙ sym (and_right (is_right Hung start there found w) false refl)

    moved_tells : (head : PacketValue) (p : PacketValue) → revokes (role_on known print v (on_head body head) p) ≡ true → tells_it (one body) p ≡ tells_it (on_head body head) p
    moved_tells head p = go (is_signature p) where
      found : Verdict
      found = v Hung (on_head body head) p.body

      go : (t : Bool) → revokes (if t then role_read known print (on_head body head) found (signature_at p.body) else Other) ≡ true
          → (t && read_tells (one body) (v Hung (one body) p.body) (signature_at p.body)) ≡ (t && read_tells (on_head body head) found (signature_at p.body))
      go true e = moved_read head p.body (signature_at p.body) refl e
      go false e = refl

    left_tells : (head : PacketValue) (ps : List PacketValue) → some_tells (one body) (packets_of (filter (λ j. revokes j.role) (map (judged_on known print v (on_head body head)) ps))) ≡ some_tells (on_head body head) ps
    left_tells head [] = refl
    left_tells head (p ∷ ps) = go (revokes (role_on known print v (on_head body head) p)) refl (left_tells head ps) where
      there : SubjectValue
      there = on_head body head

      rest : List JudgedValue
      rest = filter (λ j. revokes j.role) (map (judged_on known print v there) ps)

      go : (t : Bool) → revokes (role_on known print v there p) ≡ t → some_tells (one body) (packets_of rest) ≡ some_tells there ps
          → some_tells (one body) (packets_of (if t then judged_on known print v there p ∷ rest else rest)) ≡ (tells_it there p || some_tells there ps)
      go true e r = ap (λ (t : Bool). t || some_tells (one body) (packets_of rest)) (moved_tells head p e) ∙ ap (λ (t : Bool). tells_it there p || t) r
      go false e r =
          r ∙ sym (ap (λ (t : Bool). t || some_tells there ps) (tells_none there p (λ k by h. other_revokes_not known policy print revokers v there there p k by h e)))

    module _ (issuers : List Fingerprint) where
      abbrev its : ComponentValue → JudgedComponentValue
      its d = component_on known print v issuers body d

      components_tell : (ds : List ComponentValue) → some_tell body ds ≡ (some_tells (one body) (flat_map left_behind (map its ds)) || some_tell body (kept_components (map its ds)))
      components_tell [] = refl
      components_tell (d ∷ ds) = go (component_stays (its d)) (components_tell ds) where
        there : SubjectValue
        there = on_head body d.head

        left : List PacketValue
        left = flat_map left_behind (map its ds)

        rest : List JudgedComponentValue
        rest = filter component_stays (map its ds)

        behind : List PacketValue
        behind = packets_of (filter (λ j. revokes j.role) (its d).hangs)

        go : (t : Bool) → some_tell body ds ≡ (some_tells (one body) left || some_tell body (map kept_component rest))
            → (some_tells there d.hangs || some_tell body ds) ≡ (some_tells (one body) ((if t then [] else behind) ++ left) || some_tell body (map kept_component (if t then its d ∷ rest else rest)))
        go true r =
            ap (λ (t : Bool). some_tells there d.hangs || t) r
            ∙ or_swap (some_tells there d.hangs) (some_tells (one body) left) (some_tell body (map kept_component rest))
            ∙ ap (λ (t : Bool). some_tells (one body) left || (t || some_tell body (map kept_component rest))) (sym (kept_tells there d.hangs))
        go false r =
            ap (λ (t : Bool). some_tells there d.hangs || t) r
            ∙ or_join (some_tells there d.hangs) (some_tells (one body) left) (some_tell body (map kept_component rest))
            ∙ ap (λ (t : Bool). (t || some_tells (one body) left) || some_tell body (map kept_component rest)) (sym (left_tells d.head d.hangs))
            ∙ ap (λ (t : Bool). t || some_tell body (map kept_component rest)) (sym (list_any-append (tells_it (one body)) behind left))

-- ---- of a certificate
module _ (known : List Known) (policy : Policy) (revokers : List Fingerprint) (v : Deciding) (says : SaysSameAnywhere v) (issuers : List Fingerprint) (c : CertificateValue) (ok : Option ℕ → Bool) where
  pub sought_same : (q : ℕ → ℕ)
      → list_any (is_sought known policy (print_of c.primary.body) revokers v ok) (in_parts (said_on known policy (print_of c.primary.body) revokers v) (λ n. n) c)
      ≡ list_any (is_sought known policy (print_of c.primary.body) revokers v ok) (in_parts (said_on known policy (print_of c.primary.body) revokers v) q (bound_by known v issuers c))
  sought_same q =
      let print : Fingerprint = print_of c.primary.body in
      let body : List ℕ = c.primary.body in
      let its_own : List PacketValue = kept (map (judged_on known print v (one body)) c.hangs) in
      let left : List PacketValue = flat_map left_behind (map (component_on known print v issuers body) c.components) in
      let others : Bool = some_tell known policy print revokers v ok body (kept_components (map (component_on known print v issuers body) c.components)) in
      of_parts known policy print revokers v ok (λ n. n) c
      ∙ ap (λ (t : Bool). some_tells known policy print revokers v ok (one body) c.hangs || t) (components_tell known policy print revokers v ok says body issuers c.components)
      ∙ or_join (some_tells known policy print revokers v ok (one body) c.hangs) (some_tells known policy print revokers v ok (one body) left) others
      ∙ ap (λ (t : Bool). (t || some_tells known policy print revokers v ok (one body) left) || others) (sym (kept_tells known policy print revokers v ok (one body) c.hangs))
      ∙ ap (λ (t : Bool). t || others) (sym (list_any-append (tells_it known policy print revokers v ok (one body)) its_own left))
      ∙ sym (of_parts known policy print revokers v ok q (bound_by known v issuers c))
