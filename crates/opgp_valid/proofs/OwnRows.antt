-- The rows of a certificate where nothing is decided of what other keys certify.
use Rattle.std.proofs.Common.{◌≡◌, ◌∙◌, ◌++◌, ℕ, ◌+◌, ◌≤◌, ◌==◌, List, [], ◌∷◌, map, Bool, true, false, ◌&&◌, ◌||◌, not, cond, Option, Some, None, is_none, is_some, Result, Ok, Err, inl, inr, refl, sym, ap, subst, arith, append-nil}
use Rattle.std.specs.List.{filter, flat_map, fold, list_any}
use Rattle.std.proofs.lemmas.Bool.{and_parts, and_right, eqb-true, false_from_ne_true, false≢true, not-true, or_from, true≢false}
use Rattle.std.proofs.lemmas.List.{map-append}
use Rattle.std.proofs.lemmas.List.Elements.{filter-append}
use Rattle.std.proofs.lemmas.List.Folds.{list_any-append}
use Rattle.std.proofs.lemmas.List.Sums.{fold-append}
use Rattle.opgp_hash.specs.SubjectValue.{SubjectValue, one}
use Rattle.opgp_hash.specs.SignedValue.{SignedValue, signed_of}
use Rattle.opgp_hash.specs.declared.fingerprints.Fingerprint.{Fingerprint}
use Rattle.opgp_hash.specs.declared.fingerprints.Fingerprint.TheVariants.{Four}
use Rattle.opgp_hash.specs.declared.site.Site.TheVariants.{Hung, Embedded}
use Rattle.opgp_frame.specs.Packet.{PacketValue}
use Rattle.opgp_octets.specs.SignatureType.{signature_type_number, signature_type_of}
use Rattle.opgp_octets.specs.declared.fault.BodyFault.{BodyFault}
use Rattle.opgp_octets.specs.declared.signature_type.SignatureType.{SignatureType}
use Rattle.opgp_octets.specs.declared.signature_type.SignatureType.TheVariants as types
use Rattle.opgp_packet.specs.Areas.{hashed_subs, unhashed_subs}
use Rattle.opgp_packet.specs.SignatureBody.{SignatureValue, signature_at}
use Rattle.opgp_keyring.specs.Keyring.{CertificateValue, ComponentValue}
use Rattle.opgp_report.specs.Standing.{Standing, bodies_within, by_number, certificate_standing, component_standing, hang_standing, hangs_standing, held_bodies, hung_at, is_binding, is_on_two, is_signature, nested_at, nested_standing, on_head, signature_standing, stands}
use Rattle.opgp_report.specs.declared.place.Place.{Place}
use Rattle.opgp_report.specs.declared.verifier.Verdict.{Verdict}
use Rattle.opgp_report.specs.declared.verifier.Verdict.TheVariants.{Undecided}
use Rattle.opgp_valid.specs.Group.{certifies}
use Rattle.opgp_valid.specs.KnownKeys.{issuer_among}
use Rattle.opgp_valid.specs.Laws.{is_others, unless_others}
use Rattle.opgp_valid.specs.State.{revokes_certification}
use Rattle.opgp_valid.specs.Subpackets.{revokers_in}
use Rattle.opgp_valid.specs.Told.{author_of, first_verdict, holds, is_genuine, is_print, is_print_among, issuer, lives_in, names_revokers, rest_of, revokers_at, revokers_by, stated, stated_by, statement_of, told_with, type_by, type_in, with_verdicts}
use Rattle.opgp_valid.specs.declared.known_keys.Known.{Known}
use Rattle.opgp_valid.specs.declared.policy.Policy.{Policy}
use Rattle.opgp_valid.specs.declared.statement.Author.TheVariants.{Primary, Revoker}
use Rattle.opgp_valid.specs.declared.statement.Life.{Life}
use Rattle.opgp_valid.specs.declared.statement.Statement.{Statement}
use Rattle.opgp_valid.proofs.Counting.{CountAlike, counts, revokes_keys}
use Rattle.opgp_valid.proofs.Groups.{IsFrom, elsewhere, group_apart, group_away, rank, tell}

-- ---- what certifies, or revokes a certification
abbrev is_on_identities : SignatureType → Bool
is_on_identities t = certifies t || revokes_certification t

-- it revokes no key
revokes_none : (t : SignatureType) → is_on_identities t ≡ true → revokes_keys t ≡ false
revokes_none types.KeyRevocation e = absurd (false≢true e)
revokes_none types.SubkeyRevocation e = absurd (false≢true e)
revokes_none other e = refl

binding_is : signature_type_of (signature_type_number types.SubkeyBinding) ≡ types.SubkeyBinding
unfolding signature_type_of
binding_is = refl

-- it binds no subkey, and so embeds nothing
binds_none : (o : Option SignedValue) → is_on_identities (type_by o) ≡ true → is_binding o ≡ false
binds_none None h = refl
binds_none (Some s) h =
    false_from_ne_true (s.kind == signature_type_number types.SubkeyBinding)
    (λ e. true≢false (sym h ∙ ap is_on_identities (ap signature_type_of (eqb-true s.kind (signature_type_number types.SubkeyBinding) e) ∙ binding_is)))

none_within : (subject : SubjectValue) (v : SignatureValue) → is_on_identities (type_in v) ≡ true → bodies_within subject (Ok v) ≡ []
none_within subject v h =
    ap (λ (t : Bool). cond t (held_bodies (hashed_subs v) ++ held_bodies (unhashed_subs v)) []) (and_right (is_on_two subject) (is_binding (signed_of v)) (binds_none (signed_of v) h))

-- ---- lists
same_choice : {A : Type 0} (t : Bool) (xs : List A) → cond t xs xs ≡ xs
same_choice true xs = refl
same_choice false xs = refl

none_chosen : (t : Bool) (xs : List Statement) → filter counts xs ≡ [] → filter counts (cond t xs []) ≡ []
none_chosen true xs e = e
none_chosen false xs e = refl

-- the verdicts behind those on these rows
abbrev behind : List Verdict → List Standing → List Verdict
behind founds [] = founds
behind founds (s ∷ ss) = behind (rest_of founds) ss

module _ (known : List Known) (primary : Fingerprint) where
  -- a row, with nothing decided of what other keys certify
  abbrev pub own : Standing × Verdict → Standing × Verdict
  own x = (x.0, unless_others known primary x)

  pub own_rows : (founds : List Verdict) (ss : List Standing) → with_verdicts (map (unless_others known primary) (with_verdicts founds ss)) ss ≡ map own (with_verdicts founds ss)
  own_rows founds [] = refl
  own_rows founds (s ∷ ss) = ap (λ (l : List (Standing × Verdict)). own (s, first_verdict founds) ∷ l) (own_rows (rest_of founds) ss)

  -- ---- they name no other keys that may revoke
  names_nothing : (s : Standing) (found : Verdict) (v : SignatureValue) → is_print primary (issuer_among known v) ≡ false → revokers_by known primary s found (Ok v) ≡ []
  names_nothing s found v e =
      ap (λ (l : List Fingerprint). cond (is_none s.place.nested && is_genuine s found v) l []) (ap (λ (t : Bool). cond t (map Four (revokers_in (hashed_subs v))) []) (and_right (names_revokers (type_in v)) (is_print primary (issuer_among known v)) e))
      ∙ same_choice (is_none s.place.nested && is_genuine s found v) []

  own_names : (s : Standing) (found : Verdict) (r : Result SignatureValue BodyFault) → revokers_by known primary s (cond (is_none s.place.nested && is_others known primary r) Undecided found) r ≡ revokers_by known primary s found r
  own_names s found (Err fault) = refl
  own_names s found (Ok v) = step (is_none s.place.nested && is_others known primary (Ok v)) refl where
    step : (t : Bool) → (is_none s.place.nested && is_others known primary (Ok v)) ≡ t → revokers_by known primary s (cond t Undecided found) (Ok v) ≡ revokers_by known primary s found (Ok v)
    step true e =
        let others : is_others known primary (Ok v) ≡ true = (and_parts (is_none s.place.nested) (is_others known primary (Ok v)) e).1 in
        let other : is_print primary (issuer_among known v) ≡ false = not-true (is_print primary (issuer_among known v)) (and_parts (is_on_identities (type_in v)) (not (is_print primary (issuer_among known v))) others).1 in
        names_nothing s Undecided v other ∙ sym (names_nothing s found v other)
    step false e = refl

  pub own_revokers : (rows : List (Standing × Verdict)) → flat_map (revokers_at known primary) (map own rows) ≡ flat_map (revokers_at known primary) rows
  own_revokers [] = refl
  own_revokers (x ∷ rows) =
      ap (λ (l : List Fingerprint). l ++ flat_map (revokers_at known primary) (map own rows)) (own_names x.0 x.1 (signature_at x.0.body))
      ∙ ap (λ (l : List Fingerprint). revokers_at known primary x ++ l) (own_revokers rows)

  -- what is embedded stays as it is
  own_nested : (place : Place) (subject : SubjectValue) (n : ℕ) (bodies : List (List ℕ)) (founds : List Verdict)
      → map own (with_verdicts founds (by_number (nested_standing place subject) n bodies)) ≡ with_verdicts founds (by_number (nested_standing place subject) n bodies)
  own_nested place subject n [] founds = refl
  own_nested place subject n (body ∷ bodies) founds =
      ap (λ (l : List (Standing × Verdict)). (stands Embedded (nested_at place n) subject body, first_verdict founds) ∷ l) (own_nested place subject (n + 1) bodies (rest_of founds))

  -- ---- what a signature says, and those in it
  module _ (policy : Policy) (revokers : List Fingerprint) where
    abbrev say : List Statement → List (Standing × Verdict) → List Statement
    say before rows = fold (tell known policy primary revokers) before rows

    module _ (place : Place) (subject : SubjectValue) where
      others_each : (v : SignatureValue) → revokes_keys (type_in v) ≡ false → (lives : List (Option Life)) → filter counts (map (statement_of known policy primary revokers place subject v Revoker) lives) ≡ []
      others_each v e [] = refl
      others_each v e (l ∷ ls) =
          ap (λ (t : Bool). cond t (statement_of known policy primary revokers place subject v Revoker l ∷ filter counts (map (statement_of known policy primary revokers place subject v Revoker) ls)) (filter counts (map (statement_of known policy primary revokers place subject v Revoker) ls))) e
          ∙ others_each v e ls

      others_by : (v : SignatureValue) → revokes_keys (type_in v) ≡ false → (a b : Bool) → a ≡ false → filter counts (stated_by known policy primary revokers place subject v (cond a (Some Primary) (cond b (Some Revoker) None))) ≡ []
      others_by v e true b f = absurd (true≢false f)
      others_by v e false true f = others_each v e (lives_in v)
      others_by v e false false f = refl

      others_stated : (v : SignatureValue) → is_others known primary (Ok v) ≡ true → filter counts (stated known policy primary revokers place subject v) ≡ []
      others_stated v h =
          let parts = and_parts (is_on_identities (type_in v)) (not (is_print primary (issuer_among known v))) h in
          none_chosen (is_some (signed_of v)) (stated_by known policy primary revokers place subject v (author_of known policy primary revokers (issuer known policy primary v)))
          (others_by v (revokes_none (type_in v) parts.0) (is_print primary (issuer_among known v)) (is_print_among revokers (issuer_among known v)) (not-true (is_print primary (issuer_among known v)) parts.1))

    module _ (certificate : ℕ) (component : Option ℕ) (n : ℕ) (subject : SubjectValue) where
      abbrev its_place : Place
      its_place = hung_at certificate component n

      -- the rows of what is embedded
      abbrev within : List Verdict → Result SignatureValue BodyFault → List (Standing × Verdict)
      within founds r = with_verdicts founds (by_number (nested_standing its_place subject) 0 (bodies_within subject r))

      none_embedded : (founds : List Verdict) (v : SignatureValue) → is_others known primary (Ok v) ≡ true → within founds (Ok v) ≡ []
      none_embedded founds v h =
          ap (λ (l : List (List ℕ)). with_verdicts founds (by_number (nested_standing its_place subject) 0 l))
          (none_within subject v (and_parts (is_on_identities (type_in v)) (not (is_print primary (issuer_among known v))) h).0)

      group_by : (body : List ℕ) (found : Verdict) (founds : List Verdict) (r : Result SignatureValue BodyFault)
          → CountAlike (say (told_with known policy primary revokers [] (stands Hung its_place subject body) found r) (within founds r))
          (say (told_with known policy primary revokers [] (stands Hung its_place subject body) (cond (is_others known primary r) Undecided found) r) (map own (within founds r)))
      group_by body found founds (Err fault) = refl
      group_by body found founds (Ok v) = step (is_others known primary (Ok v)) refl where
        step : (t : Bool) → is_others known primary (Ok v) ≡ t
            → CountAlike (say (told_with known policy primary revokers [] (stands Hung its_place subject body) found (Ok v)) (within founds (Ok v)))
            (say (told_with known policy primary revokers [] (stands Hung its_place subject body) (cond t Undecided found) (Ok v)) (map own (within founds (Ok v))))
        step false h = ap (λ (l : List (Standing × Verdict)). filter counts (say (told_with known policy primary revokers [] (stands Hung its_place subject body) found (Ok v)) l)) (sym (own_nested its_place subject 0 (bodies_within subject (Ok v)) founds))
        step true h =
            ap (λ (l : List (Standing × Verdict)). filter counts (say (told_with known policy primary revokers [] (stands Hung its_place subject body) found (Ok v)) l)) (none_embedded founds v h)
            ∙ none_chosen (is_genuine (stands Hung its_place subject body) found v) (stated known policy primary revokers its_place subject v) (others_stated its_place subject v h)
            ∙ ap (λ (l : List (Standing × Verdict)). filter counts (say [] (map own l))) (sym (none_embedded founds v h))

      group_counts : (body : List ℕ) (founds : List Verdict) → CountAlike (say [] (with_verdicts founds (signature_standing its_place subject body))) (say [] (map own (with_verdicts founds (signature_standing its_place subject body))))
      group_counts body founds = group_by body (first_verdict founds) (rest_of founds) (signature_at body)

    -- ---- one after the other
    -- two lists of which the same count, and all of whose statements are in front of a place
    abbrev AreBefore : ℕ → ℕ → List Statement → Type 0
    AreBefore r n ss = (p : Place) → IsFrom r n p → list_any (holds p) ss ≡ false

    abbrev SameBefore : ℕ → ℕ → List Statement → List Statement → Type 0
    SameBefore r n a b = CountAlike a b × (AreBefore r n a × AreBefore r n b)

    -- what holds of two lists leads to something else, once rows have told more
    abbrev Leads : List Standing → (List Statement → List Statement → Type 0) → (List Statement → List Statement → Type 0) → Type 0
    Leads ss P Q = (founds : List Verdict) (a b : List Statement) → P a b → Q (say a (with_verdicts founds ss)) (say b (map own (with_verdicts founds ss)))

    verdicts_append : (founds : List Verdict) (xs ys : List Standing) → with_verdicts founds (xs ++ ys) ≡ with_verdicts founds xs ++ with_verdicts (behind founds xs) ys
    verdicts_append founds [] ys = refl
    verdicts_append founds (s ∷ xs) ys = ap (λ (l : List (Standing × Verdict)). (s, first_verdict founds) ∷ l) (verdicts_append (rest_of founds) xs ys)

    leads_on : (P Q S : List Statement → List Statement → Type 0) (xs ys : List Standing) → Leads xs P Q → Leads ys Q S → Leads (xs ++ ys) P S
    leads_on P Q S xs ys f g = λ founds a b h.
        let left : List (Standing × Verdict) = with_verdicts founds xs in
        let right : List (Standing × Verdict) = with_verdicts (behind founds xs) ys in
        let on_a : say a (with_verdicts founds (xs ++ ys)) ≡ say (say a left) right = ap (say a) (verdicts_append founds xs ys) ∙ fold-append (tell known policy primary revokers) a left right in
        let on_b : say b (map own (with_verdicts founds (xs ++ ys))) ≡ say (say b (map own left)) (map own right) = ap (λ (l : List (Standing × Verdict)). say b (map own l)) (verdicts_append founds xs ys) ∙ ap (say b) (map-append own left right) ∙ fold-append (tell known policy primary revokers) b (map own left) (map own right) in
        subst (λ (l : List Statement). S l (say b (map own (with_verdicts founds (xs ++ ys))))) (sym on_a)
        (subst (λ (l : List Statement). S (say (say a left) right) l) (sym on_b) (g (behind founds xs) (say a left) (say b (map own left)) (f founds a b h)))

    nearer : (r n : ℕ) (p : Place) → IsFrom r (n + 1) p → IsFrom r n p
    nearer r n p (inl l) = inl l
    nearer r n p (inr l) = let h : n + 1 ≤ p.hang = l.1 in inr (l.0, omega arith)

    further : (r n : ℕ) (p : Place) → IsFrom (r + 1) 0 p → IsFrom r n p
    further r n p (inl l) = inl (omega arith)
    further r n p (inr l) = let h : r + 1 ≡ rank p.component = l.0 in inl (omega arith)

    count_append : (a b c d : List Statement) → CountAlike a b → CountAlike c d → CountAlike (a ++ c) (b ++ d)
    count_append a b c d e h =
        filter-append counts a c
        ∙ ap (λ (l : List Statement). l ++ filter counts c) e
        ∙ ap (λ (l : List Statement). filter counts b ++ l) h
        ∙ sym (filter-append counts b d)

    module _ (certificate : ℕ) (component : Option ℕ) (subject : SubjectValue) where
      signature_leads : (n : ℕ) (body : List ℕ) → Leads (signature_standing (hung_at certificate component n) subject body) (SameBefore (rank component) n) (SameBefore (rank component) (n + 1))
      signature_leads n body = λ founds a b h.
          let here : Place = hung_at certificate component n in
          let group : List Standing = signature_standing here subject body in
          let rows : List (Standing × Verdict) = with_verdicts founds group in
          let owned : List Verdict = map (unless_others known primary) rows in
          let at_here : IsFrom (rank component) n here = inr (refl, omega arith) in
          let on_a : say a rows ≡ a ++ say [] rows = ap (λ (l : List Statement). say l rows) (sym (append-nil a)) ∙ group_apart known policy primary revokers here subject body founds a [] (h.1.0 here at_here) in
          let by_owned : say b (with_verdicts owned group) ≡ b ++ say [] (with_verdicts owned group) = ap (λ (l : List Statement). say l (with_verdicts owned group)) (sym (append-nil b)) ∙ group_apart known policy primary revokers here subject body owned b [] (h.1.1 here at_here) in
          let on_b : say b (map own rows) ≡ b ++ say [] (map own rows) = subst (λ (l : List (Standing × Verdict)). say b l ≡ b ++ say [] l) (own_rows founds group) by_owned in
          let away : (p : Place) → IsFrom (rank component) (n + 1) p → list_any (holds p) (say [] rows) ≡ false = λ p far. group_away known policy primary revokers p here subject (elsewhere component n p far) body founds in
          let owned_away : (p : Place) → IsFrom (rank component) (n + 1) p → list_any (holds p) (say [] (map own rows)) ≡ false = λ p far. subst (λ (l : List (Standing × Verdict)). list_any (holds p) (say [] l) ≡ false) (own_rows founds group) (group_away known policy primary revokers p here subject (elsewhere component n p far) body owned) in
          let all : SameBefore (rank component) (n + 1) (a ++ say [] rows) (b ++ say [] (map own rows)) = (
            count_append a b (say [] rows) (say [] (map own rows)) h.0 (group_counts certificate component n subject body founds),
            (
              λ p far. list_any-append (holds p) a (say [] rows) ∙ or_from _ _ (h.1.0 p (nearer (rank component) n p far)) (away p far),
              λ p far. list_any-append (holds p) b (say [] (map own rows)) ∙ or_from _ _ (h.1.1 p (nearer (rank component) n p far)) (owned_away p far),
            ),
          ) in
          subst (λ (l : List Statement). SameBefore (rank component) (n + 1) l (say b (map own rows))) (sym on_a)
          (subst (λ (l : List Statement). SameBefore (rank component) (n + 1) (a ++ say [] rows) l) (sym on_b) all)

      hang_leads : (n : ℕ) (p : PacketValue) → Leads (hang_standing certificate component subject n p) (SameBefore (rank component) n) (SameBefore (rank component) (n + 1))
      hang_leads n p = step (is_signature p) where
        step : (t : Bool) → Leads (cond t (signature_standing (hung_at certificate component n) subject p.body) []) (SameBefore (rank component) n) (SameBefore (rank component) (n + 1))
        step true = signature_leads n p.body
        step false = λ founds a b h. (h.0, (λ q far. h.1.0 q (nearer (rank component) n q far), λ q far. h.1.1 q (nearer (rank component) n q far)))

      hangs_lead : (n : ℕ) (hangs : List PacketValue) → Leads (by_number (hang_standing certificate component subject) n hangs) (SameBefore (rank component) n) (SameBefore (rank component + 1) 0)
      hangs_lead n [] = λ founds a b h. (h.0, (λ q far. h.1.0 q (further (rank component) n q far), λ q far. h.1.1 q (further (rank component) n q far)))
      hangs_lead n (p ∷ hangs) = leads_on (SameBefore (rank component) n) (SameBefore (rank component) (n + 1)) (SameBefore (rank component + 1) 0) (hang_standing certificate component subject n p) (by_number (hang_standing certificate component subject) (n + 1) hangs) (hang_leads n p) (hangs_lead (n + 1) hangs)

    components_lead : (body : List ℕ) (n : ℕ) (cs : List ComponentValue) → Leads (by_number (component_standing body 0) n cs) (SameBefore (n + 1) 0) CountAlike
    components_lead body n [] = λ founds a b h. h.0
    components_lead body n (c ∷ cs) = leads_on (SameBefore (n + 1) 0) (SameBefore (n + 1 + 1) 0) CountAlike (component_standing body 0 n c) (by_number (component_standing body 0) (n + 1) cs) (hangs_lead 0 (Some n) (on_head body c.head) 0 c.hangs) (components_lead body (n + 1) cs)

    -- the same count of all that is told
    pub certificate_counts : (c : CertificateValue) (founds : List Verdict) → CountAlike (say [] (with_verdicts founds (certificate_standing 0 c))) (say [] (map own (with_verdicts founds (certificate_standing 0 c))))
    certificate_counts c founds =
        leads_on (SameBefore 0 0) (SameBefore 1 0) CountAlike (hangs_standing 0 None (one c.primary.body) c.hangs) (by_number (component_standing c.primary.body 0) 0 c.components)
        (hangs_lead 0 None (one c.primary.body) 0 c.hangs) (components_lead c.primary.body 0 c.components) founds [] [] (refl, (λ p far. refl, λ p far. refl))
