-- Components in another order say the same, but for their numbers.
use Rattle.std.proofs.Common.{◌≡◌, ◌∙◌, ◌++◌, ℕ, suc, ◌+◌, List, [], ◌∷◌, map, length, Bool, true, false, ◌&&◌, ◌||◌, cond, Option, Some, None, is_some, Result, Ok, Err, refl, sym, ap, arith, append_assoc}
use Rattle.std.specs.List.{Contains, flat_map, fold, list_any, position, position_or_len}
use Rattle.std.specs.Prelude.{nat_lt, not}
use Rattle.std.specs.List.Sorted.{IsPermutation}
use Rattle.std.proofs.lemmas.Bool.Decides.{nat_tests}
use Rattle.std.proofs.lemmas.List.{map-append, length-map}
use Rattle.std.proofs.lemmas.Grind.{flat_map-append}
use Rattle.std.proofs.lemmas.List.Folds.{list_any-append}
use Rattle.std.proofs.lemmas.List.Sorted.{Contains-permutation, IsPermutation-cons, IsPermutation-middle, IsPermutation-sym, IsPermutation-trans, list_any-IsPermutation}
use Rattle.std.proofs.lemmas.List.Elements.{All-contains}
use Rattle.opgp_frame.specs.Packet.{PacketValue}
use Rattle.opgp_octets.specs.declared.fault.BodyFault.{BodyFault}
use Rattle.opgp_packet.specs.SignatureBody.{SignatureValue, signature_at}
use Rattle.opgp_hash.specs.Fingerprint.{print_octets, print_version}
use Rattle.opgp_hash.specs.SubjectValue.{SubjectValue, one}
use Rattle.opgp_hash.specs.declared.fingerprints.Fingerprint.{Fingerprint}
use Rattle.opgp_hash.specs.declared.site.Site.TheVariants as site
use Rattle.opgp_keyring.specs.Keyring.{CertificateValue, ComponentValue}
use Rattle.opgp_report.specs.First.{has_print, print_of}
use Rattle.opgp_report.specs.declared.place.Place.{Place}
use Rattle.opgp_report.specs.declared.verifier.Verdict.{Verdict}
use Rattle.opgp_report.specs.Standing.{Standing, bodies_within, by_number, certificate_standing, component_standing, hang_standing, hangs_standing, hung_at, is_signature, nested_standing, on_head, signature_standing, stands}
use Rattle.opgp_valid.specs.Facts.{FactsValue}
use Rattle.opgp_valid.specs.Group.{is_certification_on}
use Rattle.opgp_valid.specs.Policy.{created_of, version_of}
use Rattle.opgp_valid.specs.Standing.{standing_of}
use Rattle.opgp_valid.specs.KnownKeys.{issuer_among}
use Rattle.opgp_valid.specs.Told.{author_of, is_print_among, is_revoked_among, is_revoked_by, revokers_at, revokers_by, stated, told, told_with, with_revocations, with_revoked, with_verdicts}
use Rattle.opgp_valid.specs.declared.facts.Key.{Key}
use Rattle.opgp_valid.specs.declared.facts.Key.TheVariants as key
use Rattle.opgp_valid.specs.declared.known_keys.Known.{Known}
use Rattle.opgp_valid.specs.declared.policy.Policy.{Policy}
use Rattle.opgp_valid.specs.declared.statement.Statement.{Statement}
use Rattle.opgp_valid.proofs.Alike.{Alike, or_same, stands_same}
use Rattle.opgp_valid.proofs.Members.{member_here, member_there}
use Rattle.opgp_valid.proofs.Renumbered.{any_map, rekey, renumber, renumber_facts, revocations_same, stands_alike, to}
use Rattle.opgp_state.specs.Reordered.{AreJudged, HasEach, Judged, facts_with, with_components}
use Rattle.opgp_state.proofs.Blocks.{all_blocks, map_twice, move, place_to, row_to, says}
use Rattle.opgp_state.proofs.Moved.{AreMoved, moved_around, moved_by, moved_made, moved_once}

-- ---- rows by component
mapped_each : {A B C : Type 0} (f : B → C) (make : ℕ → A → List B) (made : ℕ → A → List C) → ((n : ℕ) (x : A) → map f (make n x) ≡ made n x) → (n : ℕ) (xs : List A) → map f (by_number make n xs) ≡ by_number made n xs
mapped_each f make made same n [] = refl
mapped_each f make made same n (x ∷ xs) = map-append f (make n x) (by_number make (n + 1) xs) ∙ rw (same n x, mapped_each f make made same (n + 1) xs) refl

of_mapped : {A B C : Type 0} (make : ℕ → B → List C) (g : A → B) (n : ℕ) (xs : List A) → by_number make n (map g xs) ≡ by_number (λ k x. make k (g x)) n xs
of_mapped make g n [] = refl
of_mapped {A} {B} {C} make g n (x ∷ xs) = ap (λ (l : List C). make n (g x) ++ l) (of_mapped make g (n + 1) xs)

numbered_append : {A B : Type 0} (make : ℕ → A → List B) (n : ℕ) (xs ys : List A) → by_number make n (xs ++ ys) ≡ by_number make n xs ++ by_number make (n + length xs) ys
numbered_append make n [] ys = ap (λ (m : ℕ). by_number make m ys) (omega arith)
numbered_append {A} {B} make n (x ∷ xs) ys =
    ap (λ (l : List B). make n x ++ l) (numbered_append make (n + 1) xs ys ∙ ap (λ (m : ℕ). by_number make (n + 1) xs ++ by_number make m ys) (omega arith))
    ∙ sym (append_assoc (make n x) (by_number make (n + 1) xs) (by_number make (n + length (x ∷ xs)) ys))

nested_on : (o : Option ℕ) (p : Place) (subject : SubjectValue) (n : ℕ) (bodies : List (List ℕ)) → map (row_to o) (by_number (nested_standing p subject) n bodies) ≡ by_number (nested_standing (place_to o p) subject) n bodies
nested_on o p subject n bodies = mapped_each (row_to o) (nested_standing p subject) (nested_standing (place_to o p) subject) (λ m b. refl) n bodies

hang_on : (o from : Option ℕ) (subject : SubjectValue) (n : ℕ) (p : PacketValue) → map (row_to o) (hang_standing 0 from subject n p) ≡ hang_standing 0 o subject n p
hang_on o from subject n p = step (is_signature p) where
  step : (t : Bool) → map (row_to o) (cond t (signature_standing (hung_at 0 from n) subject p.body) []) ≡ cond t (signature_standing (hung_at 0 o n) subject p.body) []
  step true = ap (λ (l : List Standing). row_to o (stands site.Hung (hung_at 0 from n) subject p.body) ∷ l) (nested_on o (hung_at 0 from n) subject 0 (bodies_within subject (signature_at p.body)))
  step false = refl

hangs_on : (o from : Option ℕ) (subject : SubjectValue) (ps : List PacketValue) → map (row_to o) (hangs_standing 0 from subject ps) ≡ hangs_standing 0 o subject ps
hangs_on o from subject ps = mapped_each (row_to o) (hang_standing 0 from subject) (hang_standing 0 o subject) (hang_on o from subject) 0 ps

-- ---- with their verdicts
verdicts_moved : (o : Option ℕ) (founds : List Verdict) (rows : List Standing) → with_verdicts founds (map (row_to o) rows) ≡ map (move o) (with_verdicts founds rows)
verdicts_moved o founds [] = refl
verdicts_moved o [] (s ∷ rows) = rw (verdicts_moved o [] rows) refl
verdicts_moved o (found ∷ founds) (s ∷ rows) = rw (verdicts_moved o founds rows) refl

verdicts_append : (a b : List Verdict) (r q : List Standing) → length a ≡ length r → with_verdicts (a ++ b) (r ++ q) ≡ with_verdicts a r ++ with_verdicts b q
verdicts_append [] b [] q e = refl
verdicts_append [] b (s ∷ r) q e = absurd (omega (arith, e))
verdicts_append (v ∷ a) b [] q e = absurd (omega (arith, e))
verdicts_append (v ∷ a) b (s ∷ r) q e = rw (verdicts_append a b r q (omega (arith, e))) refl

-- ---- tests
both_more : (a b : ℕ) → nat_lt (1 + a) (suc b) ≡ nat_lt a b
both_more a b = grind (arith, nat_tests)

one_more : (n : ℕ) → nat_lt 0 (suc n) ≡ true
one_more n = grind (arith, nat_tests)

within : {A : Type 0} (q : A → Bool) (xs : List A) → nat_lt (position_or_len q xs) (length xs) ≡ list_any q xs
within q [] = refl
within {A} q (x ∷ xs) = step (q x) (within q xs) where
  step : (t : Bool) → nat_lt (position_or_len q xs) (length xs) ≡ list_any q xs → nat_lt (cond (not t) (1 + position_or_len q xs) 0) (length (x ∷ xs)) ≡ (t || list_any q xs)
  step true e = one_more (length xs)
  step false e = both_more (position_or_len q xs) (length xs) ∙ e

is_found : {A : Type 0} (q : A → Bool) (xs : List A) → is_some (position q xs) ≡ list_any q xs
is_found {A} q xs = step (nat_lt (position_or_len q xs) (length xs)) ∙ within q xs where
  step : (t : Bool) → is_some (cond t (Some (position_or_len q xs)) None) ≡ t
  step true = refl
  step false = refl

-- ---- who may revoke
module _ (known : List Known) (policy : Policy) (primary : Fingerprint) where
  moved_revoker : (o : Option ℕ) (s : Standing) (found : Verdict) (r : Result SignatureValue BodyFault) → revokers_by known primary (row_to o s) found r ≡ revokers_by known primary s found r
  moved_revoker o s found (Err fault) = refl
  moved_revoker o s found (Ok v) = refl

  moved_revokers : (o : Option ℕ) (rows : List (Standing × Verdict)) → flat_map (revokers_at known primary) (map (move o) rows) ≡ flat_map (revokers_at known primary) rows
  moved_revokers o [] = refl
  moved_revokers o (x ∷ rows) = rw (moved_revoker o x.0 x.1 (signature_at x.0.body), moved_revokers o rows) refl

  abbrev some_revoker : (Fingerprint → Bool) → List (Standing × Verdict) → Bool
  some_revoker q rows = list_any q (flat_map (revokers_at known primary) rows)

  both_revokers : (q : Fingerprint → Bool) (a b : List (Standing × Verdict)) → some_revoker q (a ++ b) ≡ (some_revoker q a || some_revoker q b)
  both_revokers q a b = ap (list_any q) (flat_map-append (revokers_at known primary) a b) ∙ list_any-append q (flat_map (revokers_at known primary) a) (flat_map (revokers_at known primary) b)

  each_revoker : {A : Type 0} (rows : A → List (Standing × Verdict)) (q : Fingerprint → Bool) (n : ℕ) (parts : List A)
      → some_revoker q (by_number (λ k x. map (move (Some k)) (rows x)) n parts) ≡ list_any (λ x. some_revoker q (rows x)) parts
  each_revoker rows q n [] = refl
  each_revoker {A} rows q n (x ∷ parts) =
      both_revokers q (map (move (Some n)) (rows x)) (by_number (λ (k : ℕ) (y : A). map (move (Some k)) (rows y)) (n + 1) parts)
      ∙ or_same _ _ _ _ (ap (list_any q) (moved_revokers (Some n) (rows x))) (each_revoker rows q (n + 1) parts)

  -- the same may revoke, whatever their order
  abbrev pub AreSame : List Fingerprint → List Fingerprint → Type 0
  AreSame a b = (q : Fingerprint → Bool) → list_any q a ≡ list_any q b

  module _ (a b : List Fingerprint) (h : AreSame a b) where
    same_among : (k : Option Known) → is_print_among a k ≡ is_print_among b k
    same_among None = refl
    same_among (Some k) =
        let q : Fingerprint → Bool = has_print (print_version k.print) (print_octets k.print) in
        is_found q a ∙ h q ∙ sym (is_found q b)

    same_author : (k : Option Known) → author_of known policy primary a k ≡ author_of known policy primary b k
    same_author k = rw (same_among k) refl

    same_stated : (s : Standing) (v : SignatureValue) → stated known policy primary a s.place s.subject v ≡ stated known policy primary b s.place s.subject v
    same_stated s v = rw (same_author (issuer_among known v)) refl

    same_with : (before : List Statement) (s : Standing) (found : Verdict) (r : Result SignatureValue BodyFault) → told_with known policy primary a before s found r ≡ told_with known policy primary b before s found r
    same_with before s found (Err fault) = refl
    same_with before s found (Ok v) = rw (same_stated s v) refl

    pub same_told : (before : List Statement) (rows : List (Standing × Verdict)) → fold (told known policy primary a) before rows ≡ fold (told known policy primary b) before rows
    same_told before [] = refl
    same_told before (x ∷ rows) =
        ap (λ (l : List Statement). fold (told known policy primary a) l rows) (same_with before x.0 x.1 (signature_at x.0.body))
        ∙ same_told (told known policy primary b before x) rows

-- ---- what is said, by its numbers
module _ {A : Type 0} (says_on : A → List Statement) where
  abbrev numbered : ℕ → List A → List Statement
  numbered n parts = by_number (λ k x. map (to (Some k)) (says_on x)) n parts

  -- with other numbers
  numbered_to : (p : ℕ → ℕ) (n : ℕ) (parts : List A) → map (renumber p) (numbered n parts) ≡ by_number (λ k x. map (to (Some (p k))) (says_on x)) n parts
  numbered_to p n parts = mapped_each (renumber p) (λ (k : ℕ) (x : A). map (to (Some k)) (says_on x)) (λ (k : ℕ) (x : A). map (to (Some (p k))) (says_on x)) (λ k x. map_twice (renumber p) (to (Some k)) (says_on x)) n parts

  unnumbered : (p : ℕ → ℕ) (own : List Statement) → map (renumber p) (map (to None) own) ≡ map (to None) own
  unnumbered p own = map_twice (renumber p) (to None) own

  -- with the numbers of the other order, all is said that is said there
  pub said_there : (own : List Statement) (a b : List A) (h : AreMoved a b) → Alike (map (renumber h.goes) (map (to None) own ++ numbered 0 a)) (map (to None) own ++ numbered 0 b)
  said_there own a b h q =
      let first : List Statement = map (to None) own in
      ap (list_any q) (map-append (renumber h.goes) first (numbered 0 a))
      ∙ list_any-append q (map (renumber h.goes) first) (map (renumber h.goes) (numbered 0 a))
      ∙ or_same _ _ _ _ (ap (list_any q) (unnumbered h.goes own))
      (ap (list_any q) (numbered_to h.goes 0 a) ∙ moved_made (λ (k : ℕ) (x : A). map (to (Some k)) (says_on x)) a b h q)
      ∙ sym (list_any-append q first (numbered 0 b))

-- ---- what is revoked
any_agree : (p q : Statement → Bool) → ((s : Statement) → p s ≡ q s) → (ss : List Statement) → list_any p ss ≡ list_any q ss
any_agree p q h [] = refl
any_agree p q h (s ∷ ss) = rw (h s, any_agree p q h ss) refl

alike_revocations : (a b : List Statement) → Alike a b → Alike (with_revocations a) (with_revocations b)
alike_revocations a b h q =
    any_map (λ s. with_revoked (is_revoked_among a s) s) q (λ s. q (with_revoked (is_revoked_among a s) s)) (λ s. refl) a
    ∙ any_agree (λ s. q (with_revoked (is_revoked_among a s) s)) (λ s. q (with_revoked (is_revoked_among b s) s)) (λ s. ap (λ (t : Bool). q (with_revoked (is_certification_on s && t) s)) (h (is_revoked_by s))) a
    ∙ h (λ s. q (with_revoked (is_revoked_among b s) s))
    ∙ sym (any_map (λ s. with_revoked (is_revoked_among b s) s) q (λ s. q (with_revoked (is_revoked_among b s) s)) (λ s. refl) b)

-- ---- a certificate
module _ (c : CertificateValue) where
  -- the rows of a component, whatever its number
  abbrev rows_on : Judged → List (Standing × Verdict)
  rows_on x = with_verdicts x.founds (component_standing c.primary.body 0 0 x.component)

  abbrev own_rows : List Verdict → List (Standing × Verdict)
  own_rows founds = with_verdicts founds (hangs_standing 0 None (one c.primary.body) c.hangs)

  -- all rows
  abbrev all_rows : List Verdict → List Judged → List (Standing × Verdict)
  all_rows founds parts = map (move None) (own_rows founds) ++ by_number (λ k x. map (move (Some k)) (rows_on x)) 0 parts

  abbrev Each : List Judged → Type 0
  Each parts = (x : Judged) → Contains parts x → HasEach c x

  on_number : (n : ℕ) (x : ComponentValue) → map (row_to (Some n)) (component_standing c.primary.body 0 0 x) ≡ component_standing c.primary.body 0 n x
  on_number n x = hangs_on (Some n) (Some 0) (on_head c.primary.body x.head) x.hangs

  as_many : (n : ℕ) (x : Judged) → HasEach c x → length x.founds ≡ length (component_standing c.primary.body 0 n x.component)
  as_many n x e = e ∙ sym (length-map (component_standing c.primary.body 0 0 x.component) (row_to (Some n))) ∙ ap length (on_number n x.component)

  rows_at : (n : ℕ) (x : Judged) → with_verdicts x.founds (component_standing c.primary.body 0 n x.component) ≡ map (move (Some n)) (rows_on x)
  rows_at n x = ap (with_verdicts x.founds) (sym (on_number n x.component)) ∙ verdicts_moved (Some n) x.founds (component_standing c.primary.body 0 0 x.component)

  parts_rows : (n : ℕ) (parts : List Judged) → Each parts → with_verdicts (flat_map (λ x. x.founds) parts) (by_number (λ k x. component_standing c.primary.body 0 k x.component) n parts) ≡ by_number (λ k x. map (move (Some k)) (rows_on x)) n parts
  parts_rows n [] each = refl
  parts_rows n (x ∷ parts) each =
      verdicts_append x.founds (flat_map (λ (y : Judged). y.founds) parts) (component_standing c.primary.body 0 n x.component) (by_number (λ (k : ℕ) (y : Judged). component_standing c.primary.body 0 k y.component) (n + 1) parts) (as_many n x (each x (member_here x parts)))
      ∙ rw (rows_at n x, parts_rows (n + 1) parts (λ y h. each y (member_there x y parts h))) refl

  -- the rows are those of the primary key, and then those of each component
  whole : (founds : List Verdict) (parts : List Judged) → length founds ≡ length (hangs_standing 0 None (one c.primary.body) c.hangs) → Each parts
      → with_verdicts (founds ++ flat_map (λ x. x.founds) parts) (certificate_standing 0 (with_components c parts)) ≡ all_rows founds parts
  whole founds parts own each =
      let here : List Standing = hangs_standing 0 None (one c.primary.body) c.hangs in
      ap (λ (l : List Standing). with_verdicts (founds ++ flat_map (λ (x : Judged). x.founds) parts) (here ++ l)) (of_mapped (component_standing c.primary.body 0) (λ (x : Judged). x.component) 0 parts)
      ∙ verdicts_append founds (flat_map (λ (x : Judged). x.founds) parts) here (by_number (λ (k : ℕ) (x : Judged). component_standing c.primary.body 0 k x.component) 0 parts) own
      ∙ rw (parts_rows 0 parts each) (ap (λ (l : List (Standing × Verdict)). l ++ by_number (λ (k : ℕ) (x : Judged). map (move (Some k)) (rows_on x)) 0 parts)
      (ap (with_verdicts founds) (sym (hangs_on None None (one c.primary.body) c.hangs)) ∙ verdicts_moved None founds here))

module _ (known : List Known) (policy : Policy) (c : CertificateValue) (founds : List Verdict) where
  abbrev facts_from : List Statement → FactsValue
  facts_from ss = record {
    version = version_of c.primary.body;
    created = created_of c.primary.body;
    statements = with_revocations ss;
  }

  abbrev revokers_from : List Judged → List Fingerprint
  revokers_from parts = flat_map (revokers_at known (print_of c.primary.body)) (all_rows c founds parts)

  -- what is said, where these may revoke
  abbrev said_from : List Fingerprint → List Judged → List Statement
  said_from revokers parts =
      map (to None) (says known policy (print_of c.primary.body) revokers (own_rows c founds))
      ++ numbered (λ x. says known policy (print_of c.primary.body) revokers (rows_on c x)) 0 parts

  some_revoke : (q : Fingerprint → Bool) (parts : List Judged) → list_any q (revokers_from parts) ≡ (some_revoker known policy (print_of c.primary.body) q (own_rows c founds) || list_any (λ x. some_revoker known policy (print_of c.primary.body) q (rows_on c x)) parts)
  some_revoke q parts =
      both_revokers known policy (print_of c.primary.body) q (map (move None) (own_rows c founds)) (by_number (λ (k : ℕ) (x : Judged). map (move (Some k)) (rows_on c x)) 0 parts)
      ∙ or_same _ _ _ _ (ap (list_any q) (moved_revokers known policy (print_of c.primary.body) None (own_rows c founds))) (each_revoker known policy (print_of c.primary.body) (rows_on c) q 0 parts)

  same_revokers : (a b : List Judged) → IsPermutation a b → (q : Fingerprint → Bool) → list_any q (revokers_from a) ≡ list_any q (revokers_from b)
  same_revokers a b same q =
      some_revoke q a
      ∙ ap (λ (t : Bool). some_revoker known policy (print_of c.primary.body) q (own_rows c founds) || t) (list_any-IsPermutation (λ (x : Judged). some_revoker known policy (print_of c.primary.body) q (rows_on c x)) a b same)
      ∙ sym (some_revoke q b)

  facts_are : (revokers : List Fingerprint) (parts : List Judged) → length founds ≡ length (hangs_standing 0 None (one c.primary.body) c.hangs) → Each c parts → ((q : Fingerprint → Bool) → list_any q (revokers_from parts) ≡ list_any q revokers)
      → facts_with known policy c founds parts ≡ facts_from (said_from revokers parts)
  facts_are revokers parts own each same =
      ap (λ (rows : List (Standing × Verdict)). facts_from (fold (told known policy (print_of c.primary.body) (flat_map (revokers_at known (print_of c.primary.body)) rows)) [] rows)) (whole c founds parts own each)
      ∙ ap facts_from (same_told known policy (print_of c.primary.body) (revokers_from parts) revokers same [] (all_rows c founds parts) ∙ all_blocks known policy (print_of c.primary.body) revokers (own_rows c founds) (rows_on c) parts)

  abbrev says_by : List Fingerprint → Judged → List Statement
  says_by revokers x = says known policy (print_of c.primary.body) revokers (rows_on c x)

  abbrev own_by : List Fingerprint → List Statement
  own_by revokers = says known policy (print_of c.primary.body) revokers (own_rows c founds)

  -- judged by other numbers, a key stands as it does
  judged_alike : (a b : List Statement) (p : ℕ → ℕ) (k : Key) → ((m n : ℕ) → p m ≡ p n → m ≡ n) → Alike (map (renumber p) a) b → (made now : ℕ)
      → standing_of (facts_from a) k made now ≡ standing_of (facts_from b) (rekey p k) made now
  judged_alike a b p k once alike made now =
      sym (stands_alike p once (facts_from a) k made now)
      ∙ stands_same (renumber_facts p (facts_from a)) (facts_from b) refl refl
      (λ q. ap (list_any q) (revocations_same p once a) ∙ alike_revocations (map (renumber p) a) b alike q) (rekey p k) made now

  each_permuted : (a b : List Judged) → IsPermutation a b → Each c a → Each c b
  each_permuted a b same each x h = each x (Contains-permutation b a x (IsPermutation-sym a b same) h)

  -- where the parts are moved, a key stands as the one of its number there
  moved_as : (parts others : List Judged) (h : AreMoved parts others) (k : Key) (made now : ℕ) → AreJudged c founds parts → IsPermutation parts others
      → standing_of (facts_with known policy c founds parts) k made now ≡ standing_of (facts_with known policy c founds others) (rekey h.goes k) made now
  moved_as parts others h k made now judged same =
      let each : Each c parts = λ x m. All-contains (HasEach c) parts x judged.each m in
      let revokers : List Fingerprint = revokers_from parts in
      ap (λ (x : FactsValue). standing_of x k made now) (facts_are revokers parts judged.own each (λ q. refl))
      ∙ judged_alike (said_from revokers parts) (said_from revokers others) h.goes k (moved_once parts others h) (said_there (says_by revokers) (own_by revokers) parts others h) made now
      ∙ ap (λ (x : FactsValue). standing_of x (rekey h.goes k) made now) (sym (facts_are revokers others judged.own (each_permuted parts others same each) (λ q. sym (same_revokers parts others same q))))

  pub primary_as : (parts others : List Judged) (made now : ℕ) → AreJudged c founds parts → IsPermutation parts others
      → standing_of (facts_with known policy c founds parts) key.Primary made now ≡ standing_of (facts_with known policy c founds others) key.Primary made now
  primary_as parts others made now judged same = moved_as parts others (moved_by parts others same) key.Primary made now judged same

  pub subkey_as : (x : Judged) (before behind before_it behind_it : List Judged) (created made now : ℕ) → AreJudged c founds (before ++ x ∷ behind) → IsPermutation (before ++ behind) (before_it ++ behind_it)
      → standing_of (facts_with known policy c founds (before ++ x ∷ behind)) (key.Subkey (length before) created) made now
      ≡ standing_of (facts_with known policy c founds (before_it ++ x ∷ behind_it)) (key.Subkey (length before_it) created) made now
  subkey_as x before behind before_it behind_it created made now judged others_same =
      let parts : List Judged = before ++ x ∷ behind in
      let front : List Judged = x ∷ (before ++ behind) in
      let front_it : List Judged = x ∷ (before_it ++ behind_it) in
      let others : List Judged = before_it ++ x ∷ behind_it in
      let same : IsPermutation parts others = IsPermutation-trans parts front others (IsPermutation-middle before x behind)
      (IsPermutation-trans front front_it others (IsPermutation-cons x (before ++ behind) (before_it ++ behind_it) others_same) (IsPermutation-sym others front_it (IsPermutation-middle before_it x behind_it))) in
      let moved = moved_around x before behind before_it behind_it (moved_by (before ++ behind) (before_it ++ behind_it) others_same) in
      moved_as parts others moved.0 (key.Subkey (length before) created) made now judged same
      ∙ ap (λ (n : ℕ). standing_of (facts_with known policy c founds others) (key.Subkey n created) made now) moved.1

pub same_primary : (known : List Known) (policy : Policy) (c : CertificateValue) (founds : List Verdict) (parts others : List Judged) (made now : ℕ) → AreJudged c founds parts → IsPermutation parts others
    → standing_of (facts_with known policy c founds parts) key.Primary made now ≡ standing_of (facts_with known policy c founds others) key.Primary made now
same_primary known policy c founds parts others made now judged same = primary_as known policy c founds parts others made now judged same

pub same_subkey : (known : List Known) (policy : Policy) (c : CertificateValue) (founds : List Verdict) (x : Judged) (before behind before_it behind_it : List Judged) (created made now : ℕ) → AreJudged c founds (before ++ x ∷ behind) → IsPermutation (before ++ behind) (before_it ++ behind_it)
    → standing_of (facts_with known policy c founds (before ++ x ∷ behind)) (key.Subkey (length before) created) made now
    ≡ standing_of (facts_with known policy c founds (before_it ++ x ∷ behind_it)) (key.Subkey (length before_it) created) made now
same_subkey known policy c founds x before behind before_it behind_it created made now judged same = subkey_as known policy c founds x before behind before_it behind_it created made now judged same
