-- A certificate of whose self-signatures those stay that are heard at a time stands as before.
use Rattle.std.proofs.Common.{◌≡◌, ◌∙◌, ◌+◌, ◌≤◌, ◌==◌, ℕ, Bool, true, false, not, ◌&&◌, ◌||◌, List, [], ◌∷◌, ◌++◌, length, drop, map, Option, Some, None, Result, Ok, Err, is_some, refl, sym, ap, if◌then◌else◌, All}
use Rattle.std.specs.List.{filter, flat_map, list_any}
use Rattle.std.proofs.lemmas.Bool.{and_parts, false≢true, not-true, true≢false}
use Rattle.std.proofs.lemmas.List.{map-append}
use Rattle.std.proofs.lemmas.List.Elements.{All-cons, All-map, All-nil, All-weaker, filter-append}
use Rattle.opgp_octets.specs.declared.fault.BodyFault.{BodyFault}
use Rattle.opgp_octets.specs.declared.signature_type.SignatureType.{SignatureType}
use Rattle.opgp_frame.specs.Packet.{PacketValue}
use Rattle.opgp_packet.specs.Areas.{hashed_subs}
use Rattle.opgp_packet.specs.SignatureBody.{SignatureValue, signature_at}
use Rattle.opgp_packet.specs.Subpackets.{Sub}
use Rattle.opgp_hash.specs.SignedValue.{signed_of}
use Rattle.opgp_hash.specs.SubjectValue.{SubjectValue, one}
use Rattle.opgp_hash.specs.declared.fingerprints.Fingerprint.{Fingerprint}
use Rattle.opgp_hash.specs.declared.fingerprints.Fingerprint.TheVariants.{Four}
use Rattle.opgp_hash.specs.declared.site.Site.TheVariants.{Hung}
use Rattle.opgp_keyring.specs.Keyring.{CertificateValue, ComponentValue}
use Rattle.opgp_report.specs.First.{print_of}
use Rattle.opgp_report.specs.Standing.{Standing, certificate_standing, hung_at, is_signature, signature_standing, stands}
use Rattle.opgp_report.specs.declared.place.Place.{Place}
use Rattle.opgp_report.specs.declared.verifier.Verdict.{Verdict}
use Rattle.opgp_valid.specs.Group.{is_certification_on}
use Rattle.opgp_valid.specs.Judgement.{facts_by}
use Rattle.opgp_valid.specs.KnownKeys.{issuer_among}
use Rattle.opgp_valid.specs.Laws.{with_statements}
use Rattle.opgp_valid.specs.Policy.{created_of, version_of}
use Rattle.opgp_valid.specs.Speaking.{made_at}
use Rattle.opgp_valid.specs.State.{identity_of, revokes_certification, state_of}
use Rattle.opgp_valid.specs.Subpackets.{at_most_one, revoker_stated, revokers_in}
use Rattle.opgp_valid.specs.Told.{author_of, first_verdict, holds, is_print, is_revoked_among, is_revoked_by, is_right, is_user_id, issuer, lives_in, names_revokers, revokers_at, revokers_by, revokers_of, stated, stated_by, statement_of, statements_of, type_in, with_back, with_revocations, with_revoked, with_verdicts}
use Rattle.opgp_valid.specs.declared.facts.Key.{Key}
use Rattle.opgp_valid.specs.declared.known_keys.Known.{Known}
use Rattle.opgp_valid.specs.declared.policy.Policy.TheVariants.{Usual}
use Rattle.opgp_valid.specs.declared.statement.Author.{Author}
use Rattle.opgp_valid.specs.declared.statement.Life.{Life}
use Rattle.opgp_valid.specs.declared.statement.Statement.{Statement}
use Rattle.opgp_bound.specs.Bound.{is_genuine}
use Rattle.opgp_bound.specs.Judged.{certificate_rows, component_rows, rows_on}
use Rattle.opgp_bound.specs.Newest.{certificate_verdicts, is_before, is_replaced, names_revoker, newest_certificate, newest_components, newest_made, replaced_in, replaced_read, said}
use Rattle.opgp_bound.specs.Outdated.{AreOnParts, AreOutdated, is_outdated, without}
use Rattle.opgp_bound.specs.Role.{role_of}
use Rattle.opgp_bound.proofs.Going.{going_outdated, not_true}
use Rattle.opgp_bound.proofs.Heard.{kept_map}
use Rattle.opgp_bound.proofs.Listed.{all_on_all, enough_on, names_are, names_first, names_of, on_all, said_all, said_is, said_of, said_on, say, subject_on, through_all, unhung, unhung_at}
use Rattle.opgp_bound.proofs.Outdated.{never_before}
use Rattle.opgp_bound.proofs.Placed.{at, start}
use Rattle.opgp_bound.proofs.Remaining.{lasts, remaining}
use Rattle.opgp_bound.proofs.Unheard.{any_without, identity_stays, state_stays, unsorted_certification}
use Rattle.opgp_bound.proofs.Unhung.{identity_unhung, newest_unhung, revocations_unhung, state_unhung}

-- ---- marks
-- what goes is marked by its place: it hangs at 1, and what stays at 0
abbrev goes : Statement → Bool
goes s = s.hang == 1

abbrev stays : Statement → Bool
stays s = not (goes s)

all_stay : (o : Option ℕ) (ss : List Statement) → filter stays (map (at o 0) ss) ≡ map (at o 0) ss
all_stay o [] = refl
all_stay o (s ∷ ss) = ap (λ (l : List Statement). at o 0 s ∷ l) (all_stay o ss)

none_stays : (o : Option ℕ) (ss : List Statement) → filter stays (map (at o 1) ss) ≡ []
none_stays o [] = refl
none_stays o (s ∷ ss) = none_stays o ss

each_holds : {X : Type 0} (P : X → Type 0) → ((x : X) → P x) → (xs : List X) → All P xs
each_holds P h [] = All-nil P
each_holds P h (x ∷ xs) = All-cons P x xs (h x) (each_holds P h xs)

-- ---- what goes names no key that may revoke
no_revokers : (subs : List Sub) → list_any (λ s. is_some (revoker_stated s)) subs ≡ false → revokers_in subs ≡ []
no_revokers [] e = refl
no_revokers (s ∷ subs) e = step (revoker_stated s) e (no_revokers subs) where
  step : (o : Option (List ℕ)) → (is_some o || list_any (λ r. is_some (revoker_stated r)) subs) ≡ false → (list_any (λ r. is_some (revoker_stated r)) subs ≡ false → revokers_in subs ≡ []) → at_most_one o ++ revokers_in subs ≡ []
  step None f rest = rest f
  step (Some x) f rest = absurd (true≢false f)

nothing : (a b : Bool) → (if a then (if b then map Four [] else []) else []) ≡ []
nothing true true = refl
nothing true false = refl
nothing false b = refl

-- ---- on a part
module _ (time : ℕ) (known : List Known) (ss : List Statement) (body : List ℕ) (o : Option ℕ) (subject : SubjectValue) (p : PacketValue) (founds : List Verdict) where
  -- a newer one of its sort counts
  replaced : lasts time known ss body o subject p founds ≡ false → (v : SignatureValue) → signature_at p.body ≡ Ok v → is_replaced (newest_made time ss o) v ≡ true
  replaced e v is =
      let both = and_parts (is_genuine (role_of known (print_of body) subject (first_verdict founds) p)) (replaced_in (newest_made time ss o) p) (not_true (is_genuine (role_of known (print_of body) subject (first_verdict founds) p) && replaced_in (newest_made time ss o) p) e) in
      let read = and_parts (is_signature p) (replaced_read (newest_made time ss o) (signature_at p.body)) both.1 in
      sym (ap (replaced_read (newest_made time ss o)) is) ∙ read.1

  names_none : lasts time known ss body o subject p founds ≡ false → names_of known (print_of body) o subject p founds ≡ []
  names_none e = go (is_signature p) where
    read : (r : Result SignatureValue BodyFault) → signature_at p.body ≡ r → revokers_by known (print_of body) (stands Hung start subject p.body) (first_verdict founds) r ≡ []
    read (Err fault) is = refl
    read (Ok v) is =
        let unnamed : names_revoker v ≡ false = not-true (names_revoker v) (and_parts _ (not (names_revoker v)) (replaced e v is)).1 in
        let right : Bool = is_right Hung start subject (first_verdict founds) v in
        let may : Bool = names_revokers (type_in v) && is_print (print_of body) (issuer_among known v) in
        ap (λ (l : List (List ℕ)). if right then (if may then map Four l else []) else []) (no_revokers (hashed_subs v) unnamed) ∙ nothing right may

    go : (t : Bool) → flat_map (revokers_at known (print_of body)) (with_verdicts founds (if t then signature_standing start subject p.body else [])) ≡ []
    go true = names_first known (print_of body) None 0 subject p.body founds ∙ read (signature_at p.body) refl
    go false = refl

  same_outdated : (place : Place) (life : Option Life) (s : Statement) → is_outdated time ss s ≡ true → is_outdated time ss (with_back place life s) ≡ true
  same_outdated place life s h = step (holds place s) refl where
    step : (t : Bool) → holds place s ≡ t → is_outdated time ss (with_back place life s) ≡ true
    step true e = rw e h
    step false e = rw e h

  -- all that it says is outdated
  said_outdated : (revokers : List Fingerprint) → lasts time known ss body o subject p founds ≡ false → All (λ s. is_outdated time ss s ≡ true) (map (at o 1) (said_of known Usual (print_of body) revokers subject p founds))
  said_outdated revokers e =
      said_all known Usual (print_of body) revokers (λ s. is_outdated time ss s ≡ true) same_outdated o 1 subject p founds
      (λ w is. going_outdated time ss known (print_of body) revokers (hung_at 0 o 1) subject (first_verdict founds) p w e is)

-- all that is said on a user ID knows it
module _ (known : List Known) (print : Fingerprint) (revokers : List Fingerprint) (c : CertificateValue) (o : Option ℕ) (n : ℕ) where
  abbrev OnUserId : Statement → Type 0
  OnUserId s = s.is_on_user_id ≡ is_user_id (subject_on c s.component)

  same_user_id : (place : Place) (life : Option Life) (s : Statement) → OnUserId s → OnUserId (with_back place life s)
  same_user_id place life s h = step (holds place s) refl where
    step : (t : Bool) → holds place s ≡ t → OnUserId (with_back place life s)
    step true e = rw e h
    step false e = rw e h

  stated_knows : (w : SignatureValue) → All OnUserId (stated known Usual print revokers (hung_at 0 o n) (subject_on c o) w)
  stated_knows w = go (is_some (signed_of w)) (author_of known Usual print revokers (issuer known Usual print w)) where
    go : (t : Bool) (by : Option Author) → All OnUserId (if t then stated_by known Usual print revokers (hung_at 0 o n) (subject_on c o) w by else [])
    go true (Some by) =
        All-map OnUserId (statement_of known Usual print revokers (hung_at 0 o n) (subject_on c o) w by) (lives_in w)
        (each_holds (λ l. OnUserId (statement_of known Usual print revokers (hung_at 0 o n) (subject_on c o) w by l)) (λ l. refl) (lives_in w))
    go true None = All-nil OnUserId
    go false by = All-nil OnUserId

  said_knows : (p : PacketValue) (founds : List Verdict) → All OnUserId (map (at o n) (said_of known Usual print revokers (subject_on c o) p founds))
  said_knows p founds = said_all known Usual print revokers OnUserId same_user_id o n (subject_on c o) p founds (λ w is. stated_knows w)

-- ---- a certificate
-- its user IDs, attributes and subkeys all stay
same_heads : (time : ℕ) (known : List Known) (ss : List Statement) (body : List ℕ) (n : ℕ) (ds : List ComponentValue) (founds : List Verdict) → map (λ d. d.head) (newest_components time known ss body n ds founds) ≡ map (λ d. d.head) ds
same_heads time known ss body n [] founds = refl
same_heads time known ss body n (d ∷ ds) founds = ap (λ (l : List PacketValue). d.head ∷ l) (same_heads time known ss body (n + 1) ds (drop (component_rows body d) founds))

pub heads_stay : (time : ℕ) (known : List Known) (c : CertificateValue) (founds : List Verdict) → map (λ d. d.head) (newest_certificate time known c founds).components ≡ map (λ d. d.head) c.components
heads_stay time known c founds = same_heads time known (said known c founds) c.primary.body 0 c.components (drop (rows_on (one c.primary.body) c.hangs) founds)

module _ (time : ℕ) (known : List Known) (c : CertificateValue) (founds : List Verdict) where
  abbrev body : List ℕ
  body = c.primary.body

  abbrev print : Fingerprint
  print = print_of c.primary.body

  abbrev before : List Statement
  before = said known c founds

  abbrev revokers : List Fingerprint
  revokers = revokers_of known c founds

  abbrev lasting : Option ℕ → SubjectValue → PacketValue → List Verdict → Bool
  lasting o subject p rows = lasts time known before body o subject p rows

  abbrev said_there : Option ℕ → SubjectValue → PacketValue → List Verdict → List Statement
  said_there o subject p rows = said_on known Usual print revokers o subject p rows

  abbrev marked : Option ℕ → SubjectValue → PacketValue → List Verdict → List Statement
  marked o subject p rows = map (at o (if lasting o subject p rows then 0 else 1)) (said_of known Usual print revokers subject p rows)

  abbrev staying : Option ℕ → SubjectValue → PacketValue → List Verdict → List Statement
  staying o subject p rows = if lasting o subject p rows then said_there o subject p rows else []

  abbrev raw : List Statement
  raw = say known Usual print revokers [] (with_verdicts founds (certificate_standing 0 c))

  abbrev all_marked : List Statement
  all_marked = on_all marked c founds

  raw_marked : map unhung raw ≡ map unhung all_marked
  raw_marked =
      said_is known Usual print revokers c founds
      ∙ sym (through_all (map unhung) refl (map-append unhung) marked said_there (λ o subject p rows. unhung_at o (if lasting o subject p rows then 0 else 1) (said_of known Usual print revokers subject p rows)) c founds)

  stay_marked : without goes all_marked ≡ on_all staying c founds
  stay_marked = through_all (filter stays) refl (filter-append stays) marked staying each c founds where
    each : (o : Option ℕ) (subject : SubjectValue) (p : PacketValue) (rows : List Verdict) → filter stays (marked o subject p rows) ≡ staying o subject p rows
    each o subject p rows = go (lasting o subject p rows) where
      these : List Statement
      these = said_of known Usual print revokers subject p rows

      go : (t : Bool) → filter stays (map (at o (if t then 0 else 1)) these) ≡ (if t then map (at o 0) these else [])
      go true = all_stay o these
      go false = none_stays o these

  abbrev Goes : Statement → Type 0
  Goes s = goes s ≡ true → is_outdated time before s ≡ true

  marked_outdated : All Goes all_marked
  marked_outdated = all_on_all Goes marked c each founds where
    each : (o : Option ℕ) (p : PacketValue) (rows : List Verdict) → All Goes (marked o (subject_on c o) p rows)
    each o p rows = go (lasting o (subject_on c o) p rows) refl where
      these : List Statement
      these = said_of known Usual print revokers (subject_on c o) p rows

      go : (t : Bool) → lasting o (subject_on c o) p rows ≡ t → All Goes (map (at o (if t then 0 else 1)) these)
      go true e = All-map Goes (at o 0) these (each_holds (λ s. Goes (at o 0 s)) (λ s h. absurd (false≢true h)) these)
      go false e = All-weaker (λ s. is_outdated time before s ≡ true) Goes (λ s h g. h) (map (at o 1) these) (said_outdated time known before body o (subject_on c o) p rows revokers e)

  abbrev Knows : Statement → Type 0
  Knows s = s.is_on_user_id ≡ is_user_id (subject_on c s.component)

  marked_knows : All Knows all_marked
  marked_knows = all_on_all Knows marked c (λ o p rows. said_knows known print revokers c o (if lasting o (subject_on c o) p rows then 0 else 1) p rows) founds

  -- ---- with what is revoked
  abbrev mark : List Statement → Statement → Statement
  mark all s = with_revoked (is_revoked_among all s) s

  abbrev marks : List Statement
  marks = with_revocations all_marked

  marks_unhung : map unhung marks ≡ map unhung before
  marks_unhung = revocations_unhung all_marked ∙ ap with_revocations (sym raw_marked) ∙ sym (revocations_unhung raw)

  same_newest : (o : Option ℕ) (t : SignatureType) → newest_made time before o t ≡ newest_made time marks o t
  same_newest o t = sym (newest_unhung time before o t) ∙ ap (λ (l : List Statement). newest_made time l o t) (sym marks_unhung) ∙ newest_unhung time marks o t

  marks_outdated : AreOutdated time marks goes
  marks_outdated =
      All-map (λ s. goes s ≡ true → is_outdated time marks s ≡ true) (mark all_marked) all_marked
      (All-weaker Goes (λ s. goes s ≡ true → is_outdated time marks s ≡ true) (λ s h e. ap (is_before (made_at s)) (sym (same_newest s.component s.kind)) ∙ h e) all_marked marked_outdated)

  marks_know : AreOnParts (λ o. is_user_id (subject_on c o)) marks
  marks_know = All-map Knows (mark all_marked) all_marked marked_knows

  -- no revocation of a certification goes
  revoking_stays : (s : Statement) → All (λ r. is_revoked_by s r ≡ true → stays r ≡ true) all_marked
  revoking_stays s = All-weaker Goes (λ r. is_revoked_by s r ≡ true → stays r ≡ true) never all_marked marked_outdated where
    never : (r : Statement) → Goes r → is_revoked_by s r ≡ true → stays r ≡ true
    never r out e = step (goes r) refl where
      none : newest_made time before r.component r.kind ≡ None
      none = unsorted_certification r.kind r.component time before (and_parts (revokes_certification r.kind) _ e).0

      step : (t : Bool) → goes r ≡ t → not t ≡ true
      step false f = refl
      step true f = absurd (false≢true (sym (ap (is_before (made_at r)) none ∙ never_before (made_at r)) ∙ out f))

  marks_agree : (ss : List Statement) → map (mark all_marked) ss ≡ map (mark (without goes all_marked)) ss
  marks_agree [] = refl
  marks_agree (s ∷ ss) =
      ap (λ (t : Bool). with_revoked (is_certification_on s && t) s ∷ map (mark all_marked) ss) (sym (any_without stays (is_revoked_by s) all_marked (revoking_stays s)))
      ∙ ap (λ (l : List Statement). mark (without goes all_marked) s ∷ l) (marks_agree ss)

  marks_stay : without goes marks ≡ with_revocations (without goes all_marked)
  marks_stay = kept_map (mark all_marked) stays stays (λ s. refl) all_marked ∙ marks_agree (without goes all_marked)

  -- ---- what stays of it, by the verdicts that are handed on
  module _ (more : List Verdict) (few : certificate_rows c ≤ length founds) where
    abbrev newest : CertificateValue
    newest = newest_certificate time known c founds

    abbrev handed : List Verdict
    handed = certificate_verdicts time known c founds ++ more

    same_names : revokers_of known newest handed ≡ revokers
    same_names =
        names_are known print newest handed
        ∙ remaining time known before body (names_of known print) (names_of known print)
        (λ o subject p rows others l. ap (flat_map (revokers_at known print)) (enough_on None 0 subject p rows others l)) (λ o subject p rows e. refl) (λ o subject p rows e. names_none time known before body o subject p rows e)
        c.hangs c.components founds more few
        ∙ sym (names_are known print c founds)

    abbrev raw_after : List Statement
    raw_after = say known Usual print revokers [] (with_verdicts handed (certificate_standing 0 newest))

    raw_stays : map unhung raw_after ≡ without goes all_marked
    raw_stays =
        said_is known Usual print revokers newest handed
        ∙ remaining time known before body said_there staying
        (λ o subject p rows others l. ap (λ (xs : List (Standing × Verdict)). map (at o 0) (say known Usual print revokers [] xs)) (enough_on None 0 subject p rows others l))
        (λ o subject p rows e. ap (λ (t : Bool). if t then said_there o subject p rows else []) (sym e))
        (λ o subject p rows e. ap (λ (t : Bool). if t then said_there o subject p rows else []) e)
        c.hangs c.components founds more few
        ∙ sym stay_marked

    after_is : map unhung (with_revocations raw_after) ≡ without goes marks
    after_is = revocations_unhung raw_after ∙ ap with_revocations raw_stays ∙ sym marks_stay

    said_after : statements_of known Usual newest handed ≡ with_revocations raw_after
    said_after = ap (λ (l : List Fingerprint). with_revocations (say known Usual print l [] (with_verdicts handed (certificate_standing 0 newest)))) same_names

    -- what doesn't see where a statement hangs, nor what goes
    as_before : {X : Type 0} (f : List Statement → X) → ((ss : List Statement) → f (map unhung ss) ≡ f ss) → f (without goes marks) ≡ f marks → f (statements_of known Usual newest handed) ≡ f before
    as_before f wherever without_those =
        ap f said_after ∙ sym (wherever (with_revocations raw_after)) ∙ ap f after_is ∙ without_those
        ∙ sym (wherever marks) ∙ ap f marks_unhung ∙ wherever before

    pub state_as_before : (k : Key) → state_of (facts_by known Usual newest handed) k time ≡ state_of (facts_by known Usual c founds) k time
    state_as_before k =
        as_before (λ ss. state_of (with_statements (version_of body) (created_of body) ss) k time) (λ ss. state_unhung ss (version_of body) (created_of body) k time)
        (state_stays time marks goes marks_outdated (λ o. is_user_id (subject_on c o)) marks_know (version_of body) (created_of body) k)

    pub identity_as_before : (n : ℕ) → identity_of (facts_by known Usual newest handed) n time ≡ identity_of (facts_by known Usual c founds) n time
    identity_as_before n =
        as_before (λ ss. identity_of (with_statements (version_of body) (created_of body) ss) n time) (λ ss. identity_unhung ss (version_of body) (created_of body) n time)
        (identity_stays time marks goes marks_outdated (λ o. is_user_id (subject_on c o)) marks_know (version_of body) (created_of body) n)
