-- What the signatures of a certificate say, by the verdicts on them.
use Rattle.std.specs.Prelude.{ℕ, nat_le, nat_lt, Bool, true, false, ◌&&◌, ◌||◌, ◌==◌, if◌then◌else◌}
use Rattle.std.specs.Prelude.{List, [], ◌∷◌}
use Rattle.std.specs.Prelude.{◌++◌, map, Option, Some, None, is_some, is_none, find, is_ok, not}
use Rattle.std.specs.Prelude.{Result, Ok, Err}
use Rattle.std.specs.List.{flat_map, fold, list_any}
use Rattle.std.specs.Option.{option_map}
use Rattle.opgp_octets.specs.SignatureType.{signature_type_of}
use Rattle.opgp_octets.specs.declared.fault.BodyFault.{BodyFault}
use Rattle.opgp_octets.specs.declared.signature_type.SignatureType.{SignatureType}
use Rattle.opgp_octets.specs.declared.signature_type.SignatureType.TheVariants as types
use Rattle.opgp_octets.specs.declared.subpacket_kind.SubpacketKind.TheVariants as kind
use Rattle.opgp_packet.specs.Areas.{hashed_subs, unhashed_subs}
use Rattle.opgp_packet.specs.SignatureBody.{SignatureValue, signature_at}
use Rattle.opgp_packet.specs.Subpackets.{Sub}
use Rattle.opgp_hash.specs.Asking.{ask_at_of}
use Rattle.opgp_hash.specs.Fingerprint.{print_octets, print_version}
use Rattle.opgp_hash.specs.SignedValue.{SignedValue, signed_of}
use Rattle.opgp_hash.specs.SubjectValue.{SubjectValue, first_key, on_user_id, one, two}
use Rattle.opgp_hash.specs.declared.fingerprints.Fingerprint.{Fingerprint}
use Rattle.opgp_hash.specs.declared.fingerprints.Fingerprint.TheVariants.{Four}
use Rattle.opgp_hash.specs.declared.site.Site.{Site}
use Rattle.opgp_hash.specs.declared.site.Site.TheVariants.{Hung}
use Rattle.opgp_keyring.specs.Keyring.{CertificateValue}
use Rattle.opgp_report.specs.First.{first_by_print, has_print, print_of}
use Rattle.opgp_report.specs.Standing.{Standing, certificate_standing}
use Rattle.opgp_report.specs.declared.place.Place.{Place}
use Rattle.opgp_report.specs.declared.verifier.Verdict.{Verdict}
use Rattle.opgp_report.specs.declared.verifier.Verdict.TheVariants as verdict
use Rattle.opgp_valid.specs.Group.{certifies, is_certification_on, is_direct, is_primary, is_the}
use Rattle.opgp_valid.specs.KnownKeys.{issuer_among}
use Rattle.opgp_valid.specs.Policy.{relies_on}
use Rattle.opgp_valid.specs.State.{revokes_certification}
use Rattle.opgp_valid.specs.Subpackets.{has_flags, has_unfit, has_unknown_critical, revokers_in}
use Rattle.opgp_valid.specs.Subpackets.{is_main_in, lasts_in, made_in, numbers_in, reason_in}
use Rattle.opgp_valid.specs.Subpackets.{uses_in_area}
use Rattle.opgp_valid.specs.declared.doubt.Doubt.{Doubt}
use Rattle.opgp_valid.specs.declared.doubt.Doubt.TheVariants.{Weak, Malformed, Undated, Young}
use Rattle.opgp_valid.specs.declared.known_keys.Known.{Known}
use Rattle.opgp_valid.specs.declared.policy.Policy.{Policy}
use Rattle.opgp_valid.specs.declared.statement.Author.{Author}
use Rattle.opgp_valid.specs.declared.statement.Author.TheVariants as author
use Rattle.opgp_valid.specs.declared.statement.Life.{Life}
use Rattle.opgp_valid.specs.declared.statement.Statement.{Statement}

-- ---- what a signature is
-- its type and its hash algorithm, in versions 4 and 6 (RFC 9580, 5.2.3)
abbrev pub type_by : Option SignedValue → SignatureType
type_by None = types.Other 0
type_by (Some s) = signature_type_of s.kind

abbrev pub type_in : SignatureValue → SignatureType
type_in v = type_by (signed_of v)

abbrev pub hash_by : Option SignedValue → ℕ
hash_by None = 0
hash_by (Some s) = s.hash

abbrev pub hash_in : SignatureValue → ℕ
hash_in v = hash_by (signed_of v)

-- from when it counts, and how long (5.2.3.11, 5.2.3.18)
abbrev pub life_by : ℕ → ℕ → Life
life_by lasts made = record { made = made; lasts = lasts }

abbrev pub life_of : List Sub → Option Life
life_of subs = option_map (life_by (lasts_in kind.Expires subs)) (made_in subs)

abbrev pub life_in : SignatureValue → Option Life
life_in v = life_of (hashed_subs v)

-- the same for each creation time that it states; without any it never counts
abbrev pub lives_by : ℕ → List ℕ → List (Option Life)
lives_by lasts [] = None ∷ []
lives_by lasts (t ∷ ts) = map (λ made. Some (life_by lasts made)) (t ∷ ts)

abbrev pub lives_of : List Sub → List (Option Life)
lives_of subs = lives_by (lasts_in kind.Expires subs) (numbers_in kind.Created subs)

abbrev pub lives_in : SignatureValue → List (Option Life)
lives_in v = lives_of (hashed_subs v)

-- ---- what it is made over
abbrev pub revokes_key : SignatureType → Bool
revokes_key types.KeyRevocation = true
revokes_key other = false

abbrev pub is_asked_alone : Option (List ℕ) → SignatureValue → Bool
is_asked_alone None v = false
is_asked_alone (Some primary) v = is_ok (ask_at_of Hung v (one primary))

-- it is hashed where it is; or it is a revocation of the primary key on a component, and hashes the
-- primary key alone all the same (5.2.1.11, 5.2.4)
abbrev pub is_asked : Site → Place → SubjectValue → SignatureValue → Bool
is_asked site place subject v = is_ok (ask_at_of site v subject)
    || ((is_none place.nested && revokes_key (type_in v)) && is_asked_alone (first_key subject) v)

abbrev pub is_good_verdict : Verdict → Bool
is_good_verdict verdict.Good = true
is_good_verdict verdict.Bad = false
is_good_verdict verdict.Undecided = false

-- it is good by arithmetic, over what it is made over
abbrev pub is_right : Site → Place → SubjectValue → Verdict → SignatureValue → Bool
is_right site place subject found v = is_good_verdict found && is_asked site place subject v

abbrev pub is_genuine : Standing → Verdict → SignatureValue → Bool
is_genuine s found v = is_right s.site s.place s.subject found v

-- ---- who made it
abbrev pub is_print : Fingerprint → Option Known → Bool
is_print print None = false
is_print print (Some k) = has_print (print_version print) (print_octets print) k.print

abbrev pub is_print_among : List Fingerprint → Option Known → Bool
is_print_among prints None = false
is_print_among prints (Some k) =
    is_some (first_by_print (print_version k.print) (print_octets k.print) prints)

abbrev pub relies_with : Policy → ℕ → Option Known → Bool
relies_with policy hash None = false
relies_with policy hash (Some k) = relies_on policy hash k.is_strong k.least_digest

-- it wasn't made before its issuer's key
abbrev pub is_of_age : Option Life → Option Known → Bool
is_of_age (Some life) (Some k) = nat_le k.created life.made
is_of_age life k = false

-- what is in doubt of a signature with this hash algorithm and these hashed subpackets by this key:
-- the policy doesn't rely on it; a hashed subpacket hasn't the form of its kind (5.2.3.7); it
-- states no creation time, or several (5.2.3.11); its key is younger
abbrev pub has_doubt : Policy → ℕ → List Sub → Option Known → Doubt → Bool
has_doubt policy hash subs k Weak = not (relies_with policy hash k)
has_doubt policy hash subs k Malformed = has_unfit subs
has_doubt policy hash subs k Undated = is_none (life_of subs)
has_doubt policy hash subs k Young = not (is_of_age (life_of subs) k)

-- the first of these that it has, if it isn't good
unfoldable pub doubt_by : Policy → ℕ → List Sub → Option Known → Option Doubt
doubt_by policy hash subs k =
    find (has_doubt policy hash subs k) (Weak ∷ Malformed ∷ Undated ∷ Young ∷ [])

-- signatures that may name keys which may revoke (5.2.3.23)
abbrev pub names_revokers : SignatureType → Bool
names_revokers t = is_direct t || certifies t

abbrev pub second_key : SubjectValue → Option (List ℕ)
second_key (two primary subkey) = Some subkey
second_key other = None

abbrev pub is_user_id : SubjectValue → Bool
is_user_id (on_user_id primary id) = true
is_user_id other = false

-- nothing critical in it is unknown (5.2.3.7)
abbrev pub is_understood : SignatureValue → Bool
is_understood v =
    not (has_unknown_critical (hashed_subs v) || has_unknown_critical (unhashed_subs v))

abbrev pub is_by_subkey : Option (List ℕ) → Option Known → Bool
is_by_subkey None k = false
is_by_subkey (Some subkey) k = is_print (print_of subkey) k

-- ---- with verdicts
-- each signature with its verdict, in order; where there is none it is undecided
abbrev pub first_verdict : List Verdict → Verdict
first_verdict [] = verdict.Undecided
first_verdict (found ∷ founds) = found

abbrev pub rest_of : {A : Type 0} → List A → List A
rest_of [] = []
rest_of (x ∷ xs) = xs

abbrev pub with_verdicts : List Verdict → List Standing → List (Standing × Verdict)
with_verdicts founds [] = []
with_verdicts founds (s ∷ ss) = (s, first_verdict founds) ∷ with_verdicts (rest_of founds) ss

-- the last item, changed
abbrev pub change_last : {A : Type 0} → (A → A) → List A → List A
change_last f [] = []
change_last f (x ∷ []) = f x ∷ []
change_last f (x ∷ y ∷ ys) = x ∷ change_last f (y ∷ ys)

abbrev pub is_same_number : Option ℕ → Option ℕ → Bool
is_same_number None None = true
is_same_number (Some a) (Some b) = a == b
is_same_number a b = false

-- it is the signature in which the one at this place is embedded
abbrev pub holds : Place → Statement → Bool
holds place st = is_same_number st.component place.component && (st.hang == place.hang)

abbrev pub with_back : Place → Option Life → Statement → Statement
with_back place life st = if holds place st then record {
  kind = st.kind;
  component = st.component;
  is_on_user_id = st.is_on_user_id;
  hang = st.hang;
  author = st.author;
  is_understood = st.is_understood;
  doubt = st.doubt;
  life = st.life;
  key_lasts = st.key_lasts;
  has_flags = st.has_flags;
  uses = st.uses;
  is_main = st.is_main;
  is_revoked = st.is_revoked;
  back = life;
  reason = st.reason;
} else st

-- ---- certifications that the primary key has revoked
abbrev pub is_older : Option Life → Option Life → Bool
is_older (Some a) (Some b) = nat_lt a.made b.made
is_older a b = false

-- the second is a revocation of the certification of this user ID or attribute by the primary key,
-- and isn't older than the first (5.2.1.13)
abbrev pub is_revoked_by : Statement → Statement → Bool
is_revoked_by s r = revokes_certification r.kind && (is_primary r.author
    && (is_same_number r.component s.component && not (is_older r.life s.life)))

abbrev pub is_revoked_among : List Statement → Statement → Bool
is_revoked_among ss s = is_certification_on s && list_any (is_revoked_by s) ss

abbrev pub with_revoked : Bool → Statement → Statement
with_revoked revoked st = record {
  kind = st.kind;
  component = st.component;
  is_on_user_id = st.is_on_user_id;
  hang = st.hang;
  author = st.author;
  is_understood = st.is_understood;
  doubt = st.doubt;
  life = st.life;
  key_lasts = st.key_lasts;
  has_flags = st.has_flags;
  uses = st.uses;
  is_main = st.is_main;
  is_revoked = revoked;
  back = st.back;
  reason = st.reason;
}

-- each with whether it is revoked
abbrev pub with_revocations : List Statement → List Statement
with_revocations ss = map (λ s. with_revoked (is_revoked_among ss s) s) ss

-- ---- keys that may revoke
module _ (known : List Known) (primary : Fingerprint) where
  -- the fingerprints that a genuine signature names, if it is by the primary key
  abbrev pub named_by : SignatureValue → List Fingerprint
  named_by v = if names_revokers (type_in v) && is_print primary (issuer_among known v)
      then map Four (revokers_in (hashed_subs v)) else []

  abbrev pub revokers_by : Standing → Verdict → Result SignatureValue BodyFault → List Fingerprint
  revokers_by s found (Err fault) = []
  revokers_by s found (Ok v) =
      if is_none s.place.nested && is_genuine s found v then named_by v else []

  abbrev pub revokers_at : Standing × Verdict → List Fingerprint
  revokers_at x = revokers_by x.0 x.1 (signature_at x.0.body)

-- ---- what they say
module _ (known : List Known) (policy : Policy) (primary : Fingerprint) where
  abbrev pub issuer : SignatureValue → Option Known
  issuer v = issuer_among known v

  -- why it isn't good, if it isn't
  abbrev pub doubt_of : SignatureValue → Option Doubt
  doubt_of v = doubt_by policy (hash_in v) (hashed_subs v) (issuer v)

  -- its life, if it is good and by the subkey
  abbrev pub back_in : Option (List ℕ) → SignatureValue → Option Life
  back_in subkey v = if is_some (signed_of v)
      && (is_by_subkey subkey (issuer v) && (is_understood v && is_none (doubt_of v)))
      then life_in v else None

  module _ (revokers : List Fingerprint) where
    -- whose it is, if what they say counts
    abbrev pub author_of : Option Known → Option Author
    author_of k = if is_print primary k then Some author.Primary
        else (if is_print_among revokers k then Some author.Revoker else None)

    abbrev pub statement_of : Place → SubjectValue → SignatureValue → Author → Option Life
        → Statement
    statement_of place subject v by life = record {
      kind = type_in v;
      component = place.component;
      is_on_user_id = is_user_id subject;
      hang = place.hang;
      author = by;
      is_understood = is_understood v;
      doubt = doubt_of v;
      life = life;
      key_lasts = lasts_in kind.KeyExpires (hashed_subs v);
      has_flags = has_flags (hashed_subs v);
      uses = uses_in_area (hashed_subs v);
      is_main = is_main_in (hashed_subs v);
      is_revoked = false;
      back = None;
      reason = reason_in (hashed_subs v);
    }

    -- it is said at each time that it states (5.2.3.11); where these are several it isn't good, and
    -- only limits
    abbrev pub stated_by : Place → SubjectValue → SignatureValue → Option Author → List Statement
    stated_by place subject v None = []
    stated_by place subject v (Some by) = map (statement_of place subject v by) (lives_in v)

    -- a signature packet adds what it says
    abbrev pub stated : Place → SubjectValue → SignatureValue → List Statement
    stated place subject v =
        if is_some (signed_of v) then stated_by place subject v (author_of (issuer v)) else []

    -- the first that is embedded adds its life to the one that it is embedded in, if it is good and
    -- by the subkey (5.2.1.9)
    abbrev pub with_embedded : Place → Option (List ℕ) → SignatureValue → List Statement
        → List Statement
    with_embedded place subkey v told = if is_the 0 place.nested
        then change_last (with_back place (back_in subkey v)) told else told

    abbrev pub told_by : Standing → SignatureValue → List Statement → List Statement
    told_by s v told = if is_none s.place.nested then told ++ stated s.place s.subject v
        else with_embedded s.place (second_key s.subject) v told

    abbrev pub told_with : List Statement → Standing → Verdict → Result SignatureValue BodyFault
        → List Statement
    told_with told s found (Err fault) = told
    told_with told s found (Ok v) = if is_genuine s found v then told_by s v told else told

    abbrev pub told : List Statement → Standing × Verdict → List Statement
    told before x = told_with before x.0 x.1 (signature_at x.0.body)

-- the keys that genuine signatures of a certificate name for revoking (5.2.3.23), by these verdicts
-- on its rows in a report
abbrev pub revokers_of : List Known → CertificateValue → List Verdict → List Fingerprint
revokers_of known c founds = flat_map (revokers_at known (print_of c.primary.body))
    (with_verdicts founds (certificate_standing 0 c))

-- What its signatures say. In plain words: of each of its packets, in order, that is a signature of
-- version 4 or 6, whose verdict is good over what it follows, and that the primary key made or one
-- of those keys, it is what that says, at each time that it states. Of the signatures that are
-- embedded in it the first is its back signature, if it is good and by the subkey (5.2.1.9). A
-- certification is marked as revoked if the primary key revoked it, not before it was made
-- (5.2.1.13).
abbrev pub statements_of : List Known → Policy → CertificateValue → List Verdict → List Statement
statements_of known policy c founds = with_revocations
    (fold (told known policy (print_of c.primary.body) (revokers_of known c founds)) []
    (with_verdicts founds (certificate_standing 0 c)))
