-- What makes a key not believed: whose it is, at which of the two times, from or until when, and
-- which signature says so.
use Rattle.std.specs.Prelude.{ℕ, ◌+◌, nat_lt, Bool, true, false, not, ◌&&◌, ◌||◌, ◌==◌}
use Rattle.std.specs.Prelude.{if◌then◌else◌, [], ◌∷◌, Option, Some, None, find}
use Rattle.std.specs.List.{list_any}
use Rattle.std.specs.Option.{option_map}
use Rattle.opgp_octets.specs.declared.signature_type.SignatureType.{SignatureType}
use Rattle.opgp_octets.specs.declared.signature_type.SignatureType.TheVariants as types
use Rattle.opgp_valid.specs.Facts.{FactsValue}
use Rattle.opgp_valid.specs.Group.{is_in, is_primary}
use Rattle.opgp_valid.specs.Saying.{is_nonempty}
use Rattle.opgp_valid.specs.Speaking.{end_in, made_at}
use Rattle.opgp_valid.specs.Standing.{created_of, has_ended, heard, is_expired_at, is_unbacked_at}
use Rattle.opgp_valid.specs.Standing.{is_unbound_at, may_not_sign_at, revokes, speakers}
use Rattle.opgp_valid.specs.Standing.{standing_of}
use Rattle.opgp_valid.specs.Statement.{end_of, is_alive, is_good}
use Rattle.opgp_valid.specs.declared.cause.Cause.{Cause}
use Rattle.opgp_valid.specs.declared.cause.Spot.{Spot}
use Rattle.opgp_valid.specs.declared.doubt.Doubt.{Doubt}
use Rattle.opgp_valid.specs.declared.doubt.Doubt.TheVariants as doubt
use Rattle.opgp_valid.specs.declared.doubt.Lack.{Lack}
use Rattle.opgp_valid.specs.declared.doubt.Lack.TheVariants.{Newer, Lapsed, Weak, Malformed}
use Rattle.opgp_valid.specs.declared.doubt.Lack.TheVariants.{Undated, Young, Critical}
use Rattle.opgp_valid.specs.declared.facts.Key.{Key}
use Rattle.opgp_valid.specs.declared.facts.Key.TheVariants as key
use Rattle.opgp_valid.specs.declared.group.Sort.TheVariants.{Direct, UserIds, Certifications}
use Rattle.opgp_valid.specs.declared.group.Sort.TheVariants.{Bindings}
use Rattle.opgp_valid.specs.declared.statement.Life.{Life}
use Rattle.opgp_valid.specs.declared.statement.Statement.{Statement}
use Rattle.opgp_valid.specs.declared.why.Why.{Why}
use Rattle.opgp_valid.specs.declared.why.Why.TheVariants.{Future, Revoked, Early, Unbound, Expired}
use Rattle.opgp_valid.specs.declared.why.Why.TheVariants.{Flags, Back}

-- ---- signatures
abbrev pub spot_of : Statement → Spot
spot_of s = record { component = s.component; hang = s.hang }

-- by the primary key, and of a kind that speaks for a key: direct key signatures and, in version 4,
-- certifications of user IDs (RFC 9580, 10.1); bindings of this subkey (5.2.1.8)
abbrev pub may_speak : FactsValue → Key → Statement → Bool
may_speak f key.Primary s =
    is_primary s.author && (is_in Direct s || (f.version == 4 && is_in UserIds s))
may_speak f (key.Subkey n created) s = is_primary s.author && is_in (Bindings n) s

-- by the primary key, and of a kind that is heard for it
abbrev pub may_be_heard : Key → Statement → Bool
may_be_heard key.Primary s = is_primary s.author && (is_in Direct s || is_in Certifications s)
may_be_heard (key.Subkey n created) s = is_primary s.author && is_in (Bindings n) s

-- ---- what a signature lacks to speak at a time
-- it would speak if the time were another one
abbrev pub is_sound : Statement → Bool
is_sound s = s.is_understood && is_good s

abbrev pub is_newer : ℕ → Option Life → Bool
is_newer at None = false
is_newer at (Some life) = nat_lt at life.made

abbrev pub is_that : Doubt → Doubt → Bool
is_that doubt.Weak doubt.Weak = true
is_that doubt.Malformed doubt.Malformed = true
is_that doubt.Undated doubt.Undated = true
is_that doubt.Young doubt.Young = true
is_that wanted found = false

abbrev pub is_doubted : Doubt → Option Doubt → Bool
is_doubted wanted None = false
is_doubted wanted (Some found) = is_that wanted found

-- made later; expired (5.2.3.18); the policy doesn't rely on it; a hashed subpacket is malformed;
-- it states no creation time, or several (5.2.3.11); it is older than the primary key; something
-- critical in it is unknown (5.2.3.7)
abbrev pub lacks : ℕ → Statement → Lack → Bool
lacks at s Newer = is_sound s && is_newer at s.life
lacks at s Lapsed = is_sound s && (not (is_newer at s.life) && not (is_alive at s))
lacks at s Weak = is_doubted doubt.Weak s.doubt
lacks at s Malformed = is_doubted doubt.Malformed s.doubt
lacks at s Undated = is_doubted doubt.Undated s.doubt
lacks at s Young = is_doubted doubt.Young s.doubt
lacks at s Critical = not s.is_understood

-- one of those that may speak for a key lacks this
abbrev pub is_lacking : FactsValue → Key → ℕ → Lack → Statement → Bool
is_lacking f k at lack s = may_speak f k s && lacks at s lack

unfoldable pub has_lack : FactsValue → Key → ℕ → Lack → Bool
has_lack f k at lack = list_any (is_lacking f k at lack) f.statements

-- what is said first; nothing if no signature is there that could speak
unfoldable pub lack_of : FactsValue → Key → ℕ → Option Lack
lack_of f k at = find (has_lack f k at)
    (Newer ∷ Lapsed ∷ Weak ∷ Malformed ∷ Undated ∷ Young ∷ Critical ∷ [])

-- until when it counted, if that is it; or when it was made
abbrev pub lapse_of : Statement → Option ℕ
lapse_of s = option_map (λ life. life.made + life.lasts) s.life

abbrev pub lack_date : Lack → Statement → Option ℕ
lack_date Lapsed s = lapse_of s
lack_date other s = made_at s

-- ---- which of the two times
abbrev pub is_so_at : FactsValue → Key → Why → ℕ → Bool
is_so_at f k Unbound at = is_unbound_at f k at
is_so_at f k Expired at = is_expired_at f k at
is_so_at f k Flags at = may_not_sign_at f k at
is_so_at f k Back at = is_unbacked_at f k at
is_so_at f k Future at = true
is_so_at f k Revoked at = true
is_so_at f k Early at = true

-- it wasn't so when the signature was made, and is now
unfoldable pub only_now : FactsValue → Key → ℕ → Why → Bool
only_now f k made why = not (is_so_at f k why made)

abbrev pub time_of : FactsValue → Key → ℕ → ℕ → Why → ℕ
time_of f k made now why = if only_now f k made why then now else made

-- ---- whose it is
-- nothing speaks for the primary key; or it has expired; or something revokes it; or it is younger
unfoldable pub unbound_key : FactsValue → Key → ℕ → Key
unbound_key f k at = if is_nonempty (speakers f key.Primary at) then k else key.Primary

unfoldable pub expired_key : FactsValue → Key → ℕ → Key
expired_key f k at =
    if has_ended at (end_in f.created (heard f key.Primary at)) then key.Primary else k

abbrev pub revokes_primary : SignatureType → Bool
revokes_primary types.KeyRevocation = true
revokes_primary other = false

abbrev pub revoked_key : Key → Statement → Key
revoked_key k s = if revokes_primary s.kind then key.Primary else k

abbrev pub early_key : FactsValue → Key → ℕ → Key
early_key f k made = if nat_lt made f.created then key.Primary else k

-- ---- the cause
-- its words: the reason, of this key, at one of the two times, with what is lacking; a date; and a
-- signature
abbrev pub cause_with : Why → Key → Bool → Option Lack → Option ℕ → Option Spot → Cause
cause_with why k now lack date spot = record {
  why = why;
  key = k;
  is_now = now;
  lack = lack;
  date = date;
  spot = spot;
}

-- the date is that of the revocation
abbrev pub revoked_by : Key → Option Statement → Cause
revoked_by k None = cause_with Revoked k false None None None
revoked_by k (Some s) =
    cause_with Revoked (revoked_key k s) false None (made_at s) (Some (spot_of s))

-- when the key was created
abbrev pub early_by : FactsValue → Key → Cause
early_by f k = cause_with Early k false None (Some (created_of f k)) None

-- of what is lacking, by the first that lacks it
abbrev pub lacking_by : Key → Bool → Lack → Option Statement → Cause
lacking_by k now lack None = cause_with Unbound k now (Some lack) None None
lacking_by k now lack (Some s) =
    cause_with Unbound k now (Some lack) (lack_date lack s) (Some (spot_of s))

abbrev pub unbound_by : FactsValue → Key → Bool → ℕ → Option Lack → Cause
unbound_by f k now at None = cause_with Unbound k now None None None
unbound_by f k now at (Some lack) =
    lacking_by k now lack (find (is_lacking f k at lack) f.statements)

unfoldable pub unbound_at : FactsValue → Key → Bool → ℕ → Cause
unbound_at f k now at = unbound_by f k now at (lack_of f k at)

-- the end, and the first signature that says so and counts then
abbrev pub is_end : Option ℕ → Option ℕ → Bool
is_end (Some a) (Some b) = a == b
is_end a b = false

abbrev pub ends_it : Key → ℕ → Option ℕ → ℕ → Statement → Bool
ends_it k created end at s =
    may_be_heard k s && (is_alive at s && is_end end (end_of created s))

abbrev pub expired_by : FactsValue → Key → Bool → ℕ → Option ℕ → Cause
expired_by f k now at end = cause_with Expired k now None end
    (option_map spot_of (find (ends_it k (created_of f k) end at) f.statements))

unfoldable pub expired_at : FactsValue → Key → Bool → ℕ → Cause
expired_at f k now at = expired_by f k now at (end_in (created_of f k) (heard f k at))

-- of a reason that applies
abbrev pub cause_by : FactsValue → Key → ℕ → ℕ → Why → Cause
cause_by f k made now Future = cause_with Future k false None (Some made) None
cause_by f k made now Revoked = revoked_by k (find (revokes k) f.statements)
cause_by f k made now Early = early_by f (early_key f k made)
cause_by f k made now Unbound = unbound_at f (unbound_key f k (time_of f k made now Unbound))
    (only_now f k made Unbound) (time_of f k made now Unbound)
cause_by f k made now Expired = expired_at f (expired_key f k (time_of f k made now Expired))
    (only_now f k made Expired) (time_of f k made now Expired)
cause_by f k made now Flags = cause_with Flags k (only_now f k made Flags) None None None
cause_by f k made now Back = cause_with Back k (only_now f k made Back) None None None

abbrev pub cause_of : FactsValue → Key → ℕ → ℕ → Option Cause
cause_of f k made now = option_map (cause_by f k made now) (standing_of f k made now)
