-- The rule in plain facts: when a key of a certificate is believed for a signature over a document
-- that was made at one time and is read at another. Each fact has its section of RFC 9580.
use Rattle.std.specs.Prelude.{◌≡◌, ◌≢◌, ℕ, ◌+◌, ◌<◌, ◌≤◌, ◌⊎◌, ⊤, Bool, true, false, List, Option, Some, None}
use Rattle.std.specs.List.{Contains}
use Rattle.std.specs.Option.{IsSome}
use Rattle.opgp_octets.specs.declared.signature_type.SignatureType.{SignatureType}
use Rattle.opgp_octets.specs.declared.signature_type.SignatureType.TheVariants as types
use Rattle.opgp_valid.specs.Facts.{FactsValue}
use Rattle.opgp_valid.specs.declared.facts.Key.{Key}
use Rattle.opgp_valid.specs.declared.facts.Key.TheVariants as key
use Rattle.opgp_valid.specs.declared.group.Group.{Group}
use Rattle.opgp_valid.specs.declared.group.Sort.{Sort}
use Rattle.opgp_valid.specs.declared.group.Sort.TheVariants.{Direct, UserIds, Certifications}
use Rattle.opgp_valid.specs.declared.group.Sort.TheVariants.{Main, Expiring, Identity, Bindings}
use Rattle.opgp_valid.specs.Group.{any, good, kept, on_component}
use Rattle.opgp_valid.specs.declared.statement.Author.TheVariants.{Primary}
use Rattle.opgp_valid.specs.declared.statement.Life.{Life}
use Rattle.opgp_valid.specs.declared.statement.Statement.{Statement}
use Rattle.opgp_valid.specs.Standing.{created_of}

-- ---- one signature
-- It is in force: it says when it was made, this time isn't before (5.2.3.11), and it hasn't
-- expired by then (5.2.3.18).
pub record IsInForce (at : ℕ) (stated : Option Life) : Type 0 where
  pub life : Life
  pub is : stated ≡ Some life
  pub begun : life.made ≤ at
  pub unexpired : (life.lasts ≡ 0) ⊎ (at < life.made + life.lasts)

-- a certification of any of the four types (5.2.1.4 to 5.2.1.7)
abbrev pub Certifies : SignatureType → Type 0
Certifies kind = (kind ≡ types.GenericCertification) ⊎ ((kind ≡ types.PersonaCertification)
    ⊎ ((kind ≡ types.CasualCertification) ⊎ (kind ≡ types.PositiveCertification)))

-- a direct key signature on the primary key (5.2.1.10); a certification of some component
abbrev pub IsDirect : Statement → Type 0
IsDirect s = (s.kind ≡ types.DirectKey) × (s.component ≡ None)

abbrev pub IsCertification : Statement → Type 0
IsCertification s = Certifies s.kind × IsSome s.component

-- It is a direct key signature, a certification of some user ID, one of some user ID or attribute,
-- one that says that this is the primary one (5.2.3.27), one that lets the key expire (5.2.3.13),
-- one of this user ID or attribute, or a binding of the subkey that is this component (5.2.1.8).
abbrev pub IsOf : Sort → Statement → Type 0
IsOf Direct s = IsDirect s
IsOf UserIds s = IsCertification s × (s.is_on_user_id ≡ true)
IsOf Certifications s = IsCertification s
IsOf Main s = IsCertification s × (s.is_main ≡ true)
IsOf Expiring s = IsCertification s × (s.key_lasts ≢ 0)
IsOf (Identity n) s = Certifies s.kind × (s.component ≡ Some n)
IsOf (Bindings n) s = (s.kind ≡ types.SubkeyBinding) × (s.component ≡ Some n)

-- It is one of these, good and not revoked (5.2.1.13) if the group asks for that, nothing critical
-- in it is unknown (5.2.3.7), the primary key itself made it (5.2.3.10), and it is in force.
pub record Speaks (group : Group) (at : ℕ) (s : Statement) : Type 0 where
  pub of : IsOf group.sort s
  pub good : group.must_be_good ≡ true → s.doubt ≡ None
  pub standing : group.must_stand ≡ true → s.is_revoked ≡ false
  pub understood : s.is_understood ≡ true
  pub own : s.author ≡ Primary
  pub in_force : IsInForce at s.life

-- it was made when the other was, or before
abbrev pub IsNoLater : Statement → Statement → Type 0
IsNoLater r s = (a b : Life) → r.life ≡ Some a → s.life ≡ Some b → a.made ≤ b.made

-- It speaks, and none that speaks was made later: the newest is heard (5.2.3.10).
pub record IsNewest (group : Group) (at : ℕ) (ss : List Statement) (s : Statement) : Type 0 where
  pub among : Contains ss s
  pub speaks : Speaks group at s
  pub newest : (r : Statement) → Contains ss r → Speaks group at r → IsNoLater r s

-- It is a newest certification of its user ID or user attribute.
abbrev pub IsCurrent : Group → ℕ → List Statement → Statement → Type 0
IsCurrent group at ss s = (n : ℕ) × IsNewest (on_component n group) at ss s

-- It speaks, is current, and none that does and is was made later.
pub record IsNewestCurrent (group : Group) (at : ℕ) (ss : List Statement) (s : Statement)
    : Type 0 where
  pub among : Contains ss s
  pub speaks : Speaks group at s
  pub current : IsCurrent group at ss s
  pub newest : (r : Statement) → Contains ss r → Speaks group at r → IsCurrent group at ss r
      → IsNoLater r s

-- it lets a key of this creation time go on beyond this time (5.2.3.13)
abbrev pub Lasts : ℕ → ℕ → Statement → Type 0
Lasts created at s = (s.key_lasts ≡ 0) ⊎ (at < created + s.key_lasts)

-- ---- a key
-- It revokes the primary key, and so each key (5.2.1.11), or this subkey (5.2.1.12).
abbrev pub Revokes : Key → Statement → Type 0
Revokes key.Primary s = s.kind ≡ types.KeyRevocation
Revokes (key.Subkey n created) s = (s.kind ≡ types.KeyRevocation)
    ⊎ ((s.kind ≡ types.SubkeyRevocation) × (s.component ≡ Some n))

-- It would speak for the primary key: each newest good direct key signature, and in version 4 also
-- each newest good certification of a user ID (10.1); revoked ones too, or only those that aren't.
abbrev pub IsSpoken : FactsValue → Bool → ℕ → Statement → Type 0
IsSpoken f stand at s = IsNewest (good Direct) at f.statements s
    ⊎ ((f.version ≡ 4) × IsNewest (kept stand (good UserIds)) at f.statements s)

-- Something that isn't revoked speaks, so that what is revoked plays no part (5.2.1.13).
abbrev pub HasUnrevoked : FactsValue → ℕ → Type 0
HasUnrevoked f at = (s : Statement) × IsSpoken f true at s

-- This holds of those that aren't revoked where one of them speaks, and else of all.
abbrev pub OfThose : FactsValue → ℕ → (Bool → Type 0) → Type 0
OfThose f at holds = (HasUnrevoked f at × holds true) ⊎ ((HasUnrevoked f at → ⊥) × holds false)

-- It speaks for a key; for a subkey each newest good binding does.
abbrev pub IsSpeaker : FactsValue → Key → ℕ → Statement → Type 0
IsSpeaker f key.Primary at s = OfThose f at (λ stand. IsSpoken f stand at s)
IsSpeaker f (key.Subkey n created) at s = IsNewest (good (Bindings n)) at f.statements s

-- It would limit what is said of the primary key, good or not: a newest direct key signature, a
-- newest certification, and of the current ones a newest that says that its user ID is the primary
-- one (5.2.3.27), and a newest that lets the key expire (5.2.3.13).
abbrev pub IsLimiting : FactsValue → Bool → ℕ → Statement → Type 0
IsLimiting f stand at s = IsNewest (any Direct) at f.statements s
    ⊎ (IsNewest (kept stand (any Certifications)) at f.statements s
    ⊎ (IsNewestCurrent (kept stand (any Main)) at f.statements s
    ⊎ IsNewestCurrent (kept stand (any Expiring)) at f.statements s))

-- It limits what is said of a key; of a subkey each newest binding does, good or not.
abbrev pub IsLimiter : FactsValue → Key → ℕ → Statement → Type 0
IsLimiter f key.Primary at s = OfThose f at (λ stand. IsLimiting f stand at s)
IsLimiter f (key.Subkey n created) at s = IsNewest (any (Bindings n)) at f.statements s

abbrev pub IsHeard : FactsValue → Key → ℕ → Statement → Type 0
IsHeard f k at s = IsSpeaker f k at s ⊎ IsLimiter f k at s

-- A signature by the subkey itself is embedded in its binding, and is in force (5.2.1.9, 5.2.3.34).
abbrev pub IsBacked : Key → ℕ → Statement → Type 0
IsBacked key.Primary at s = ⊤
IsBacked (key.Subkey n created) at s = IsInForce at s.back

-- The key has this at a time. What is said of the primary key concerns its subkeys too.
pub record StandsAt (f : FactsValue) (k : Key) (at : ℕ) : Type 0 where
  -- something speaks for the primary key (10.1), and for the key (5.2.1.8)
  pub primary_said : (s : Statement) × IsSpeaker f key.Primary at s
  pub said : (s : Statement) × IsSpeaker f k at s
  -- nothing of it lets the primary key, or the key, expire by then (5.2.3.13)
  pub primary_lasts : (s : Statement) → IsHeard f key.Primary at s → Lasts f.created at s
  pub lasts : (s : Statement) → IsHeard f k at s → Lasts (created_of f k) at s
  -- something that speaks for the key has key flags, and all that is heard lets it sign (5.2.3.29)
  pub flagged : (s : Statement) × IsSpeaker f k at s × (s.has_flags ≡ true)
  pub signs : (s : Statement) → IsHeard f k at s → s.uses.sign ≡ true
  -- and each binding has the subkey's own signature (5.2.1.9)
  pub backed : (s : Statement) → IsHeard f k at s → IsBacked k at s

-- The key is believed for a signature that was made then, and is read now.
pub record Stands (f : FactsValue) (k : Key) (made now : ℕ) : Type 0 where
  -- it wasn't made later than now
  pub past : made ≤ now
  -- nothing revokes the key, whenever it was made, and whether or not the policy relies on it
  pub unrevoked : (s : Statement) → Contains f.statements s → Revokes k s → ⊥
  -- both keys were there when it was made
  pub primary_created : f.created ≤ made
  pub created : created_of f k ≤ made
  -- the key stood when it was made, and stands now
  pub stood : StandsAt f k made
  pub stands : StandsAt f k now
