-- Whether a key is believed for a signature that was made at one time and is read at another.
use Rattle.std.specs.Prelude.{ℕ, nat_le, nat_lt, Bool, true, false, not, ◌&&◌, ◌||◌, ◌==◌}
use Rattle.std.specs.Prelude.{if◌then◌else◌, List, [], ◌∷◌, ◌++◌, Option, Some, None, find}
use Rattle.std.specs.List.{list_any, list_all}
use Rattle.opgp_octets.specs.declared.signature_type.SignatureType.{SignatureType}
use Rattle.opgp_octets.specs.declared.signature_type.SignatureType.TheVariants as types
use Rattle.opgp_valid.specs.declared.facts.Key.{Key}
use Rattle.opgp_valid.specs.declared.facts.Key.TheVariants as key
use Rattle.opgp_valid.specs.declared.group.Sort.TheVariants.{Direct, UserIds, Certifications}
use Rattle.opgp_valid.specs.declared.group.Sort.TheVariants.{Main, Expiring, Bindings}
use Rattle.opgp_valid.specs.declared.statement.Statement.{Statement}
use Rattle.opgp_valid.specs.declared.why.Why.{Why}
use Rattle.opgp_valid.specs.declared.why.Why.TheVariants.{Future, Revoked, Early, Unbound, Expired}
use Rattle.opgp_valid.specs.declared.why.Why.TheVariants.{Flags, Back}
use Rattle.opgp_valid.specs.Facts.{FactsValue}
use Rattle.opgp_valid.specs.Group.{any, good, is_the, kept}
use Rattle.opgp_valid.specs.Saying.{is_nonempty}
use Rattle.opgp_valid.specs.Speaking.{end_in, newest, newest_current, uses_in}
use Rattle.opgp_valid.specs.Statement.{has_back}

-- ---- revocations
-- a revocation of the primary key, which revokes its subkeys too, wherever it is (RFC 9580,
-- 5.2.1.11); or one of this subkey (5.2.1.12). It is enough that arithmetic is right: not whether a
-- policy relies on it, nor when it was made.
abbrev pub is_component : Key → Option ℕ → Bool
is_component key.Primary component = false
is_component (key.Subkey n created) component = is_the n component

abbrev pub is_revocation_of : Key → SignatureType → Option ℕ → Bool
is_revocation_of k types.KeyRevocation component = true
is_revocation_of k types.SubkeyRevocation component = is_component k component
is_revocation_of k other component = false

abbrev pub revokes : Key → Statement → Bool
revokes k s = is_revocation_of k s.kind s.component

abbrev pub is_revoked : FactsValue → Key → Bool
is_revoked f k = list_any (revokes k) f.statements

-- ---- who speaks
-- for the primary key, with or without the certifications that it has revoked: the newest good
-- direct key signatures, and in version 4 also the newest good certifications of user IDs
-- (5.2.3.10, 10.1)
abbrev pub spoken : FactsValue → Bool → ℕ → List Statement
spoken f stand at = newest (good Direct) at f.statements
    ++ (if f.version == 4 then newest (kept stand (good UserIds)) at f.statements else [])

-- revoked certifications play no part while something else speaks (5.2.1.13)
abbrev pub must_stand : FactsValue → ℕ → Bool
must_stand f at = is_nonempty (spoken f true at)

-- for a subkey: the newest good bindings (5.2.1.8)
abbrev pub speakers : FactsValue → Key → ℕ → List Statement
speakers f key.Primary at = spoken f (must_stand f at) at
speakers f (key.Subkey n created) at = newest (good (Bindings n)) at f.statements

-- who limits what is said of the primary key, good or not, with or without revoked certifications:
-- the newest direct key signatures and certifications; and of the newest certifications of each
-- user ID and attribute the newest that say that it is the primary one, and the newest that let
-- the key expire
abbrev pub limiting : FactsValue → Bool → ℕ → List Statement
limiting f stand at = newest (any Direct) at f.statements
    ++ (newest (kept stand (any Certifications)) at f.statements
    ++ (newest_current (kept stand (any Main)) at f.statements
    ++ newest_current (kept stand (any Expiring)) at f.statements))

-- of a subkey: the newest bindings
abbrev pub limiters : FactsValue → Key → ℕ → List Statement
limiters f key.Primary at = limiting f (must_stand f at) at
limiters f (key.Subkey n created) at = newest (any (Bindings n)) at f.statements

-- who is heard
abbrev pub heard : FactsValue → Key → ℕ → List Statement
heard f k at = speakers f k at ++ limiters f k at

abbrev pub created_of : FactsValue → Key → ℕ
created_of f key.Primary = f.created
created_of f (key.Subkey n created) = created

abbrev pub is_subkey : Key → Bool
is_subkey key.Primary = false
is_subkey (key.Subkey n created) = true

-- ---- what they say at a time
abbrev pub has_ended : ℕ → Option ℕ → Bool
has_ended at None = false
has_ended at (Some end) = nat_le end at

abbrev pub is_unbound_at : FactsValue → Key → ℕ → Bool
is_unbound_at f k at =
    not (is_nonempty (speakers f key.Primary at)) || not (is_nonempty (speakers f k at))

-- by the first that lets the key end, or its primary key (5.2.3.13)
abbrev pub is_expired_at : FactsValue → Key → ℕ → Bool
is_expired_at f k at = has_ended at (end_in f.created (heard f key.Primary at))
    || has_ended at (end_in (created_of f k) (heard f k at))

-- none that speaks for it has key flags, or not all that have some let it sign (5.2.3.29)
abbrev pub may_not_sign_at : FactsValue → Key → ℕ → Bool
may_not_sign_at f k at = not (list_any (λ s. s.has_flags) (speakers f k at))
    || not (uses_in (heard f k at)).sign

-- a binding without a good signature by the subkey that counts (5.2.1.9)
abbrev pub is_unbacked_at : FactsValue → Key → ℕ → Bool
is_unbacked_at f k at = is_subkey k && not (list_all (has_back at) (heard f k at))

-- ---- the rule
-- each reason why the key isn't believed, for a signature that was made then and is read now
abbrev pub applies : FactsValue → Key → ℕ → ℕ → Why → Bool
applies f k made now Future = nat_lt now made
applies f k made now Revoked = is_revoked f k
applies f k made now Early = nat_lt made f.created || nat_lt made (created_of f k)
applies f k made now Unbound = is_unbound_at f k made || is_unbound_at f k now
applies f k made now Expired = is_expired_at f k made || is_expired_at f k now
applies f k made now Flags = may_not_sign_at f k made || may_not_sign_at f k now
applies f k made now Back = is_unbacked_at f k made || is_unbacked_at f k now

-- the first that applies, if one does
abbrev pub standing_of : FactsValue → Key → ℕ → ℕ → Option Why
standing_of f k made now = find (applies f k made now)
    (Future ∷ Revoked ∷ Early ∷ Unbound ∷ Expired ∷ Flags ∷ Back ∷ [])
