-- How the parts of a certificate stand at a time.
use Rattle.std.specs.Prelude.{ℕ, max, Bool, true, false, not, ◌&&◌, if◌then◌else◌}
use Rattle.std.specs.Prelude.{List, [], ◌∷◌, Option, find}
use Rattle.std.specs.List.{list_any}
use Rattle.std.specs.Option.{option_and_then, option_map}
use Rattle.opgp_octets.specs.declared.signature_type.SignatureType.{SignatureType}
use Rattle.opgp_octets.specs.declared.signature_type.SignatureType.TheVariants as types
use Rattle.opgp_valid.specs.Cause.{revokes_primary, spot_of}
use Rattle.opgp_valid.specs.Facts.{FactsValue}
use Rattle.opgp_valid.specs.Group.{certifies, is_primary, is_the}
use Rattle.opgp_valid.specs.Speaking.{end_in, made_at, sooner, uses_in}
use Rattle.opgp_valid.specs.Standing.{applies, created_of, heard, is_subkey, is_unbacked_at}
use Rattle.opgp_valid.specs.Standing.{revokes, speakers}
use Rattle.opgp_valid.specs.Statement.{is_alive, is_good}
use Rattle.opgp_valid.specs.Uses.{no_use}
use Rattle.opgp_valid.specs.declared.facts.Key.{Key}
use Rattle.opgp_valid.specs.declared.facts.Key.TheVariants as key
use Rattle.opgp_valid.specs.declared.saying.Saying.{Saying}
use Rattle.opgp_valid.specs.declared.state.IdentityState.{IdentityState}
use Rattle.opgp_valid.specs.declared.state.IdentityState.TheVariants as identity
use Rattle.opgp_valid.specs.declared.state.KeyState.{KeyState}
use Rattle.opgp_valid.specs.declared.state.Revocation.{Revocation}
use Rattle.opgp_valid.specs.declared.statement.Statement.{Statement}
use Rattle.opgp_valid.specs.declared.uses.Uses.{Uses}
use Rattle.opgp_valid.specs.declared.why.Why.{Why}
use Rattle.opgp_valid.specs.declared.why.Why.TheVariants.{Revoked, Early, Unbound, Expired}

-- ---- keys
-- why it is of no use at all, if it isn't
abbrev pub unusable : FactsValue → Key → ℕ → Option Why
unusable f k at = find (applies f k at at) (Revoked ∷ Early ∷ Unbound ∷ Expired ∷ [])

-- what all that is heard for it lets it be used for (RFC 9580, 5.2.3.29); nothing if none that
-- speaks for it has key flags
abbrev pub uses_heard : FactsValue → Key → ℕ → Uses
uses_heard f k at = if list_any (λ s. s.has_flags) (speakers f k at) then uses_in (heard f k at)
    else no_use

-- a subkey that doesn't sign back neither signs nor certifies (5.2.1.9)
abbrev pub without_signing : Uses → Uses
without_signing u = record {
  certify = false;
  sign = false;
  encrypt = u.encrypt;
  authenticate = u.authenticate;
}

-- the same of what is said
abbrev pub uses_by : Saying → Key → Uses
uses_by own k = if is_subkey k && not own.is_backed
    then without_signing (if own.has_flags then own.uses else no_use)
    else (if own.has_flags then own.uses else no_use)

abbrev pub uses_at : FactsValue → Key → ℕ → Uses
uses_at f k at = if is_unbacked_at f k at then without_signing (uses_heard f k at)
    else uses_heard f k at

-- when it ends, or its primary key does, if one does (5.2.3.13)
abbrev pub end_at : FactsValue → Key → ℕ → Option ℕ
end_at f k at = sooner (end_in f.created (heard f key.Primary at))
    (end_in (created_of f k) (heard f k at))

-- the first of these that revokes a key
abbrev pub revocation_in : Statement → Revocation
revocation_in s = record {
  reason = s.reason;
  is_of_primary = revokes_primary s.kind;
  made = made_at s;
  spot = spot_of s;
}

abbrev pub first_revocation : Key → List Statement → Option Revocation
first_revocation k ss = option_map revocation_in (find (revokes k) ss)

-- the code of the reason of the first revocation (5.2.3.31)
abbrev pub reason_of : FactsValue → Key → Option ℕ
reason_of f k = option_and_then (λ s. s.reason) (find (revokes k) f.statements)

abbrev pub state_of : FactsValue → Key → ℕ → KeyState
state_of f k at = record {
  why = unusable f k at;
  uses = uses_at f k at;
  begin = max f.created (created_of f k);
  end = end_at f k at;
  reason = reason_of f k;
}

-- ---- user IDs and user attributes
abbrev pub revokes_certification : SignatureType → Bool
revokes_certification types.CertificationRevocation = true
revokes_certification other = false

-- a revocation of the certification of this component, by the primary key (5.2.1.13)
abbrev pub revokes_identity : ℕ → Statement → Bool
revokes_identity n s =
    revokes_certification s.kind && (is_the n s.component && is_primary s.author)

-- a good certification of it by the primary key that counts at a time, and isn't revoked
abbrev pub vouches : ℕ → ℕ → Statement → Bool
vouches n at s = certifies s.kind && (is_the n s.component && (not s.is_revoked
    && (is_good s && (s.is_understood && (is_primary s.author && is_alive at s)))))

-- where nothing vouches for it, it is revoked if a revocation is there, whenever that was made
abbrev pub identity_of : FactsValue → ℕ → ℕ → IdentityState
identity_of f n at = if list_any (vouches n at) f.statements then identity.Certified
    else (if list_any (revokes_identity n) f.statements then identity.Revoked
    else identity.Unbound)
