-- Where a signature hangs on its component changes nothing of how parts stand.
use Rattle.std.proofs.Common.{◌≡◌, ◌∙◌, ℕ, Bool, true, false, not, ◌&&◌, ◌||◌, List, [], ◌∷◌, map, Option, Some, refl, sym, ap, if◌then◌else◌}
use Rattle.std.specs.List.{filter, find, list_any}
use Rattle.std.specs.Option.{option_and_then}
use Rattle.opgp_octets.specs.declared.signature_type.SignatureType.{SignatureType}
use Rattle.opgp_valid.specs.Facts.{FactsValue}
use Rattle.opgp_valid.specs.Group.{is_primary}
use Rattle.opgp_valid.specs.Laws.{with_statements}
use Rattle.opgp_valid.specs.Speaking.{latest}
use Rattle.opgp_valid.specs.Standing.{revokes}
use Rattle.opgp_valid.specs.State.{identity_of, reason_of, revokes_identity, state_of, vouches}
use Rattle.opgp_valid.specs.Statement.{is_alive, is_good}
use Rattle.opgp_valid.specs.Told.{with_revocations}
use Rattle.opgp_valid.specs.declared.facts.Key.{Key}
use Rattle.opgp_valid.specs.declared.facts.Key.TheVariants as key
use Rattle.opgp_valid.specs.declared.state.IdentityState.{IdentityState}
use Rattle.opgp_valid.specs.declared.state.IdentityState.TheVariants as identity
use Rattle.opgp_valid.specs.declared.state.KeyState.{KeyState}
use Rattle.opgp_valid.specs.declared.statement.Statement.{Statement}
use Rattle.opgp_valid.proofs.Renumbered.{any_map}
use Rattle.opgp_bound.specs.Before.{without_reason}
use Rattle.opgp_bound.specs.Newest.{is_rival, newest_made}
use Rattle.opgp_bound.proofs.Fitting.{counts_at}
use Rattle.opgp_bound.proofs.Heard.{CountMoved, kept_map, revocations_moved, same_number, state_same}
use Rattle.opgp_bound.proofs.Listed.{unhung}
use Rattle.opgp_bound.proofs.Placed.{at, moved}

-- ---- statements that hang elsewhere
moved_is : (ss : List Statement) → map (moved (λ n. n)) ss ≡ map unhung ss
moved_is [] = refl
moved_is (s ∷ ss) =
    ap (λ (o : Option ℕ). at o 0 s ∷ map (moved (λ n. n)) ss) (same_number s.component)
    ∙ ap (λ (l : List Statement). unhung s ∷ l) (moved_is ss)

pub unhung_again : (ss : List Statement) → map unhung (map unhung ss) ≡ map unhung ss
unhung_again [] = refl
unhung_again (s ∷ ss) = ap (λ (l : List Statement). unhung s ∷ l) (unhung_again ss)

-- the same are revoked
pub revocations_unhung : (ss : List Statement) → map unhung (with_revocations ss) ≡ with_revocations (map unhung ss)
revocations_unhung ss = sym (moved_is (with_revocations ss)) ∙ revocations_moved (λ n. n) (λ i j e. e) ss ∙ ap with_revocations (moved_is ss)

-- the newest of each sort were made at the same time
latest_unhung : (ss : List Statement) → latest (map unhung ss) ≡ latest ss
latest_unhung [] = refl
latest_unhung (s ∷ ss) = rw (latest_unhung ss) refl

pub newest_unhung : (time : ℕ) (ss : List Statement) (o : Option ℕ) (t : SignatureType) → newest_made time (map unhung ss) o t ≡ newest_made time ss o t
newest_unhung time ss o t =
    ap latest (kept_map unhung (is_rival time o t) (is_rival time o t) (λ s. refl) ss)
    ∙ latest_unhung (filter (is_rival time o t) ss)

-- ---- how parts stand
module _ (ss : List Statement) where
  count_same : CountMoved (λ n. n) (λ i j e. e) (map unhung ss) ss
  count_same sort old must stand time fits =
      let test : Statement → Bool = counts_at sort must stand time in
      let hung : (s : Statement) → test (moved (λ n. n) s) ≡ test s =
      λ s. ap (λ (t : Bool). t && ((not must || is_good s) && ((not stand || not s.is_revoked) && (s.is_understood && (is_primary s.author && is_alive time s))))) (fits.hung s) in
      let counted : (s : Statement) → test (moved (λ n. n) s) ≡ counts_at old must stand time s =
      λ s. ap (λ (t : Bool). t && ((not must || is_good s) && ((not stand || not s.is_revoked) && (s.is_understood && (is_primary s.author && is_alive time s))))) (fits.counted s) in
      sym (kept_map (moved (λ n. n)) test test hung (map unhung ss))
      ∙ ap (filter test) (moved_is (map unhung ss) ∙ unhung_again ss ∙ sym (moved_is ss))
      ∙ kept_map (moved (λ n. n)) test (counts_at old must stand time) counted ss

  module _ (version created : ℕ) where
    abbrev facts_a : FactsValue
    facts_a = with_statements version created (map unhung ss)

    abbrev facts_b : FactsValue
    facts_b = with_statements version created ss

    -- but for the reason of a revocation
    nearly_same : (k : Key) (time : ℕ) → without_reason (state_of facts_a k time) ≡ without_reason (state_of facts_b k time)
    nearly_same key.Primary time =
        state_same (λ n. n) (λ i j e. e) (map unhung ss) ss count_same version created key.Primary (any_map unhung (revokes key.Primary) (revokes key.Primary) (λ s. refl) ss) time
    nearly_same (key.Subkey n begin) time =
        state_same (λ n. n) (λ i j e. e) (map unhung ss) ss count_same version created (key.Subkey n begin) (any_map unhung (revokes (key.Subkey n begin)) (revokes (key.Subkey n begin)) (λ s. refl) ss) time

    reason_same : (k : Key) → reason_of facts_a k ≡ reason_of facts_b k
    reason_same k = first ss where
      first : (l : List Statement) → option_and_then (λ (s : Statement). s.reason) (find (revokes k) (map unhung l)) ≡ option_and_then (λ (s : Statement). s.reason) (find (revokes k) l)
      first [] = refl
      first (s ∷ l) = go (revokes k s) (first l) where
        go : (t : Bool) → option_and_then (λ (r : Statement). r.reason) (find (revokes k) (map unhung l)) ≡ option_and_then (λ (r : Statement). r.reason) (find (revokes k) l)
            → option_and_then (λ (r : Statement). r.reason) (if t then Some (unhung s) else find (revokes k) (map unhung l)) ≡ option_and_then (λ (r : Statement). r.reason) (if t then Some s else find (revokes k) l)
        go true e = refl
        go false e = e

    abbrev with_reason : KeyState → Option ℕ → KeyState
    with_reason state code = record state { reason = code }

    pub state_unhung : (k : Key) (time : ℕ) → state_of facts_a k time ≡ state_of facts_b k time
    state_unhung k time =
        ap (λ (state : KeyState). with_reason state (reason_of facts_a k)) (nearly_same k time)
        ∙ ap (λ (code : Option ℕ). with_reason (without_reason (state_of facts_b k time)) code) (reason_same k)

    abbrev identity_by : Bool → Bool → IdentityState
    identity_by t u = if t then identity.Certified else (if u then identity.Revoked else identity.Unbound)

    pub identity_unhung : (n time : ℕ) → identity_of facts_a n time ≡ identity_of facts_b n time
    identity_unhung n time =
        ap (λ (t : Bool). identity_by t (list_any (revokes_identity n) (map unhung ss))) (any_map unhung (vouches n time) (vouches n time) (λ s. refl) ss)
        ∙ ap (λ (t : Bool). identity_by (list_any (vouches n time) ss) t) (any_map unhung (revokes_identity n) (revokes_identity n) (λ s. refl) ss)
