-- What others certify counts for nothing: which statements are heard at all.
use Rattle.std.proofs.Common.{◌≡◌, ◌∙◌, ℕ, List, [], ◌∷◌, map, Bool, true, false, not, ◌&&◌, ◌||◌, cond, Option, Some, find, refl, sym, ap}
use Rattle.std.specs.List.{filter, list_any}
use Rattle.std.proofs.lemmas.Bool.{and_left, and_right, or_parts, true≢false}
use Rattle.opgp_octets.specs.declared.signature_type.SignatureType.{SignatureType}
use Rattle.opgp_octets.specs.declared.signature_type.SignatureType.TheVariants as types
use Rattle.opgp_valid.specs.Group.{certifies, is_certification_on, is_in, is_primary, is_the, speaks}
use Rattle.opgp_valid.specs.Laws.{with_statements}
use Rattle.opgp_valid.specs.Standing.{is_revocation_of, revokes, standing_of}
use Rattle.opgp_valid.specs.State.{identity_of, revokes_certification, revokes_identity, state_of, vouches}
use Rattle.opgp_valid.specs.Statement.{is_alive, is_good}
use Rattle.opgp_valid.specs.Told.{is_revoked_among, is_revoked_by, with_revocations, with_revoked}
use Rattle.opgp_valid.specs.declared.facts.Key.{Key}
use Rattle.opgp_valid.specs.declared.group.Group.{Group}
use Rattle.opgp_valid.specs.declared.state.IdentityState.{IdentityState}
use Rattle.opgp_valid.specs.declared.state.IdentityState.TheVariants as identity
use Rattle.opgp_valid.specs.declared.statement.Statement.{Statement}
use Rattle.opgp_valid.proofs.Parts.{same_found, same_kept}
use Rattle.opgp_valid.proofs.SameVoices.{SpeakAlike, stands_same, state_same}

-- a revocation of a key
abbrev pub revokes_keys : SignatureType → Bool
revokes_keys types.KeyRevocation = true
revokes_keys types.SubkeyRevocation = true
revokes_keys other = false

-- it is by the primary key, or revokes a key
abbrev pub counts : Statement → Bool
counts s = is_primary s.author || revokes_keys s.kind

-- the same count
abbrev pub CountAlike : List Statement → List Statement → Type 0
CountAlike a b = filter counts a ≡ filter counts b

-- ---- what doesn't count passes none of the rule's tests
module _ (s : Statement) (e : counts s ≡ false) where
  not_primary : is_primary s.author ≡ false
  not_primary = (or_parts (is_primary s.author) (revokes_keys s.kind) e).0

  speaks_not : (group : Group) (at : ℕ) → speaks group at s ≡ false
  speaks_not group at =
      and_right (is_in group.sort s) _
      (and_right (not group.must_be_good || is_good s) _
      (and_right (not group.must_stand || not s.is_revoked) _
      (and_right s.is_understood _ (and_left (is_primary s.author) (is_alive at s) not_primary))))

  vouches_not : (n at : ℕ) → vouches n at s ≡ false
  vouches_not n at =
      and_right (certifies s.kind) _
      (and_right (is_the n s.component) _
      (and_right (not s.is_revoked) _
      (and_right (is_good s) _
      (and_right s.is_understood _ (and_left (is_primary s.author) (is_alive at s) not_primary)))))

  revokes_no_identity : (n : ℕ) → revokes_identity n s ≡ false
  revokes_no_identity n = and_right (revokes_certification s.kind) _ (and_right (is_the n s.component) _ not_primary)

  revokes_no_other : (r : Statement) → is_revoked_by r s ≡ false
  revokes_no_other r = and_right (revokes_certification s.kind) _ (and_left (is_primary s.author) _ not_primary)

  revokes_no_key : (k : Key) → revokes k s ≡ false
  revokes_no_key k = by_kind s.kind (or_parts (is_primary s.author) (revokes_keys s.kind) e).1 where
    by_kind : (t : SignatureType) → revokes_keys t ≡ false → is_revocation_of k t s.component ≡ false
    by_kind types.KeyRevocation h = absurd (true≢false h)
    by_kind types.SubkeyRevocation h = absurd (true≢false h)
    by_kind other h = refl

-- ---- the first that passes a test
module _ (p q : Statement → Bool) (h : (s : Statement) → q s ≡ false → p s ≡ false) where
  first_found : (ss : List Statement) → find p (filter q ss) ≡ find p ss
  first_found [] = refl
  first_found (s ∷ ss) = step (q s) refl (first_found ss) where
    step : (t : Bool) → q s ≡ t → find p (filter q ss) ≡ find p ss → find p (cond t (s ∷ filter q ss) (filter q ss)) ≡ cond (p s) (Some s) (find p ss)
    step true e r = ap (λ (o : Option Statement). cond (p s) (Some s) o) r
    step false e r = r ∙ sym (ap (λ (t : Bool). cond t (Some s) (find p ss)) (h s e))

  same_first : (a b : List Statement) → filter q a ≡ filter q b → find p a ≡ find p b
  same_first a b e = sym (first_found a) ∙ ap (find p) e ∙ first_found b

-- ---- the certifications that are revoked
kept_marked : (f : Statement → Statement) → ((s : Statement) → counts (f s) ≡ counts s) → (ss : List Statement) → filter counts (map f ss) ≡ map f (filter counts ss)
kept_marked f same [] = refl
kept_marked f same (s ∷ ss) = ap (λ (t : Bool). cond t (f s ∷ filter counts (map f ss)) (filter counts (map f ss))) (same s) ∙ step (counts s) (kept_marked f same ss) where
  step : (t : Bool) → filter counts (map f ss) ≡ map f (filter counts ss) → cond t (f s ∷ filter counts (map f ss)) (filter counts (map f ss)) ≡ map f (cond t (s ∷ filter counts ss) (filter counts ss))
  step true e = ap (λ (l : List Statement). f s ∷ l) e
  step false e = e

each_same : (f g : Statement → Statement) → ((s : Statement) → f s ≡ g s) → (ss : List Statement) → map f ss ≡ map g ss
each_same f g same [] = refl
each_same f g same (s ∷ ss) = ap (λ (x : Statement). x ∷ map f ss) (same s) ∙ ap (λ (l : List Statement). g s ∷ l) (each_same f g same ss)

-- ---- lists of which the same count
module _ (a b : List Statement) (e : CountAlike a b) where
  mark_same : (s : Statement) → with_revoked (is_revoked_among a s) s ≡ with_revoked (is_revoked_among b s) s
  mark_same s = ap (λ (t : Bool). with_revoked (is_certification_on s && t) s) (same_found (is_revoked_by s) counts (λ r h. revokes_no_other r h s) a b e)

  pub revocations_count : CountAlike (with_revocations a) (with_revocations b)
  revocations_count =
      kept_marked (λ s. with_revoked (is_revoked_among a s) s) (λ s. refl) a
      ∙ each_same (λ s. with_revoked (is_revoked_among a s) s) (λ s. with_revoked (is_revoked_among b s) s) mark_same (filter counts a)
      ∙ ap (map (λ (s : Statement). with_revoked (is_revoked_among b s) s)) e
      ∙ sym (kept_marked (λ s. with_revoked (is_revoked_among b s) s) (λ s. refl) b)

  -- ---- what is judged
  speak_alike : (at : ℕ) → SpeakAlike at a b
  speak_alike at = λ group. same_kept (speaks group at) counts (λ s h. speaks_not s h group at) a b e

  pub standing_counts : (version created : ℕ) (k : Key) (made now : ℕ) → standing_of (with_statements version created a) k made now ≡ standing_of (with_statements version created b) k made now
  standing_counts version created k made now = stands_same version created a b k (same_found (revokes k) counts (λ s h. revokes_no_key s h k) a b e) made now (speak_alike made) (speak_alike now)

  pub state_counts : (version created : ℕ) (k : Key) (at : ℕ) → state_of (with_statements version created a) k at ≡ state_of (with_statements version created b) k at
  state_counts version created k at = state_same version created a b k (same_found (revokes k) counts (λ s h. revokes_no_key s h k) a b e) at (speak_alike at) (same_first (revokes k) counts (λ s h. revokes_no_key s h k) a b e)

  pub identity_counts : (version created n at : ℕ) → identity_of (with_statements version created a) n at ≡ identity_of (with_statements version created b) n at
  identity_counts version created n at =
      ap (λ (t : Bool). state t (list_any (revokes_identity n) a)) (same_found (vouches n at) counts (λ s h. vouches_not s h n at) a b e)
      ∙ ap (λ (t : Bool). state (list_any (vouches n at) b) t) (same_found (revokes_identity n) counts (λ s h. revokes_no_identity s h n) a b e) where
        state : Bool → Bool → IdentityState
        state t u = cond t identity.Certified (cond u identity.Revoked identity.Unbound)
