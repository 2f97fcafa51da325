-- What is judged of a key rests on what speaks at a time, and on what revokes the key.
use Rattle.std.proofs.Common.{◌≡◌, ◌∙◌, ◌++◌, ℕ, max, ◌==◌, nat_lt, List, [], ◌∷◌, Bool, true, not, ◌&&◌, ◌||◌, cond, Option, Some, None, find, refl, ap}
use Rattle.std.specs.List.{filter, list_all, list_any}
use Rattle.std.specs.Option.{option_and_then}
use Rattle.std.proofs.lemmas.List.Elements.{filter_agree}
use Rattle.opgp_valid.specs.Facts.{FactsValue}
use Rattle.opgp_valid.specs.Group.{any, good, kept, on_component, speaks}
use Rattle.opgp_valid.specs.Laws.{with_statements}
use Rattle.opgp_valid.specs.Saying.{is_nonempty}
use Rattle.opgp_valid.specs.Speaking.{current, end_in, is_current, is_same, latest, latest_on, made_at, made_then, newest, newest_current, sooner, uses_in}
use Rattle.opgp_valid.specs.Speaking as speaking
use Rattle.opgp_valid.specs.Standing.{applies, created_of, has_ended, heard, is_expired_at, is_subkey, is_unbacked_at, is_unbound_at, limiters, limiting, may_not_sign_at, must_stand, revokes, speakers, spoken, standing_of}
use Rattle.opgp_valid.specs.State.{end_at, reason_of, state_of, unusable, uses_at, uses_heard, without_signing}
use Rattle.opgp_valid.specs.Statement.{has_back}
use Rattle.opgp_valid.specs.Uses.{no_use}
use Rattle.opgp_valid.specs.declared.facts.Key.{Key}
use Rattle.opgp_valid.specs.declared.facts.Key.TheVariants as key
use Rattle.opgp_valid.specs.declared.group.Group.{Group}
use Rattle.opgp_valid.specs.declared.group.Sort.TheVariants.{Direct, UserIds, Certifications, Main, Expiring, Bindings}
use Rattle.opgp_valid.specs.declared.state.KeyState.{KeyState}
use Rattle.opgp_valid.specs.declared.statement.Statement.{Statement}
use Rattle.opgp_valid.specs.declared.uses.Uses.{Uses}
use Rattle.opgp_valid.specs.declared.why.Why.{Why}
use Rattle.opgp_valid.specs.declared.why.Why.TheVariants.{Future, Revoked, Early, Unbound, Expired, Flags, Back}
use Rattle.opgp_valid.proofs.Alike.{find_agree, or_same}

-- the same of each group speak at a time
abbrev pub SpeakAlike : ℕ → List Statement → List Statement → Type 0
SpeakAlike at a b = (group : Group) → filter (speaks group at) a ≡ filter (speaks group at) b

joined : (a b c d : List Statement) → a ≡ b → c ≡ d → a ++ c ≡ b ++ d
joined a b c d e h = rw (e, h) refl

module _ (at : ℕ) (a b : List Statement) (same : SpeakAlike at a b) where
  newest_same : (group : Group) → newest group at a ≡ newest group at b
  newest_same group = ap (λ (l : List Statement). made_then (latest l) l) (same group)

  latest_on_same : (group : Group) (o : Option ℕ) → latest_on group at a o ≡ latest_on group at b o
  latest_on_same group None = refl
  latest_on_same group (Some n) = ap latest (same (on_component n group))

  current_same : (group : Group) → current group at a ≡ current group at b
  current_same group =
      filter_agree (is_current group at a) (is_current group at b) (λ s. ap (is_same (made_at s)) (latest_on_same group s.component)) (speaking.speakers group at a)
      ∙ ap (filter (is_current group at b)) (same group)

  newest_current_same : (group : Group) → newest_current group at a ≡ newest_current group at b
  newest_current_same group = ap (λ (l : List Statement). made_then (latest l) l) (current_same group)

  module _ (version created : ℕ) where
    abbrev facts_a : FactsValue
    facts_a = with_statements version created a

    abbrev facts_b : FactsValue
    facts_b = with_statements version created b

    spoken_same : (stand : Bool) → spoken facts_a stand at ≡ spoken facts_b stand at
    spoken_same stand = joined _ _ _ _ (newest_same (good Direct)) (ap (λ (l : List Statement). cond (version == 4) l []) (newest_same (kept stand (good UserIds))))

    must_same : must_stand facts_a at ≡ must_stand facts_b at
    must_same = ap is_nonempty (spoken_same true)

    speakers_same : (k : Key) → speakers facts_a k at ≡ speakers facts_b k at
    speakers_same key.Primary = ap (λ (t : Bool). spoken facts_a t at) must_same ∙ spoken_same (must_stand facts_b at)
    speakers_same (key.Subkey n begin) = newest_same (good (Bindings n))

    limiting_same : (stand : Bool) → limiting facts_a stand at ≡ limiting facts_b stand at
    limiting_same stand =
        joined _ _ _ _ (newest_same (any Direct))
        (joined _ _ _ _ (newest_same (kept stand (any Certifications)))
        (joined _ _ _ _ (newest_current_same (kept stand (any Main))) (newest_current_same (kept stand (any Expiring)))))

    limiters_same : (k : Key) → limiters facts_a k at ≡ limiters facts_b k at
    limiters_same key.Primary = ap (λ (t : Bool). limiting facts_a t at) must_same ∙ limiting_same (must_stand facts_b at)
    limiters_same (key.Subkey n begin) = newest_same (any (Bindings n))

    heard_same : (k : Key) → heard facts_a k at ≡ heard facts_b k at
    heard_same k = joined _ _ _ _ (speakers_same k) (limiters_same k)

    created_same : (k : Key) → created_of facts_a k ≡ created_of facts_b k
    created_same key.Primary = refl
    created_same (key.Subkey n begin) = refl

    -- ---- what is judged at the time
    module _ (k : Key) where
      unbound_same : is_unbound_at facts_a k at ≡ is_unbound_at facts_b k at
      unbound_same = or_same _ _ _ _ (ap (λ (l : List Statement). not (is_nonempty l)) (speakers_same key.Primary)) (ap (λ (l : List Statement). not (is_nonempty l)) (speakers_same k))

      expired_same : is_expired_at facts_a k at ≡ is_expired_at facts_b k at
      expired_same = or_same _ _ _ _
          (ap (λ (l : List Statement). has_ended at (end_in created l)) (heard_same key.Primary))
          (ap (λ (n : ℕ). has_ended at (end_in n (heard facts_a k at))) (created_same k) ∙ ap (λ (l : List Statement). has_ended at (end_in (created_of facts_b k) l)) (heard_same k))

      flags_same : may_not_sign_at facts_a k at ≡ may_not_sign_at facts_b k at
      flags_same = or_same _ _ _ _ (ap (λ (l : List Statement). not (list_any (λ s. s.has_flags) l)) (speakers_same k)) (ap (λ (l : List Statement). not (uses_in l).sign) (heard_same k))

      unbacked_same : is_unbacked_at facts_a k at ≡ is_unbacked_at facts_b k at
      unbacked_same = ap (λ (l : List Statement). is_subkey k && not (list_all (has_back at) l)) (heard_same k)

      uses_heard_same : uses_heard facts_a k at ≡ uses_heard facts_b k at
      uses_heard_same =
          ap (λ (l : List Statement). cond (list_any (λ s. s.has_flags) l) (uses_in (heard facts_a k at)) no_use) (speakers_same k)
          ∙ ap (λ (l : List Statement). cond (list_any (λ s. s.has_flags) (speakers facts_b k at)) (uses_in l) no_use) (heard_same k)

      uses_same : uses_at facts_a k at ≡ uses_at facts_b k at
      uses_same =
          ap (λ (t : Bool). cond t (without_signing (uses_heard facts_a k at)) (uses_heard facts_a k at)) unbacked_same
          ∙ ap (λ (u : Uses). cond (is_unbacked_at facts_b k at) (without_signing u) u) uses_heard_same

      end_same : end_at facts_a k at ≡ end_at facts_b k at
      end_same =
          ap (λ (l : List Statement). sooner (end_in created l) (end_in (created_of facts_a k) (heard facts_a k at))) (heard_same key.Primary)
          ∙ ap (λ (n : ℕ). sooner (end_in created (heard facts_b key.Primary at)) (end_in n (heard facts_a k at))) (created_same k)
          ∙ ap (λ (l : List Statement). sooner (end_in created (heard facts_b key.Primary at)) (end_in (created_of facts_b k) l)) (heard_same k)

-- ---- what is judged
module _ (version created : ℕ) (a b : List Statement) (k : Key) (revoked : list_any (revokes k) a ≡ list_any (revokes k) b) where
  module _ (made now : ℕ) (then_same : SpeakAlike made a b) (now_same : SpeakAlike now a b) where
    applies_same : (why : Why) → applies (with_statements version created a) k made now why ≡ applies (with_statements version created b) k made now why
    applies_same Future = refl
    applies_same Revoked = revoked
    applies_same Early = ap (λ (n : ℕ). nat_lt made created || nat_lt made n) (created_same made a b then_same version created k)
    applies_same Unbound = or_same _ _ _ _ (unbound_same made a b then_same version created k) (unbound_same now a b now_same version created k)
    applies_same Expired = or_same _ _ _ _ (expired_same made a b then_same version created k) (expired_same now a b now_same version created k)
    applies_same Flags = or_same _ _ _ _ (flags_same made a b then_same version created k) (flags_same now a b now_same version created k)
    applies_same Back = or_same _ _ _ _ (unbacked_same made a b then_same version created k) (unbacked_same now a b now_same version created k)

    pub stands_same : standing_of (with_statements version created a) k made now ≡ standing_of (with_statements version created b) k made now
    stands_same = find_agree (applies (with_statements version created a) k made now) (applies (with_statements version created b) k made now) applies_same (Future ∷ Revoked ∷ Early ∷ Unbound ∷ Expired ∷ Flags ∷ Back ∷ [])

  abbrev state_by : Option Why → Uses → ℕ → Option ℕ → Option ℕ → KeyState
  state_by why uses begin end reason = record { why = why; uses = uses; begin = begin; end = end; reason = reason }

  pub state_same : (at : ℕ) → SpeakAlike at a b → find (revokes k) a ≡ find (revokes k) b → state_of (with_statements version created a) k at ≡ state_of (with_statements version created b) k at
  state_same at same found =
      let f : FactsValue = with_statements version created a in
      let g : FactsValue = with_statements version created b in
      ap (λ (x : Option Why). state_by x (uses_at f k at) (max created (created_of f k)) (end_at f k at) (reason_of f k))
      (find_agree (applies f k at at) (applies g k at at) (applies_same at at same same) (Revoked ∷ Early ∷ Unbound ∷ Expired ∷ []))
      ∙ ap (λ (x : Uses). state_by (unusable g k at) x (max created (created_of f k)) (end_at f k at) (reason_of f k)) (uses_same at a b same version created k)
      ∙ ap (λ (x : ℕ). state_by (unusable g k at) (uses_at g k at) (max created x) (end_at f k at) (reason_of f k)) (created_same at a b same version created k)
      ∙ ap (λ (x : Option ℕ). state_by (unusable g k at) (uses_at g k at) (max created (created_of g k)) x (reason_of f k)) (end_same at a b same version created k)
      ∙ ap (λ (x : Option Statement). state_by (unusable g k at) (uses_at g k at) (max created (created_of g k)) (end_at g k at) (option_and_then (λ s. s.reason) x)) found
