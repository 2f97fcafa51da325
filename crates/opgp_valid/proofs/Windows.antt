-- A signature that doesn't count at a time says nothing then.
use Rattle.std.proofs.Common.{◌≡◌, ◌++◌, ℕ, List, [], ◌∷◌, Bool, false, not, ◌||◌, cond, ap}
use Rattle.std.specs.List.{filter, list_any}
use Rattle.std.proofs.lemmas.Bool.{and_right}
use Rattle.opgp_valid.specs.Group.{is_in, is_primary, speaks}
use Rattle.opgp_valid.specs.Laws.{with_statements}
use Rattle.opgp_valid.specs.Standing.{revokes, standing_of}
use Rattle.opgp_valid.specs.Statement.{is_alive, is_good}
use Rattle.opgp_valid.specs.declared.facts.Key.{Key}
use Rattle.opgp_valid.specs.declared.group.Group.{Group}
use Rattle.opgp_valid.specs.declared.statement.Statement.{Statement}
use Rattle.opgp_valid.proofs.SameVoices.{stands_same}

-- ---- an item that fails a test
module _ (p : Statement → Bool) (s : Statement) (fails : p s ≡ false) (behind : List Statement) where
  kept_without : (before : List Statement) → filter p (before ++ s ∷ behind) ≡ filter p (before ++ behind)
  kept_without [] = ap (λ (t : Bool). cond t (s ∷ filter p behind) (filter p behind)) fails
  kept_without (x ∷ before) = ap (λ (l : List Statement). cond (p x) (x ∷ l) l) (kept_without before)

  found_without : (before : List Statement) → list_any p (before ++ s ∷ behind) ≡ list_any p (before ++ behind)
  found_without [] = ap (λ (t : Bool). t || list_any p behind) fails
  found_without (x ∷ before) = ap (λ (t : Bool). p x || t) (found_without before)

-- ---- a signature
is_silent : (group : Group) (at : ℕ) (s : Statement) → is_alive at s ≡ false → speaks group at s ≡ false
is_silent group at s e =
    and_right (is_in group.sort s) _
    (and_right (not group.must_be_good || is_good s) _
    (and_right (not group.must_stand || not s.is_revoked) _
    (and_right s.is_understood _ (and_right (is_primary s.author) _ e))))

pub silent_outside : (version created : ℕ) (before behind : List Statement) (s : Statement) (k : Key) (made now : ℕ) → is_alive made s ≡ false → is_alive now s ≡ false → revokes k s ≡ false
    → standing_of (with_statements version created (before ++ s ∷ behind)) k made now ≡ standing_of (with_statements version created (before ++ behind)) k made now
silent_outside version created before behind s k made now then_out now_out unrevoked =
    stands_same version created (before ++ s ∷ behind) (before ++ behind) k
    (found_without (revokes k) s unrevoked behind before) made now
    (λ group. kept_without (speaks group made) s (is_silent group made s then_out) behind before)
    (λ group. kept_without (speaks group now) s (is_silent group now s now_out) behind before)
