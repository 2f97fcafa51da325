-- A state says of a key what a judgement says of it.
use Rattle.std.proofs.Common.{◌≡◌, ◌∙◌, ◌↔◌, ℕ, [], ◌∷◌, Bool, true, false, not, ◌||◌, cond, Option, Some, None, find, refl, ap, arith}
use Rattle.std.specs.List.{list_any}
use Rattle.std.specs.Option.{option_or}
use Rattle.std.proofs.lemmas.Bool.{false≢true, le-ltb, not-false, or_from, or_parts, true≢false}
use Rattle.std.proofs.lemmas.List.Folds.{find-append}
use Rattle.opgp_valid.specs.Facts.{FactsValue}
use Rattle.opgp_valid.specs.Speaking.{uses_in}
use Rattle.opgp_valid.specs.Standing.{applies, heard, is_unbacked_at, may_not_sign_at, speakers, standing_of}
use Rattle.opgp_valid.specs.State.{unusable, uses_at, without_signing}
use Rattle.opgp_valid.specs.Uses.{no_use}
use Rattle.opgp_valid.specs.declared.facts.Key.{Key}
use Rattle.opgp_valid.specs.declared.uses.Uses.{Uses}
use Rattle.opgp_valid.specs.declared.why.Why.{Why}
use Rattle.opgp_valid.specs.declared.why.Why.TheVariants.{Future, Revoked, Early, Unbound, Expired, Flags, Back}
use Rattle.opgp_valid.proofs.Rule.{first_none, none_first}

-- ---- whether it may sign
signs : (unbacked flagged : Bool) (u : Uses) → unbacked ≡ false → (not flagged || not u.sign) ≡ false → (cond unbacked (without_signing (cond flagged u no_use)) (cond flagged u no_use)).sign ≡ true
signs true flagged u e h = absurd (true≢false e)
signs false true u e h = not-false u.sign h
signs false false u e h = absurd (true≢false h)

signs_by : (unbacked flagged : Bool) (u : Uses) → (cond unbacked (without_signing (cond flagged u no_use)) (cond flagged u no_use)).sign ≡ true → (unbacked ≡ false) × ((not flagged || not u.sign) ≡ false)
signs_by true flagged u h = absurd (false≢true h)
signs_by false true u h = (refl, ap not h)
signs_by false false u h = absurd (false≢true h)

module _ (f : FactsValue) (k : Key) (at : ℕ) where
  abbrev flagged : Bool
  flagged = list_any (λ s. s.has_flags) (speakers f k at)

  -- no time is later than itself
  in_time : applies f k at at Future ≡ false
  in_time = le-ltb at at (omega arith)

  usable : standing_of f k at at ≡ None → (unusable f k at ≡ None) × ((uses_at f k at).sign ≡ true)
  usable h =
      let a = first_none (applies f k at at Future) Future _ h in
      let b = first_none (applies f k at at Revoked) Revoked _ a.1 in
      let c = first_none (applies f k at at Early) Early _ b.1 in
      let d = first_none (applies f k at at Unbound) Unbound _ c.1 in
      let e = first_none (applies f k at at Expired) Expired _ d.1 in
      let g = first_none (applies f k at at Flags) Flags _ e.1 in
      let i = first_none (applies f k at at Back) Back None g.1 in
      let m = or_parts (may_not_sign_at f k at) (may_not_sign_at f k at) g.0 in
      let n = or_parts (is_unbacked_at f k at) (is_unbacked_at f k at) i.0 in (
        none_first _ _ _ b.0 (none_first _ _ _ c.0 (none_first _ _ _ d.0 (none_first _ _ _ e.0 refl))),
        signs (is_unbacked_at f k at) flagged (uses_in (heard f k at)) n.0 m.0,
      )

  usable_believed : (unusable f k at ≡ None) × ((uses_at f k at).sign ≡ true) → standing_of f k at at ≡ None
  usable_believed h =
      let b = first_none (applies f k at at Revoked) Revoked _ h.0 in
      let c = first_none (applies f k at at Early) Early _ b.1 in
      let d = first_none (applies f k at at Unbound) Unbound _ c.1 in
      let e = first_none (applies f k at at Expired) Expired None d.1 in
      let s = signs_by (is_unbacked_at f k at) flagged (uses_in (heard f k at)) h.1 in
      none_first _ _ _ in_time
      (none_first _ _ _ b.0
      (none_first _ _ _ c.0
      (none_first _ _ _ d.0
      (none_first _ _ _ e.0
      (none_first _ _ _ (or_from (may_not_sign_at f k at) (may_not_sign_at f k at) s.1 s.1)
      (none_first _ _ _ (or_from (is_unbacked_at f k at) (is_unbacked_at f k at) s.0 s.0) refl))))))

pub believed_is_usable : (f : FactsValue) (k : Key) (at : ℕ) → (standing_of f k at at ≡ None) ↔ ((unusable f k at ≡ None) × ((uses_at f k at).sign ≡ true))
believed_is_usable f k at = (usable f k at, usable_believed f k at)

-- the first reason of a state is the first of a judgement
pub same_reason : (f : FactsValue) (k : Key) (at : ℕ) (why : Why) → unusable f k at ≡ Some why → standing_of f k at at ≡ Some why
same_reason f k at why e =
    ap (λ (t : Bool). cond t (Some Future) (find (applies f k at at) (Revoked ∷ Early ∷ Unbound ∷ Expired ∷ Flags ∷ Back ∷ []))) (in_time f k at)
    ∙ find-append (applies f k at at) (Revoked ∷ Early ∷ Unbound ∷ Expired ∷ []) (Flags ∷ Back ∷ [])
    ∙ ap (λ (o : Option Why). option_or o (find (applies f k at at) (Flags ∷ Back ∷ []))) e
