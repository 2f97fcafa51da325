use Rattle.std.proofs.Common.{◌∙◌, ℕ, Bool, not, cond, ap}
use Rattle.opgp_valid.specs.Cause.{only_now, unbound_at, unbound_key}
use Rattle.opgp_valid.specs.Facts.{FactsValue, facts_value}
use Rattle.opgp_valid.specs.declared.facts.Key.{Key}
use Rattle.opgp_valid.proofs.cause.unbound.Goals as goal

pub returns : goal.returns
unfolding only_now
returns c =
    let f : FactsValue = facts_value c.args.facts in
    let k : Key = c.args.key in
    let now : Bool = not c.key_at-moment.result.is_unbound in
    c.unbound_at.ensures
    ∙ ap (λ (q : Key). unbound_at f q now c.which_time-at.result) c.unbound_key-which.ensures
    ∙ ap (λ (t : ℕ). unbound_at f (unbound_key f k t) now t) c.which_time-at.ensures
    ∙ ap (λ (b : Bool). unbound_at f (unbound_key f k (cond b c.args.now c.args.made)) b (cond b c.args.now c.args.made)) (ap not c.key_at-moment.ensures.unbound)
