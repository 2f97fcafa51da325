use Rattle.std.proofs.Common.{◌≡◌, ◌∙◌, ap, List, ℕ, Option, Some, None, ◌∷◌, drop, length, rules}
use Rattle.std.specs.Prelude.{unwrap_or}
use Rattle.memchr.specs.Find.{first_of, matches}
use Rattle.memchr.proofs.lemmas.ValueLemmas.{FindsNeedle-value}
use Rattle.opgp_tool.specs.Hint.{mark}
use Rattle.opgp_tool.proofs.advising.before_begin.Goals as goal

pub returns-in-Some : goal.returns-in-Some
returns-in-Some c =
    let octets : List ℕ = c.args.octets.now in
    let same : c.as_slice.result.now ≡ 10 ∷ mark = search rules in
    c.rest_at.ensures
    ∙ ap (λ (at : Option ℕ). drop (unwrap_or at (length octets)) octets)
    (FindsNeedle-value _ _ (Some c.in-Some.at) c.in-Some.ensures
    ∙ ap (λ (needle : List ℕ). first_of (matches octets needle 0)) same)

pub returns-in-None : goal.returns-in-None
returns-in-None c =
    let octets : List ℕ = c.args.octets.now in
    let same : c.as_slice.result.now ≡ 10 ∷ mark = search rules in
    c.rest_at-in-None.ensures
    ∙ ap (λ (at : Option ℕ). drop (unwrap_or at (length octets)) octets)
    (FindsNeedle-value _ _ None c.in-None.ensures
    ∙ ap (λ (needle : List ℕ). first_of (matches octets needle 0)) same)
