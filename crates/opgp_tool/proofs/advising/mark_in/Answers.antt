use Rattle.std.proofs.Common.{◌≡◌, ◌∙◌, ap, List, ℕ, rules}
use Rattle.memchr.specs.Find.{first_of, matches}
use Rattle.memchr.proofs.lemmas.ValueLemmas.{FindsNeedle-value}
use Rattle.opgp_tool.specs.Hint.{mark}
use Rattle.opgp_tool.proofs.advising.mark_in.Goals as goal

pub returns : goal.returns
returns c =
    let same : c.as_slice.result.now ≡ mark = search rules in
    FindsNeedle-value _ _ _ c.find.ensures
    ∙ ap (λ (needle : List ℕ). first_of (matches c.args.octets.now needle 0)) same
