use Rattle.std.proofs.Common.{◌≡◌, ◌∙◌, ap, is_some, List, Option, ℕ, rules}
use Rattle.memchr.specs.Find.{first_of, matches}
use Rattle.memchr.proofs.lemmas.ValueLemmas.{FindsNeedle-value}
use Rattle.opgp_tool.specs.Hint.{private_line}
use Rattle.opgp_tool.proofs.advising.has_private.Goals as goal

pub returns : goal.returns
returns c =
    let same : c.as_slice-line.result.now ≡ private_line = search rules in
    c.is_some.ensures
    ∙ ap (λ (at : Option ℕ). is_some at)
    (FindsNeedle-value _ _ c.find.result c.find.ensures
    ∙ ap (λ (needle : List ℕ). first_of (matches c.args.octets.now needle 0)) same)
