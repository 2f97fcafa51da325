use Rattle.std.proofs.Common.{rules, ◌∙◌, ◌∷◌, [], ap, sym}
use Rattle.opgp_valid.specs.Group.{speaks}
use Rattle.opgp_valid.specs.Saying.{merged, saying_of}
use Rattle.opgp_valid.specs.Speaking.{is_same, made_at, made_then, speakers}
use Rattle.opgp_valid.proofs.Sayings.{merged_assoc, picked_in, picked_out, said_before}
use Rattle.opgp_valid.proofs.saying.said_with.Goals as goal

pub returns-then-is_newest : goal.returns-then-is_newest
returns-then-is_newest c more =
    let picked = picked_in (speaks c.args.group c.args.at) (λ s. is_same (made_at s) c.args.last) c.args.statement.now more (search rules) in
    let rest = made_then c.args.last (speakers c.args.group c.args.at more) in
    ap (λ l. merged c.args.said (saying_of c.args.created c.args.at l)) picked
    ∙ ap (merged c.args.said) (said_before c.args.created c.args.at c.args.statement.now rest)
    ∙ sym (merged_assoc c.args.said (saying_of c.args.created c.args.at (c.args.statement.now ∷ [])) (saying_of c.args.created c.args.at rest))
    ∙ search rules

pub returns-else-is_newest : goal.returns-else-is_newest
returns-else-is_newest c more = ap (λ l. merged c.args.said (saying_of c.args.created c.args.at l)) (picked_out (speaks c.args.group c.args.at) (λ s. is_same (made_at s) c.args.last) c.args.statement.now more (search rules))
