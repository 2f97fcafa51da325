use Rattle.std.proofs.Common.{◌≡◌, ◌∙◌, List, ℕ, Option, [], ap, codes, subst}
use Rattle.std.specs.Prelude.{IfNone, IfOk, IfSome}
use Rattle.std.specs.List.{AllZip}
use Rattle.std.specs.Option.{unwrap_or}
use Rattle.clap.specs.Words.{Text, found_of, rows_of}
use Rattle.clap.proofs.WalkLemmas.{raw_values-rows}
use Rattle.opgp_tool.specs.Words.{IsNumber, texts_of}
use Rattle.opgp_tool.proofs.Texts.{texts_in}
use Rattle.opgp_tool.proofs.write.user_ids_of.Goals as goal

pub returns-in-Some-clause-some : goal.returns-in-Some-clause-some
returns-in-Some-clause-some c =
    let same : texts_in c.in-Some.texts.now ≡ texts_of (codes "user-id") (rows_of (found_of c.args.matches.now)) = ap (λ (o : Option (List Text)). unwrap_or o []) (c.in-Some.ensures ∙ raw_values-rows (found_of c.args.matches.now) (codes "user-id")) in
    subst (λ (texts : List Text). IfOk c.numbers_of.result (λ found. IfSome found (λ v. AllZip IsNumber texts v.items))) same c.numbers_of.ensures.some

pub returns-in-Some-clause-none : goal.returns-in-Some-clause-none
returns-in-Some-clause-none c =
    let same : texts_in c.in-Some.texts.now ≡ texts_of (codes "user-id") (rows_of (found_of c.args.matches.now)) = ap (λ (o : Option (List Text)). unwrap_or o []) (c.in-Some.ensures ∙ raw_values-rows (found_of c.args.matches.now) (codes "user-id")) in
    subst (λ (texts : List Text). IfOk c.numbers_of.result (λ found. IfNone found ((v : List ℕ) → AllZip IsNumber texts v → ⊥))) same c.numbers_of.ensures.none

pub returns-in-None-clause-some : goal.returns-in-None-clause-some
returns-in-None-clause-some c =
    let same : [] ≡ texts_of (codes "user-id") (rows_of (found_of c.args.matches.now)) = ap (λ (o : Option (List Text)). unwrap_or o []) (c.in-None.ensures ∙ raw_values-rows (found_of c.args.matches.now) (codes "user-id")) in
    subst (λ (texts : List Text). AllZip IsNumber texts c.new.result.items) same (rw c.new.ensures.items tt)
