use Rattle.std.proofs.Common.{rules, refl, ◌≡◌, ◌&&◌, Bool, true, false, not, Ok}
use Rattle.std.proofs.lemmas.Result.{IfOk-weaker}
use Rattle.opgp_words.proofs.command.with_command.Goals as goal

-- a plain command has no global options, by the third of `has_plain_fields`
local : (a b globals rest : Bool) → (a && (b && (not globals && rest))) ≡ true → globals ≡ false
local a b false rest holds = refl
local true true true rest holds = cc
local true false true rest holds = cc
local false b true rest holds = cc

pub returns : goal.returns
returns c =
    let made : c.args.command ≡ Ok c.in_ok-command.field-0 = search rules in
    let added = c.subcommand.ensures in
    rw made (IfOk-weaker c.subcommand.result _ _
    (λ r adds plain. adds.shape (local _ _ _ _ plain)) added)
