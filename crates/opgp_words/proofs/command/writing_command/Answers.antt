use Rattle.std.proofs.Common.{[]}
use Rattle.std.proofs.lemmas.Result.{IfOk-weaker}
use Rattle.opgp_words.specs.Program.{out_rule}
use Rattle.opgp_words.proofs.Adding.{behind}
use Rattle.opgp_words.proofs.command.writing_command.Goals as goal

pub returns : goal.returns
returns c =
    let outs = c.out_option.ensures.rule in
    IfOk-weaker c.with_option.result _ _ (λ r is. (outs.0, outs.1, is))
    (behind c.new_command.result c.with_option.result c.args.name.now [] _ (out_rule outs.0) outs.2
    c.new_command.ensures c.with_option.ensures)
