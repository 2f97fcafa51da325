use Rattle.std.proofs.Common.{[], codes}
use Rattle.std.proofs.lemmas.Result.{IfOk-weaker}
use Rattle.opgp_words.specs.Program.{part_rule}
use Rattle.opgp_words.proofs.Adding.{behind}
use Rattle.opgp_words.proofs.command.cleartext_command.Goals as goal

pub returns : goal.returns
returns c =
    let parts = c.part_option.ensures.rule in
    IfOk-weaker c.with_option.result _ _ (λ r is. (parts.0, parts.1, is))
    (behind c.new_command-command.result c.with_option.result (codes "cleartext") [] _ (part_rule parts.0) parts.2
    c.new_command-command.ensures c.with_option.ensures)
