use Rattle.std.proofs.Common.{[], codes}
use Rattle.opgp_words.specs.Program.{values_rule}
use Rattle.opgp_words.proofs.Adding.{behind}
use Rattle.opgp_words.proofs.command.list_command.Goals as goal

pub returns : goal.returns
returns c = behind c.new_command-command.result c.with_option.result (codes "list") [] _ values_rule
    c.flag_option.ensures.rule c.new_command-command.ensures c.with_option.ensures
