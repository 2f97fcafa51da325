use Rattle.std.proofs.Common.{[], codes}
use Rattle.opgp_words.specs.Program.{old_rule}
use Rattle.opgp_words.proofs.Adding.{behind}
use Rattle.opgp_words.proofs.command.diff_command.Goals as goal

pub returns : goal.returns
returns c = behind c.new_command-command.result c.with_option.result (codes "diff") [] _ old_rule
    c.wanted_option.ensures.rule c.new_command-command.ensures c.with_option.ensures
