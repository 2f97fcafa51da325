use Rattle.std.proofs.Common.{[], codes}
use Rattle.opgp_words.specs.Program.{merge_rule}
use Rattle.opgp_words.proofs.Adding.{behind_out}
use Rattle.opgp_words.proofs.command.join_command.Goals as goal

pub returns : goal.returns
returns c = behind_out c.writing_command-command.result c.with_option.result (codes "join") [] _ merge_rule
    c.flag_option.ensures.rule c.writing_command-command.ensures c.with_option.ensures
