use Rattle.std.proofs.Common.{[], ◌∷◌, codes}
use Rattle.opgp_words.specs.Program.{fingerprints_rule, places_rule}
use Rattle.opgp_words.proofs.Adding.{behind}
use Rattle.opgp_words.proofs.command.check_command.Goals as goal

pub returns : goal.returns
returns c =
    let prints = behind c.new_command-command.result c.with_option-command.result (codes "check") [] _ fingerprints_rule
    c.flag_option.ensures.rule c.new_command-command.ensures c.with_option-command.ensures in
    behind c.with_option-command.result c.with_option.result (codes "check") (fingerprints_rule ∷ []) _ places_rule
    c.flag_option-2.ensures.rule prints c.with_option.ensures
