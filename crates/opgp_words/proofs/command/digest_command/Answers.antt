use Rattle.std.proofs.Common.{[], ◌∷◌, codes}
use Rattle.opgp_words.specs.Program.{salt_rule, signature_rule, signatures_rule}
use Rattle.opgp_words.proofs.Adding.{behind}
use Rattle.opgp_words.proofs.command.digest_command.Goals as goal

pub returns : goal.returns
returns c =
    let file = behind c.new_command-command.result c.with_option-command.result (codes "digest") []
    _ signatures_rule c.wanted_option.ensures.rule c.new_command-command.ensures c.with_option-command.ensures in
    let row = behind c.with_option-command.result c.with_option-command-2.result (codes "digest")
    (signatures_rule ∷ []) _ signature_rule c.number_option.ensures.rule file c.with_option-command-2.ensures in
    behind c.with_option-command-2.result c.with_option.result (codes "digest")
    (signatures_rule ∷ signature_rule ∷ []) _ salt_rule c.flag_option.ensures.rule row c.with_option.ensures
