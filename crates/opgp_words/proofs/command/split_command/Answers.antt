use Rattle.std.proofs.Common.{[], ◌∷◌, codes}
use Rattle.opgp_words.specs.Program.{except_rule, key_rule, keys_rule, nth_rule}
use Rattle.opgp_words.proofs.Adding.{behind_out}
use Rattle.opgp_words.proofs.command.split_command.Goals as goal

pub returns : goal.returns
returns c =
    let nth = behind_out c.writing_command-command.result c.with_option-command.result (codes "split") []
    _ nth_rule c.number_option.ensures.rule c.writing_command-command.ensures c.with_option-command.ensures in
    let key = behind_out c.with_option-command.result c.with_option-command-2.result (codes "split") (nth_rule ∷ [])
    _ key_rule c.repeated_option-key.ensures.rule nth c.with_option-command-2.ensures in
    let keys = behind_out c.with_option-command-2.result c.with_option-command-3.result (codes "split") (nth_rule ∷ key_rule ∷ [])
    _ keys_rule c.text_option.ensures.rule key c.with_option-command-3.ensures in
    behind_out c.with_option-command-3.result c.with_option.result (codes "split") (nth_rule ∷ key_rule ∷ keys_rule ∷ [])
    _ except_rule c.flag_option.ensures.rule keys c.with_option.ensures
