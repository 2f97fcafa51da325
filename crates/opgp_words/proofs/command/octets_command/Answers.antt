use Rattle.std.proofs.Common.{[], ◌∷◌, codes}
use Rattle.std.proofs.lemmas.Result.{IfOk-weaker}
use Rattle.opgp_words.specs.Program.{all_rule, explain_rule, of_rule, row_rule}
use Rattle.opgp_words.proofs.Adding.{behind}
use Rattle.opgp_words.proofs.command.octets_command.Goals as goal

pub returns : goal.returns
returns c =
    let tops = c.of_option.ensures.rule in
    let row = behind c.new_command-command.result c.with_option-command.result (codes "octets") []
    _ row_rule c.number_option.ensures.rule c.new_command-command.ensures c.with_option-command.ensures in
    let top = behind c.with_option-command.result c.with_option-command-2.result (codes "octets")
    (row_rule ∷ []) _ (of_rule tops.0) tops.2 row c.with_option-command-2.ensures in
    let all = behind c.with_option-command-2.result c.with_option-command-3.result (codes "octets")
    (row_rule ∷ of_rule tops.0 ∷ []) _ all_rule c.flag_option.ensures.rule top c.with_option-command-3.ensures in
    let explain = behind c.with_option-command-3.result c.with_option.result (codes "octets")
    (row_rule ∷ of_rule tops.0 ∷ all_rule ∷ []) _ explain_rule c.flag_option-2.ensures.rule all c.with_option.ensures in
    IfOk-weaker c.with_option.result _ _ (λ r is. (tops.0, tops.1, is)) explain
