use Rattle.std.proofs.Common.{[], ◌∷◌, codes}
use Rattle.std.proofs.lemmas.Result.{IfOk-weaker}
use Rattle.opgp_words.specs.Program.{judged_at_rule, policy_rule, values_rule, verdicts_rule}
use Rattle.opgp_words.proofs.Adding.{behind}
use Rattle.opgp_words.proofs.command.state_command.Goals as goal

pub returns : goal.returns
returns c =
    let reliances = c.policy_option.ensures.rule in
    let at = behind c.new_command-command.result c.with_option-command.result (codes "state") []
    _ judged_at_rule c.wanted_option.ensures.rule c.new_command-command.ensures c.with_option-command.ensures in
    let policy = behind c.with_option-command.result c.with_option-command-2.result (codes "state")
    (judged_at_rule ∷ []) _ (policy_rule reliances.0) reliances.2 at c.with_option-command-2.ensures in
    let verdicts = behind c.with_option-command-2.result c.with_option-command-3.result (codes "state")
    (judged_at_rule ∷ policy_rule reliances.0 ∷ []) _ verdicts_rule c.text_option.ensures.rule policy c.with_option-command-3.ensures in
    let values = behind c.with_option-command-3.result c.with_option.result (codes "state")
    (judged_at_rule ∷ policy_rule reliances.0 ∷ verdicts_rule ∷ []) _ values_rule c.flag_option.ensures.rule verdicts c.with_option.ensures in
    IfOk-weaker c.with_option.result _ _ (λ r is. (reliances.0, reliances.1, is)) values
