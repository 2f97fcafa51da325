use Rattle.std.proofs.Common.{[], ◌∷◌, codes}
use Rattle.opgp_words.specs.Program.{at_rule, bound_rule, newest_rule, no_attributes_rule, own_signatures_rule, user_id_rule, verdicts_rule}
use Rattle.opgp_words.proofs.Adding.{behind_out}
use Rattle.opgp_words.proofs.command.write_command.Goals as goal

pub returns : goal.returns
returns c =
    let own = behind_out c.writing_command-command.result c.with_option-command.result (codes "write") []
    _ own_signatures_rule c.flag_option.ensures.rule c.writing_command-command.ensures c.with_option-command.ensures in
    let bare = behind_out c.with_option-command.result c.with_option-command-2.result (codes "write")
    (own_signatures_rule ∷ []) _ no_attributes_rule c.flag_option-2.ensures.rule own c.with_option-command-2.ensures in
    let ids = behind_out c.with_option-command-2.result c.with_option-command-3.result (codes "write")
    (own_signatures_rule ∷ no_attributes_rule ∷ []) _ user_id_rule c.repeated_option-user_id.ensures.rule bare c.with_option-command-3.ensures in
    let bound = behind_out c.with_option-command-3.result c.with_option-command-4.result (codes "write")
    (own_signatures_rule ∷ no_attributes_rule ∷ user_id_rule ∷ []) _ bound_rule c.flag_option-3.ensures.rule ids c.with_option-command-4.ensures in
    let verdicts = behind_out c.with_option-command-4.result c.with_option-command-5.result (codes "write")
    (own_signatures_rule ∷ no_attributes_rule ∷ user_id_rule ∷ bound_rule ∷ []) _ verdicts_rule c.text_option.ensures.rule bound c.with_option-command-5.ensures in
    let newest = behind_out c.with_option-command-5.result c.with_option-command-6.result (codes "write")
    (own_signatures_rule ∷ no_attributes_rule ∷ user_id_rule ∷ bound_rule ∷ verdicts_rule ∷ []) _ newest_rule c.flag_option-4.ensures.rule verdicts c.with_option-command-6.ensures in
    behind_out c.with_option-command-6.result c.with_option.result (codes "write")
    (own_signatures_rule ∷ no_attributes_rule ∷ user_id_rule ∷ bound_rule ∷ verdicts_rule ∷ newest_rule ∷ []) _ at_rule c.text_option-2.ensures.rule newest c.with_option.ensures
