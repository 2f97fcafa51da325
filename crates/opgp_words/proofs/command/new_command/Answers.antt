use Rattle.std.proofs.Common.{rules, ap, ap₂, ◌∙◌, ◌≡◌, Ok}
use Rattle.std.proofs.lemmas.Result.{IfOk-weaker}
use Rattle.clap.specs.Words.{App, Rule, app_of, new_app, rule_of, with_rule}
use Rattle.opgp_words.specs.Program.{mode_rule, with_limits}
use Rattle.opgp_words.proofs.Adding.{known}
use Rattle.opgp_words.proofs.command.new_command.Goals as goal

pub returns : goal.returns
returns c =
    let mode = c.mode_option.ensures.rule in
    let outside = c.outside_option.ensures.rule in
    let malformed = c.malformed_option.ensures.rule in
    let bare : App = new_app c.args.name.now in
    let start : app_of c.after_help.result ≡ bare = search rules in
    let app_1 : App = with_rule bare (rule_of c.mode_option.result) in
    let app_2 : App = with_rule app_1 (rule_of c.outside_option.result) in
    let app_3 : App = with_rule app_2 (rule_of c.malformed_option.result) in
    let app_4 : App = with_limits app_3 in
    let app_5 : App = with_rule app_4 (rule_of c.flag_option.result) in
    let one = known (Ok c.after_help.result) c.with_option-command.result
    (λ a. with_rule a (rule_of c.mode_option.result)) bare start c.with_option-command.ensures in
    let two = known c.with_option-command.result c.with_option-command-2.result
    (λ a. with_rule a (rule_of c.outside_option.result)) app_1 one c.with_option-command-2.ensures in
    let three = known c.with_option-command-2.result c.with_option-command-3.result
    (λ a. with_rule a (rule_of c.malformed_option.result)) app_2 two c.with_option-command-3.ensures in
    let four = known c.with_option-command-3.result c.with_limits-command.result with_limits app_3 three
    c.with_limits-command.ensures in
    let five = known c.with_limits-command.result c.with_option-command-4.result
    (λ a. with_rule a (rule_of c.flag_option.result)) app_4 four c.with_option-command-4.ensures in
    let app_6 : App = with_rule app_5 (rule_of c.flag_option-2.result) in
    let six = known c.with_option-command-4.result c.with_option-command-5.result
    (λ a. with_rule a (rule_of c.flag_option-2.result)) app_5 five c.with_option-command-5.ensures in
    let hints = c.hints_option.ensures.rule in
    let app_7 : App = with_rule app_6 (rule_of c.hints_option.result) in
    let seven = known c.with_option-command-5.result c.with_option-command-6.result
    (λ a. with_rule a (rule_of c.hints_option.result)) app_6 six c.with_option-command-6.ensures in
    let eight = known c.with_option-command-6.result c.with_option.result
    (λ a. with_rule a (rule_of c.text_option.result)) app_7 seven c.with_option.ensures in
    let rules_1 : app_1 ≡ with_rule bare (mode_rule mode.0) = ap (λ (rule : Rule). with_rule bare rule) mode.2 in
    let rules_3 = ap₂ with_rule (ap₂ with_rule rules_1 outside.2) malformed.2 in
    let rules_5 = ap₂ with_rule (ap with_limits rules_3) c.flag_option.ensures.rule in
    let rules_6 = ap₂ with_rule rules_5 c.flag_option-2.ensures.rule in
    let rules_7 = ap₂ with_rule rules_6 hints.2 in
    IfOk-weaker c.with_option.result _ _ (λ r last. record {
      choices = record { modes = mode.0; policies = outside.0; signature_policies = malformed.0; whens = hints.0 };
      are_choices = record { modes = mode.1; policies = outside.1; signature_policies = malformed.1; whens = hints.1 };
      app = last ∙ ap₂ with_rule rules_7 c.text_option.ensures.rule;
    }) eight
