use Rattle.clap.specs.Words.{with_rule}
use Rattle.opgp_words.specs.Program.{body_rule, cert_rule, input_rule, line_rule, pieces_rule}
use Rattle.opgp_words.proofs.Adding.{after, itself}
use Rattle.opgp_words.proofs.command.with_limits.Goals as goal

pub returns : goal.returns
returns c =
    let first = c.args.command in
    let one = after first first c.with_option-command.result _ line_rule (λ a. a)
    c.limit_option-line.ensures.rule (itself first) c.with_option-command.ensures in
    let two = after first c.with_option-command.result c.with_option-command-2.result _ body_rule
    (λ a. with_rule a line_rule) c.limit_option-body.ensures.rule one c.with_option-command-2.ensures in
    let three = after first c.with_option-command-2.result c.with_option-command-3.result _ cert_rule
    (λ a. with_rule (with_rule a line_rule) body_rule)
    c.limit_option-cert.ensures.rule two c.with_option-command-3.ensures in
    let four = after first c.with_option-command-3.result c.with_option-command-4.result _ input_rule
    (λ a. with_rule (with_rule (with_rule a line_rule) body_rule) cert_rule)
    c.limit_option-input.ensures.rule three c.with_option-command-4.ensures in
    after first c.with_option-command-4.result c.with_option.result _ pieces_rule
    (λ a. with_rule (with_rule (with_rule (with_rule a line_rule) body_rule) cert_rule) input_rule)
    c.limit_option-pieces.ensures.rule four c.with_option.ensures
