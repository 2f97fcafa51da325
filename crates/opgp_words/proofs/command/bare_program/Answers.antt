use Rattle.std.proofs.Common.{ap, ◌∙◌, true}
use Rattle.std.proofs.lemmas.Result.{IfOk-weaker}
use Rattle.clap.specs.Words.{App}
use Rattle.clap.specs.Simple.{app_of_fields}
use Rattle.opgp_words.proofs.command.bare_program.Goals as goal

-- a program that wants a command
abbrev required : App → App
required a = record { top = record a.top { subcommand_required = true }; subs = a.subs }

pub returns : goal.returns
returns c =
    let told = ap app_of_fields c.after_help.ensures
    ∙ (ap app_of_fields c.about.ensures ∙ c.new.ensures.app) in
    let wants = ap app_of_fields c.subcommand_required.ensures ∙ ap required told in
    IfOk-weaker c.bin_name.result _ _ (λ r named. ap app_of_fields named.0 ∙ wants)
    c.bin_name.ensures
