use Rattle.std.proofs.Common.{ap, ap₂, ◌∙◌}
use Rattle.std.proofs.lemmas.Result.{IfOk-weaker}
use Rattle.clap.specs.Words.{with_subcommand}
use Rattle.opgp_words.proofs.Commands.{both, plain_of, top_of}
use Rattle.opgp_words.proofs.command.listing_program.Goals as goal

pub returns : goal.returns
returns c = IfOk-weaker c.with_command-5.result _ _ (λ r last.
    let show = both c.show_command.result _ _ c.show_command.ensures c.in_ok-tool-2.ensures in
    let list = both c.list_command.result _ _ c.list_command.ensures c.in_ok-tool-3.ensures in
    let check = both c.check_command.result _ _ c.check_command.ensures c.in_ok-tool-4.ensures in
    let state = both c.state_command.result _ _ c.state_command.ensures c.in_ok-tool-5.ensures in
    let octets = both c.octets_command.result _ _ c.octets_command.ensures last in
    let one = show.2 (ap plain_of show.1.app)
    ∙ ap₂ with_subcommand c.in_ok-tool.ensures (ap top_of show.1.app) in
    let two = list.2 (ap plain_of list.1.app)
    ∙ ap₂ with_subcommand one (ap top_of list.1.app) in
    let three = check.2 (ap plain_of check.1.app)
    ∙ ap₂ with_subcommand two (ap top_of check.1.app) in
    let four = state.2 (ap plain_of state.1.2.app)
    ∙ ap₂ with_subcommand three (ap top_of state.1.2.app) in
    let five = octets.2 (ap plain_of octets.1.2.app)
    ∙ ap₂ with_subcommand four (ap top_of octets.1.2.app) in
    record {
      show_choices = show.1.choices;
      list_choices = list.1.choices;
      check_choices = check.1.choices;
      state_choices = state.1.2.choices;
      octets_choices = octets.1.2.choices;
      are_choices = (show.1.are_choices, (list.1.are_choices, (check.1.are_choices, (state.1.2.are_choices, (octets.1.2.are_choices, tt)))));
      reliances = state.1.0;
      are_reliances = state.1.1;
      tops = octets.1.0;
      are_tops = octets.1.1;
      is = five;
    }) c.with_command-5.ensures
