use Rattle.std.proofs.Common.{ap, ap₂, ◌∙◌}
use Rattle.std.proofs.lemmas.Result.{IfOk-weaker}
use Rattle.clap.specs.Words.{with_subcommand}
use Rattle.opgp_words.proofs.Commands.{both, plain_of, top_of}
use Rattle.opgp_words.proofs.command.writing_program.Goals as goal

pub returns : goal.returns
returns c = IfOk-weaker c.with_command-4.result _ _ (λ r last.
    let lists = c.in_ok-tool.ensures in
    let write = both c.write_command.result _ _ c.write_command.ensures c.in_ok-tool-2.ensures in
    let normalise = both c.writing_command.result _ _ c.writing_command.ensures c.in_ok-tool-3.ensures in
    let split = both c.split_command.result _ _ c.split_command.ensures c.in_ok-tool-4.ensures in
    let join = both c.join_command.result _ _ c.join_command.ensures last in
    let six = write.2 (ap plain_of write.1.2.app)
    ∙ ap₂ with_subcommand lists.is (ap top_of write.1.2.app) in
    let seven = normalise.2 (ap plain_of normalise.1.2.app)
    ∙ ap₂ with_subcommand six (ap top_of normalise.1.2.app) in
    let eight = split.2 (ap plain_of split.1.2.app)
    ∙ ap₂ with_subcommand seven (ap top_of split.1.2.app) in
    let nine = join.2 (ap plain_of join.1.2.app)
    ∙ ap₂ with_subcommand eight (ap top_of join.1.2.app) in
    record {
      before = _;
      lists = lists;
      write_choices = write.1.2.choices;
      normalise_choices = normalise.1.2.choices;
      split_choices = split.1.2.choices;
      join_choices = join.1.2.choices;
      are_choices = (write.1.2.are_choices, (normalise.1.2.are_choices, (split.1.2.are_choices, (join.1.2.are_choices, tt))));
      write_outs = write.1.0;
      normalise_outs = normalise.1.0;
      split_outs = split.1.0;
      join_outs = join.1.0;
      are_outs = (write.1.1, (normalise.1.1, (split.1.1, (join.1.1, tt))));
      is = nine;
    }) c.with_command-4.ensures
