use Rattle.std.proofs.Common.{ap, ap₂, ◌∙◌}
use Rattle.std.proofs.lemmas.Result.{IfOk-weaker}
use Rattle.clap.specs.Words.{with_subcommand}
use Rattle.opgp_words.proofs.Commands.{both, plain_of, top_of}
use Rattle.opgp_words.proofs.command.program.Goals as goal

pub returns : goal.returns
returns c = IfOk-weaker c.with_command-5.result _ _ (λ r last.
    let writes = c.in_ok-tool.ensures in
    let lists = writes.lists in
    let signatures = both c.new_command.result _ _ c.new_command.ensures c.in_ok-tool-2.ensures in
    let digest = both c.digest_command.result _ _ c.digest_command.ensures c.in_ok-tool-3.ensures in
    let canonical = both c.new_command-2.result _ _ c.new_command-2.ensures c.in_ok-tool-4.ensures in
    let cleartext = both c.cleartext_command.result _ _ c.cleartext_command.ensures c.in_ok-tool-5.ensures in
    let diff = both c.diff_command.result _ _ c.diff_command.ensures last in
    let ten = signatures.2 (ap plain_of signatures.1.app)
    ∙ ap₂ with_subcommand writes.is (ap top_of signatures.1.app) in
    let eleven = digest.2 (ap plain_of digest.1.app)
    ∙ ap₂ with_subcommand ten (ap top_of digest.1.app) in
    let twelve = canonical.2 (ap plain_of canonical.1.app)
    ∙ ap₂ with_subcommand eleven (ap top_of canonical.1.app) in
    let thirteen = cleartext.2 (ap plain_of cleartext.1.2.app)
    ∙ ap₂ with_subcommand twelve (ap top_of cleartext.1.2.app) in
    let fourteen = diff.2 (ap plain_of diff.1.app)
    ∙ ap₂ with_subcommand thirteen (ap top_of diff.1.app) in
    record {
      show_choices = lists.show_choices;
      list_choices = lists.list_choices;
      check_choices = lists.check_choices;
      state_choices = lists.state_choices;
      octets_choices = lists.octets_choices;
      write_choices = writes.write_choices;
      normalise_choices = writes.normalise_choices;
      split_choices = writes.split_choices;
      join_choices = writes.join_choices;
      signatures_choices = signatures.1.choices;
      digest_choices = digest.1.choices;
      canonical_choices = canonical.1.choices;
      cleartext_choices = cleartext.1.2.choices;
      diff_choices = diff.1.choices;
      are_choices = (lists.are_choices.0, (lists.are_choices.1.0, (lists.are_choices.1.1.0, (lists.are_choices.1.1.1.0, (lists.are_choices.1.1.1.1.0, (writes.are_choices.0, (writes.are_choices.1.0, (writes.are_choices.1.1.0, (writes.are_choices.1.1.1.0, (signatures.1.are_choices, (digest.1.are_choices, (canonical.1.are_choices, (cleartext.1.2.are_choices, (diff.1.are_choices, tt))))))))))))));
      reliances = lists.reliances;
      are_reliances = lists.are_reliances;
      tops = lists.tops;
      are_tops = lists.are_tops;
      write_outs = writes.write_outs;
      normalise_outs = writes.normalise_outs;
      split_outs = writes.split_outs;
      join_outs = writes.join_outs;
      are_outs = writes.are_outs;
      parts = cleartext.1.0;
      are_parts = cleartext.1.1;
      is = fourteen;
    }) c.with_command-5.ensures
