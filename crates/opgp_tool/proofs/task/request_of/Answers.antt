use Rattle.std.proofs.Common.{rules, ◌∙◌, sym, ◌≡◌, inr, List, map, Some, None}
use Rattle.std.specs.Prelude.{option_map}
use Rattle.clap.specs.Words.{Row, Text, app_of, subcommand_rows_of, rows_of, found_of}
use Rattle.opgp_words.proofs.Simple.{simple, free}
use Rattle.opgp_tool.proofs.Parsing.{both, found_given, found_none, refused_or, none_said, nothing_said}
use Rattle.opgp_tool.proofs.task.request_of.Goals as goal
use Rattle.opgp_tool.proofs.task.request_of.Goals.{in-Some, in-None}

pub returns-in-Ok-Some-clause-said : goal.returns-in-Ok-Some-clause-said
returns-in-Ok-Some-clause-said g c =
    let made = c.in-Ok.ensures in
    let parsed = c.in-Ok-try_get_matches_from.ensures.matches (simple _ made) in
    elim c.match-subcommand.branch [
      | in-Some w ↦
          let entered : subcommand_rows_of c.in-Ok-try_get_matches_from.matches
          ≡ Some (w.in-Some.name.now, rows_of (found_of w.in-Some.options.now)) =
          both _ _ _ _ _ (sym w.in-Some.ensures.name) (sym w.in-Some.ensures.rows) in
          let request = found_given _ w.request_from-request.result c.in-Ok-Some.field-0 c.in-Ok-Some.request
          (sym w.request-is ∙ c.in-Ok-Some.is) c.in-Ok-Some.field-0-is w.request_from-request.ensures.some in (
            app_of c.in-Ok.program,
            made,
            c.in-Ok-try_get_matches_from.ensures.kinds (free _ made),
            (
              w.in-Some.name.now,
              rows_of (found_of w.in-Some.options.now),
              sym parsed.1 ∙ entered,
              request,
            ),
          )
      | in-None w ↦ absurd (search rules)
    ]

pub returns-in-Err-try_get_matches_from-clause-refused :
    goal.returns-in-Err-try_get_matches_from-clause-refused
returns-in-Err-try_get_matches_from-clause-refused g c = refused_or _ _ _ c.in-Ok.ensures
    (λ taken. c.usage_of.ensures (c.in-Err-try_get_matches_from.ensures.passes taken))

pub returns-in-Ok-None-clause-refused : goal.returns-in-Ok-None-clause-refused
returns-in-Ok-None-clause-refused g c =
    let made = c.in-Ok.ensures in
    let app = app_of c.in-Ok.program in
    let words = map g.S.AsStr.text c.args.words.now in
    let parsed = c.in-Ok-try_get_matches_from.ensures.matches (simple _ made) in
    inr (
      app_of c.in-Ok.program,
      made,
      elim c.match-subcommand.branch [
        | in-Some w ↦
            let entered : subcommand_rows_of c.in-Ok-try_get_matches_from.matches
            ≡ Some (w.in-Some.name.now, rows_of (found_of w.in-Some.options.now)) =
            both _ _ _ _ _ (sym w.in-Some.ensures.name) (sym w.in-Some.ensures.rows) in
            let none = found_none w.request_from-request.result c.in-Ok-None.field-0 (sym w.request-is ∙ c.in-Ok-None.is) c.in-Ok-None.field-0-is w.request_from-request.ensures.none in
            none_said app words _ _ (sym parsed.1 ∙ entered) none
        | in-None w ↦
            let rows : None ≡ option_map (λ (p : Text × List Row). p.1)
            (subcommand_rows_of c.in-Ok-try_get_matches_from.matches) = search rules in
            nothing_said app words _ parsed.1 rows
      ],
    )
