use Rattle.std.proofs.Common.{◌≡◌, true, false}
use Rattle.std.specs.Prelude.{MatchResult}
use Rattle.opgp_codec.specs.Draft.{DraftHas}
use Rattle.opgp_codec.specs.Pulled.{OfAll}
use Rattle.opgp_codec.specs.Reading.{Outcome}
use Rattle.opgp_stack.specs.Shown.{IsShownOf, Shows}
use Rattle.opgp_stack.proofs.ReadFor.{ends_both}
use Rattle.opgp_stack.proofs.ShownTexts.{shown_all, unshown}
use Rattle.opgp_stack.proofs.showing_from.show_all.Goals as goal

pub show_each-requires-clause-came : goal.show_each-requires-clause-came
show_each-requires-clause-came g c = (c.args.task.now.mode, c.args.task.now.limits, g.R.Source.left c.args.source.now, c.in_ok-incoming.ensures _)

pub returns-in-Err : goal.returns-in-Err
returns-in-Err g c =
    let from : Outcome Unit → Type 0 = λ answer. MatchResult answer (λ _. Shows (DraftHas g.S.Spool.serves g.S.Spool.tells g.S.Spool.holds g.S.Spool.has_failed) c.args.text g.R.Source.left g.R.Source.has_failed c.args.source.now c.show_each.new.source c.in_ok-incoming.incoming c.show_each.new.incoming c.args.draft.now c.show_each.new.draft) (λ _. ⊥) in
    let to : Outcome Unit → Type 0 = λ answer. OfAll g.R.Source.left g.R.Source.has_failed c.args.source.now c.show_each.new.source c.args.task.now.limits (λ octets. IsShownOf (λ (done : Unit {0}). DraftHas g.S.Spool.serves g.S.Spool.tells g.S.Spool.holds g.S.Spool.has_failed c.show_each.new.draft) c.args.text c.args.task.now octets answer) in
    ends_both from to (g.R.Source.has_failed c.show_each.new.source ≡ true) (g.R.Source.has_failed c.show_each.new.source ≡ false) (λ fault h. absurd h) c.in-Err.fault c.in-Err.ensures

pub finish-requires : goal.finish-requires
finish-requires g c =
    let shows = c.in-Ok.ensures in
    (c.args.task.now.mode, c.args.task.now.limits, g.R.Source.left c.args.source.now, g.R.Source.left c.show_each.new.source, shows.packets, shows.came _ _ _ (c.in_ok-incoming.ensures _), shows.over)

pub returns-in_err-finish : goal.returns-in_err-finish
returns-in_err-finish g c =
    let shows = c.in-Ok.ensures in
    unshown (DraftHas g.S.Spool.serves g.S.Spool.tells g.S.Spool.holds g.S.Spool.has_failed c.show_each.new.draft) c.args.text c.args.task.now g.R.Source.left g.R.Source.has_failed c.args.source.now c.show_each.new.source shows.sound shows.packets c.from_residual-in_err-finish.result c.in_err-finish.field-0.0 c.from_residual-in_err-finish.ensures
    (c.in_err-finish.ensures _ _ _ _ shows.packets (shows.came _ _ _ (c.in_ok-incoming.ensures _)) shows.over)

pub returns : goal.returns
returns g c =
    let shows = c.in-Ok.ensures in
    shown_all (DraftHas g.S.Spool.serves g.S.Spool.tells g.S.Spool.holds g.S.Spool.has_failed c.show_each.new.draft) c.args.text c.args.task.now g.R.Source.left g.R.Source.has_failed c.args.source.now c.show_each.new.source shows.sound shows.packets
    (c.in_ok-finish.ensures _ _ _ _ shows.packets (shows.came _ _ _ (c.in_ok-incoming.ensures _)) shows.over) (shows.added c.requires.empty)
