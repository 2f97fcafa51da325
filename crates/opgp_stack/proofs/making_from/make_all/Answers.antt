use Rattle.std.proofs.Common.{◌≡◌, ◌++◌, ◌∷◌, [], true, false, sym, subst, append-nil}
use Rattle.std.specs.Prelude.{MatchResult}
use Rattle.opgp_keyring.specs.State.{part_of}
use Rattle.opgp_codec.specs.Draft.{DraftHas}
use Rattle.opgp_codec.specs.IncomingParts.{IsKeyring}
use Rattle.opgp_codec.specs.Pulled.{OfAll}
use Rattle.opgp_codec.specs.Reading.{Outcome}
use Rattle.opgp_stack.specs.Making.{HasMade, IsFilledOf, Keeps}
use Rattle.opgp_stack.proofs.ReadFor.{ends_both, filled_all, parts_whole, unfilled}
use Rattle.opgp_stack.proofs.making_from.make_all.Goals as goal

pub keep_each-requires-clause-came : goal.keep_each-requires-clause-came
keep_each-requires-clause-came g c = (c.args.task.now.mode, c.args.task.now.limits, g.R.Source.left c.args.source.now, c.in_ok-incoming.ensures _)

pub returns-in-Err : goal.returns-in-Err
returns-in-Err g c =
    let from : Outcome Unit → Type 0 = λ answer. MatchResult answer (λ _. Keeps (DraftHas g.S.Spool.serves g.S.Spool.tells g.S.Spool.holds g.S.Spool.has_failed) g.R.Source.left g.R.Source.has_failed c.args.source.now c.keep_each.new.source c.in_ok-incoming.incoming c.keep_each.new.incoming c.args.making.now c.keep_each.new.making) (λ _. ⊥) in
    let to : Outcome Unit → Type 0 = λ answer. OfAll g.R.Source.left g.R.Source.has_failed c.args.source.now c.keep_each.new.source c.args.task.now.limits (λ octets. IsFilledOf (DraftHas g.S.Spool.serves g.S.Spool.tells g.S.Spool.holds g.S.Spool.has_failed) c.args.task.now c.keep_each.new.making octets answer) in
    ends_both from to (g.R.Source.has_failed c.keep_each.new.source ≡ true) (g.R.Source.has_failed c.keep_each.new.source ≡ false) (λ fault h. absurd h) c.in-Err.fault c.in-Err.ensures

pub finish-requires : goal.finish-requires
finish-requires g c =
    let kept = c.in-Ok.ensures in
    (c.args.task.now.mode, c.args.task.now.limits, g.R.Source.left c.args.source.now, g.R.Source.left c.keep_each.new.source, kept.parts, kept.came _ _ _ (c.in_ok-incoming.ensures _), kept.over)

pub returns-in_err-last : goal.returns-in_err-last
returns-in_err-last g c =
    let kept = c.in-Ok.ensures in
    unfilled (DraftHas g.S.Spool.serves g.S.Spool.tells g.S.Spool.holds g.S.Spool.has_failed) c.args.task.now g.R.Source.left g.R.Source.has_failed c.args.source.now c.keep_each.new.source c.keep_each.new.making kept.sound kept.parts c.from_residual-in_err-last.result c.in_err-last.field-0.0 c.from_residual-in_err-last.ensures
    (c.in_err-last.ensures _ _ _ _ kept.parts (kept.came _ _ _ (c.in_ok-incoming.ensures _)) kept.over)

pub returns-in_ok-keep : goal.returns-in_ok-keep
returns-in_ok-keep g c =
    let kept = c.in-Ok.ensures in
    let ended = c.in_ok-last.ensures _ _ _ _ kept.parts (kept.came _ _ _ (c.in_ok-incoming.ensures _)) kept.over in
    let ring : IsKeyring c.args.task.now.mode c.args.task.now.limits (g.R.Source.left c.args.source.now) (g.R.Source.left c.keep_each.new.source) (kept.parts ++ part_of c.in-Some.last ∷ []) = rw c.in-Some.is at ended in
    filled_all (DraftHas g.S.Spool.serves g.S.Spool.tells g.S.Spool.holds g.S.Spool.has_failed) c.args.task.now g.R.Source.left g.R.Source.has_failed c.args.source.now c.keep_each.new.source c.keep.new.self kept.sound (kept.parts ++ part_of c.in-Some.last ∷ []) ring
    (c.in_ok-keep.ensures _ kept.parts (kept.made _ c.requires.made) (parts_whole _ _ _ _ _ ring))

pub returns-in_default : goal.returns-in_default
returns-in_default g c =
    let kept = c.in-Ok.ensures in
    let ended = c.in_ok-last.ensures _ _ _ _ kept.parts (kept.came _ _ _ (c.in_ok-incoming.ensures _)) kept.over in
    let ring : IsKeyring c.args.task.now.mode c.args.task.now.limits (g.R.Source.left c.args.source.now) (g.R.Source.left c.keep_each.new.source) (kept.parts ++ []) = rw c.in_default.is at ended in
    filled_all (DraftHas g.S.Spool.serves g.S.Spool.tells g.S.Spool.holds g.S.Spool.has_failed) c.args.task.now g.R.Source.left g.R.Source.has_failed c.args.source.now c.keep_each.new.source c.keep_each.new.making kept.sound (kept.parts ++ []) ring
    (subst (HasMade (DraftHas g.S.Spool.serves g.S.Spool.tells g.S.Spool.holds g.S.Spool.has_failed) c.args.task.now.action c.keep_each.new.making) (sym (append-nil kept.parts)) (kept.made _ c.requires.made))
