use Rattle.std.proofs.Common.{[], rules}
use Rattle.opgp_keyring.specs.Parts.{HasParts}
use Rattle.opgp_codec.specs.Keyrings.{ComposesTo, key_label}
use Rattle.opgp_codec.specs.Reading.{AnswerOf}
use Rattle.opgp_codec.proofs.Pulling.{reads_to}
use Rattle.opgp_codec.proofs.reading_keyring.keyring_of.Goals as goal

pub keep_all-requires-clause-came : goal.keep_all-requires-clause-came
keep_all-requires-clause-came g c = (c.args.mode, c.args.limits, _, [], c.in_ok-parts.ensures _)

pub finish-requires : goal.finish-requires
finish-requires g c =
    let empty : HasParts c.empty-ring.result [] = search rules in
    let all = c.in_ok-keep_all.ensures.came c.args.mode c.args.limits _ [] (c.in_ok-parts.ensures _) empty in
    (c.args.mode, c.args.limits, _, _, all.0, all.1, c.in_ok-keep_all.ensures.over)

pub returns : goal.returns
returns g c =
    let empty : HasParts c.empty-ring.result [] = search rules in
    let all = c.in_ok-keep_all.ensures.came c.args.mode c.args.limits _ [] (c.in_ok-parts.ensures _) empty in
    reads_to g.R.Source.left g.R.Source.has_failed c.args.reader.now c.keep_all.new.reader c.args.limits (AnswerOf key_label (ComposesTo c.args.limits) c.args.mode c.args.limits) c.finish.result c.in_ok-keep_all.ensures.sound
    (c.finish.ensures c.args.mode c.args.limits _ _ all.0 all.1 c.in_ok-keep_all.ensures.over all.2)
