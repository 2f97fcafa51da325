use Rattle.std.proofs.Common.{◌∙◌}
use Rattle.opgp_io.proofs.Added.{stop}
use Rattle.opgp_io.specs.Line.{word_text}
use Rattle.opgp_io.proofs.Loops.{more_of, broken_of}
use Rattle.opgp_io.proofs.output.Output.add_each.Goals as goal

pub returns-in_err-add_word : goal.returns-in_err-add_word
returns-in_err-add_word g c = record {
  same = c.in_err-add_word.ensures.same ∙ c.loop-word.invariant.same;
  written = stop _ _ c.from_residual.result _ c.from_residual.ensures.0 (broken_of word_text _ _ _ c.args.words.now c.loop-word.word-index _ c.loop-word-test.true c.loop-word.invariant.added c.in_err-add_word.ensures.written);
}

pub loop-word-preserved : goal.loop-word-preserved
loop-word-preserved g c =
    let word = c.in_ok-add_word.ensures.written in
    record {
      same = c.in_ok-add_word.ensures.same ∙ c.loop-word.invariant.same;
      sound = word.sound;
      added = more_of word_text _ _ _ c.args.words.now c.loop-word.word-index _ c.loop-word-test.true c.loop-word.invariant.added word;
    }
