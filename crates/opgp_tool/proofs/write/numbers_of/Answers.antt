use Rattle.std.proofs.Common.{◌+◌, drop, get_or}
use Rattle.opgp_tool.specs.Words.{IsNumber}
use Rattle.opgp_tool.proofs.Texts.{next_text, no_number, none_read, nothing, one_more, texts_in}
use Rattle.opgp_tool.proofs.write.numbers_of.Goals as goal

pub returns-in-Err-clause-none : goal.returns-in-Err-clause-none
returns-in-Err-clause-none c = none_read IsNumber (texts_in c.args.texts.now) (texts_in (drop c.loop-text.text-index c.args.texts.now)) (get_or c.args.texts.now c.loop-text.text-index nothing).now (texts_in (drop (c.loop-text.text-index + 1) c.args.texts.now))
    c.loop-text.numbers.items (next_text c.args.texts.now c.loop-text.text-index c.loop-text-test.true) (no_number (get_or c.args.texts.now c.loop-text.text-index nothing).now c.in-Err.field-0 c.in-Err.ensures.value.0) c.loop-text.invariant

pub loop-text-preserved : goal.loop-text-preserved
loop-text-preserved c = one_more IsNumber (texts_in c.args.texts.now) (texts_in (drop c.loop-text.text-index c.args.texts.now)) (get_or c.args.texts.now c.loop-text.text-index nothing).now (texts_in (drop (c.loop-text.text-index + 1) c.args.texts.now))
    c.loop-text.numbers.items c.push.new.self.items c.in-Ok.number (next_text c.args.texts.now c.loop-text.text-index c.loop-text-test.true) (record { digits = c.in-Ok.ensures.value.0.0.0; value = c.in-Ok.ensures.value.0.1; fits = c.in-Ok.ensures.value.0.0.1 }) c.in_ok-push-in-Ok.ensures.items c.loop-text.invariant
