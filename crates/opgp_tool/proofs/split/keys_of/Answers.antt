use Rattle.std.proofs.Common.{◌+◌, drop, get_or}
use Rattle.opgp_stack.specs.KeyText.{IsKeyText}
use Rattle.opgp_tool.proofs.Texts.{next_text, none_read, nothing, one_more, texts_in}
use Rattle.opgp_tool.proofs.split.keys_of.Goals as goal

pub returns-in-None-clause-none : goal.returns-in-None-clause-none
returns-in-None-clause-none c = none_read IsKeyText (texts_in c.args.texts.now) (texts_in (drop c.loop-text.text-index c.args.texts.now)) (get_or c.args.texts.now c.loop-text.text-index nothing).now (texts_in (drop (c.loop-text.text-index + 1) c.args.texts.now))
    c.loop-text.keys.items (next_text c.args.texts.now c.loop-text.text-index c.loop-text-test.true) c.in-None.ensures.none c.loop-text.invariant

pub loop-text-preserved : goal.loop-text-preserved
loop-text-preserved c = one_more IsKeyText (texts_in c.args.texts.now) (texts_in (drop c.loop-text.text-index c.args.texts.now)) (get_or c.args.texts.now c.loop-text.text-index nothing).now (texts_in (drop (c.loop-text.text-index + 1) c.args.texts.now))
    c.loop-text.keys.items c.push.new.self.items c.in-Some.key (next_text c.args.texts.now c.loop-text.text-index c.loop-text-test.true) c.in-Some.ensures.some c.in_ok-push-in-Some.ensures.items c.loop-text.invariant
