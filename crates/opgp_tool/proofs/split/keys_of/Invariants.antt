use Rattle.std.proofs.Common.{drop, map}
use Rattle.opgp_stack.specs.KeyText.{IsKeyText}
use Rattle.opgp_tool.proofs.Texts.{SoFar}
use Rattle.opgp_tool.proofs.split.keys_of.Given as goal

abbrev pub invariant-loop-text : goal.invariant-loop-text
invariant-loop-text l = SoFar IsKeyText (map (λ text. text.now) l.texts) (map (λ text. text.now) (drop l.text-index l.texts)) l.keys.items
