use Rattle.std.proofs.Common.{drop, map}
use Rattle.opgp_tool.specs.Words.{IsNumber}
use Rattle.opgp_tool.proofs.Texts.{SoFar}
use Rattle.opgp_tool.proofs.write.numbers_of.Given as goal

abbrev pub invariant-loop-text : goal.invariant-loop-text
invariant-loop-text l = SoFar IsNumber (map (λ text. text.now) l.texts) (map (λ text. text.now) (drop l.text-index l.texts)) l.numbers.items
