use Rattle.std.proofs.Common.{Ok, Err, arith}
use Rattle.std.specs.Option.{option_map}
use Rattle.opgp_hash.specs.Question.{question_value}
use Rattle.opgp_valid.proofs.Finding.{found_behind}
use Rattle.opgp_valid.proofs.revocation.FinderVisitor.meet.Goals as goal

pub returns-then-self-gt0-clause-shown : goal.returns-then-self-gt0-clause-shown
returns-then-self-gt0-clause-shown c body met more (Ok g) = λ h. omega (arith, h, c.if-self-gt0.true)
returns-then-self-gt0-clause-shown c body met more (Err found) = λ h. found_behind c.args.self.now.left _ more (option_map (λ q. question_value q) found) c.if-self-gt0.true h
