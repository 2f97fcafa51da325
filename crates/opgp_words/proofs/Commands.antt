-- What is known of a command that was made, and of the program that it is added to.
use Rattle.std.proofs.Common.{Bool, Result, Ok, Err, IfOk, IsOkAnd}
use Rattle.clap.specs.Words.{App, Shape}
use Rattle.clap.specs.declared.builder.command.Command.{Command}

abbrev pub top_of : App → Shape
top_of a = a.top

abbrev pub plain_of : App → Bool
plain_of a = a.top.is_plain

pub both : {E : Type 0} (made : Result Command E) (P Q : Command → Type 0)
    → IfOk made P → IsOkAnd made Q → (command : Command) × P command × Q command
both (Ok command) P Q p q = (command, p, q)
both (Err e) P Q p q = absurd q
