-- What a command line says to a program.
use Rattle.std.specs.Prelude.{◌≡◌, ◌⊎◌, List, Some, true}
use Rattle.clap.specs.Words.{App, Row, Text, subcommand_of, takes}
use Rattle.opgp_tool.specs.Words.{Asked, AskedBeside, AskedWork, IsRequest, IsWork, nothing_asked}

-- the command line names a command of this program, and the task is what its name and its options
-- say
abbrev pub SaysTask : App → List Text → AskedWork → Type 0
SaysTask program words work = (name : Text) × (options : List Row)
    × (subcommand_of program words ≡ Some (name, options)) × IsWork name options work

-- the same of all that it asks for
abbrev pub SaysRequest : App → List Text → Asked → Type 0
SaysRequest program words asked = (name : Text) × (options : List Row)
    × (subcommand_of program words ≡ Some (name, options)) × IsRequest name options asked

-- the program refuses the command line, or it names no task
abbrev pub SaysNone : App → List Text → Type 0
SaysNone program words =
    takes program words ≡ true → (work : AskedWork) → SaysTask program words work → ⊥

-- what is asked beside the task that the command line names; nothing, if it names none
abbrev pub SaysBeside : App → List Text → AskedBeside → Type 0
SaysBeside program words beside = ((work : AskedWork)
    × SaysRequest program words (record { work = work; beside = beside }))
    ⊎ (SaysNone program words × (beside ≡ nothing_asked))
