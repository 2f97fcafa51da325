use Rattle.std.proofs.Common.{◌-◌, length}
use Rattle.opgp_document.proofs.Reading.{ended_other, ended_so}
use Rattle.opgp_document.proofs.Stray.{at_end}
use Rattle.opgp_document.proofs.Text.{made_is_text}
use Rattle.opgp_document.proofs.canonical_text.CanonicalText.finish.Goals as goal

pub returns-in-Some-clause-stray : goal.returns-in-Some-clause-stray
returns-in-Some-clause-stray c = λ document read.
    let last = ended_so c.args.self.last_return document c.in-Some.pos c.in-Some.is read.last_return in
    record { place = length document - 1; is_stray = at_end document read.clean last.0; told = last.1 }

pub returns-in-None-clause-ok : goal.returns-in-None-clause-ok
returns-in-None-clause-ok c = λ document read.
    made_is_text document read.clean (ended_other c.args.self.last_return document c.in-None.is read.last_return)
