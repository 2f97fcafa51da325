use Rattle.std.proofs.Common.{refl}
use Rattle.opgp_armor.proofs.Feeding.{none_of}
use Rattle.opgp_armor.proofs.Closing.{closes}
use Rattle.opgp_armor.proofs.Lasting.{finish_stopped, finish_armored, finish_early}
use Rattle.opgp_armor.proofs.reader.Dearmor.finish.Goals as goal

pub returns-in-Some-clause-ok : goal.returns-in-Some-clause-ok
returns-in-Some-clause-ok c = λ given taken fed. finish_stopped c.args.self c.in-Some.fault given taken fed c.requires.ended c.in-Some.is

pub returns-in-None-end_of_text-clause-ok : goal.returns-in-None-end_of_text-clause-ok
returns-in-None-end_of_text-clause-ok c = λ given taken fed.
    let e = c.in-None-end_of_text.ensures in
    finish_armored c.args.self given taken fed c.requires.ended (none_of c.args.self.ready _ refl c.requires.free) c.in-None.is e.0 e.1

pub returns-clause-ok : goal.returns-clause-ok
returns-clause-ok c = λ given taken fed.
    let e = c.in-Some-end_of_text.ensures in
    finish_early c.args.self given taken _ fed c.requires.ended c.in-None.is e.1 refl refl e.0 refl refl

pub returns-in-None-end_of_text-clause-closed : goal.returns-in-None-end_of_text-clause-closed
returns-in-None-end_of_text-clause-closed c = λ given taken fed.
    let e = c.in-None-end_of_text.ensures in
    closes c.args.self given taken fed (none_of c.args.self.ready _ refl c.requires.free) c.in-None.is e.0
