use Rattle.opgp_cleartext.proofs.Opening.{none_behind, opens}
use Rattle.opgp_cleartext.proofs.laws.first_refused_line.Goals as goal

pub returns-clause-opens : goal.returns-clause-opens
returns-clause-opens c = λ most text before after s h are leads.
    let o = opens most text before after s h are leads in
    (o.other, o.more, o.document, o.rest, o.begins, o.is)

pub returns-clause-refused : goal.returns-clause-refused
returns-clause-refused c = λ most text before after line s d r leads refused are h. none_behind most text before after line s d r leads refused are h
