use Rattle.std.proofs.Common.{◌∙◌, sym}
use Rattle.opgp_cleartext.proofs.Whole.{either, err_same, fault_read, message_read}
use Rattle.opgp_cleartext.proofs.laws.message_or_fault.Goals as goal

pub returns-clause-either : goal.returns-clause-either
returns-clause-either c = λ most text. either most text

pub returns-clause-not_both : goal.returns-clause-not_both
returns-clause-not_both c = λ most text d r why pos h f.
    let both = sym (message_read most text d r h) ∙ fault_read most text why pos f in
    cc

pub returns-clause-one_fault : goal.returns-clause-one_fault
returns-clause-one_fault c = λ most text a b p q f g.
    err_same a b p q (sym (fault_read most text a p f) ∙ fault_read most text b q g)
