use Rattle.opgp_bound.proofs.Lasting.{heads_stay, identity_as_before, state_as_before}
use Rattle.opgp_bound.proofs.newest_laws.newest_certificates_stand_as_before.Goals as goal

pub returns-clause-parts : goal.returns-clause-parts
returns-clause-parts c = heads_stay

pub returns-clause-key : goal.returns-clause-key
returns-clause-key c = λ at known c verdicts more k few. state_as_before at known c verdicts more few k

pub returns-clause-identity : goal.returns-clause-identity
returns-clause-identity c = λ at known c verdicts more n few. identity_as_before at known c verdicts more few n
