use Rattle.opgp_bound.proofs.Unheard.{identity_stays, state_stays}
use Rattle.opgp_bound.proofs.newest_laws.what_is_outdated_is_not_heard.Goals as goal

pub returns-clause-key : goal.returns-clause-key
returns-clause-key c = λ at version created ss goes is_user_id k out users. state_stays at ss goes out is_user_id users version created k

pub returns-clause-identity : goal.returns-clause-identity
returns-clause-identity c = λ at version created ss goes is_user_id n out users. identity_stays at ss goes out is_user_id users version created n
