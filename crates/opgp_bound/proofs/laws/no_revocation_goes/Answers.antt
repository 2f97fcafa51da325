use Rattle.opgp_bound.proofs.Staying.{own_stay, revocations_stay, stay_with}
use Rattle.opgp_bound.proofs.laws.no_revocation_goes.Goals as goal

pub returns-clause-primary : goal.returns-clause-primary
returns-clause-primary c = own_stay

pub returns-clause-anywhere : goal.returns-clause-anywhere
returns-clause-anywhere c = λ known issuers k founds d j there h e. revocations_stay known issuers k founds d there j h e

pub returns-clause-component : goal.returns-clause-component
returns-clause-component c = λ known issuers k founds d j there stays h e. stay_with known issuers k founds d there stays j h e
