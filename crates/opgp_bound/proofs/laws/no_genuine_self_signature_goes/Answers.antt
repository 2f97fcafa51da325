use Rattle.opgp_bound.proofs.Staying.{genuine_own_stay, genuine_stay}
use Rattle.opgp_bound.proofs.laws.no_genuine_self_signature_goes.Goals as goal

pub returns-clause-primary : goal.returns-clause-primary
returns-clause-primary c = genuine_own_stay

pub returns-clause-component : goal.returns-clause-component
returns-clause-component c = λ known issuers k founds d j there h e. genuine_stay known issuers k founds d there j h e
