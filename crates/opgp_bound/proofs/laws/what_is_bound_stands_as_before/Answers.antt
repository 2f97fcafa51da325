use Rattle.opgp_bound.proofs.Bounded.{found_there, identity_stands, never_of_use, never_vouched_for, primary_reason, primary_stands, subkey_reason, subkey_stands}
use Rattle.opgp_bound.proofs.laws.what_is_bound_stands_as_before.Goals as goal

pub returns-clause-primary : goal.returns-clause-primary
returns-clause-primary call = λ policy v r c m says made. primary_stands policy v r c m made says

pub returns-clause-number : goal.returns-clause-number
returns-clause-number call = λ v r c m n d made is stays. found_there v r c m made n d is stays

pub returns-clause-subkey : goal.returns-clause-subkey
returns-clause-subkey call = λ policy v r c m n created d says made is stays. subkey_stands policy v r c m made n d is stays says created

pub returns-clause-reason : goal.returns-clause-reason
returns-clause-reason call = λ policy v r c m made none. primary_reason policy v r c m made none

pub returns-clause-subkey_reason : goal.returns-clause-subkey_reason
returns-clause-subkey_reason call = λ policy v r c m n created d made is stays none. subkey_reason policy v r c m made n d is stays none created

pub returns-clause-identity : goal.returns-clause-identity
returns-clause-identity call = λ policy v r c m n at d made is stays. identity_stands policy v r c m made n d is stays at

pub returns-clause-usable : goal.returns-clause-usable
returns-clause-usable call = λ policy v r c n created at d is goes. never_of_use policy v r c n d is goes created at

pub returns-clause-certified : goal.returns-clause-certified
returns-clause-certified call = λ policy v r c n at d is goes. never_vouched_for policy v r c n d is goes at
