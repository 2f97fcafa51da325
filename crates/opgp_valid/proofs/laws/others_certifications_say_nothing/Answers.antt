use Rattle.opgp_valid.proofs.OthersSilent.{same_identities, same_standing, same_state}
use Rattle.opgp_valid.proofs.laws.others_certifications_say_nothing.Goals as goal

pub returns-clause-believed : goal.returns-clause-believed
returns-clause-believed c = same_standing

pub returns-clause-key : goal.returns-clause-key
returns-clause-key c = same_state

pub returns-clause-identity : goal.returns-clause-identity
returns-clause-identity c = same_identities
