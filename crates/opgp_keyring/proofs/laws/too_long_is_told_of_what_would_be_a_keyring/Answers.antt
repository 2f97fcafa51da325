use Rattle.opgp_keyring.proofs.Longer.{is_too_long, would_be}
use Rattle.opgp_keyring.proofs.laws.too_long_is_told_of_what_would_be_a_keyring.Goals as goal

pub returns : goal.returns
returns c limits ps p k = (would_be limits ps p k, λ r. is_too_long ps p r.0 r.1 r.2)
