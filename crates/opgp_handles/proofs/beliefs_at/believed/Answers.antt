use Rattle.opgp_handles.proofs.BeliefsAt.{none_at}
use Rattle.opgp_handles.proofs.beliefs_at.believed.Goals as goal

pub returns-in-None-len1-up : goal.returns-in-None-len1-up
returns-in-None-len1-up c =
    rw c.in-None-len1-up.is-0 (none_at c.args.is_message c.args.keyring.now c.args.policy c.args.numbers.now c.args.rows.now c.args.now c.in-None-len1-up.len_at_least)
