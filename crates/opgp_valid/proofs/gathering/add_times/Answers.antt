use Rattle.std.proofs.Common.{◌∙◌, sym}
use Rattle.opgp_packet.specs.Subs.{subs_to_come}
use Rattle.opgp_valid.proofs.Times.{told_timed, told_untimed}
use Rattle.opgp_valid.proofs.gathering.add_times.Goals as goal

pub returns-then-states_time : goal.returns-then-states_time
returns-then-states_time c = rw (told_timed c.args.told (subs_to_come c.args.hashed) (sym c.states_time.ensures ∙ c.if-states_time.true), sym c.signature_lasts.ensures) c.add_each_time.ensures

pub returns-else-states_time : goal.returns-else-states_time
returns-else-states_time c = rw (told_untimed c.args.told (subs_to_come c.args.hashed) (sym c.states_time.ensures ∙ c.if-states_time.false)) c.add_at.ensures
