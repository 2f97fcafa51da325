use Rattle.std.proofs.Common.{refl}
use Rattle.opgp_packet.specs.FieldReading.{body_at, step_at, kind_at}
use Rattle.opgp_packet.proofs.key_laws.written_user_id.Goals as goal

pub returns : goal.returns
unfolding body_at step_at kind_at
returns c = λ u. refl
