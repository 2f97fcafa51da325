use Rattle.std.proofs.Common.{refl}
use Rattle.opgp_codec.proofs.Coming.{came_none}
use Rattle.opgp_codec.proofs.incoming.Incoming.new.Goals as goal

pub returns : goal.returns
returns c before = came_none c.args.accepts c.args.mode c.args.limits before _ refl c.new.ensures.fed c.input.ensures.value refl refl
