use Rattle.std.proofs.Common.{sym}
use Rattle.opgp_keyring.proofs.Packing.{count}
use Rattle.opgp_keyring.proofs.members.Members.len.Goals as goal

pub returns : goal.returns
returns c = sym (count c.args.self.now.bodies.now c.args.self.now.headers.now)
