use Rattle.std.proofs.Common.{◌≡◌, ◌<◌, length, arith}
use Rattle.opgp_merge.proofs.Uniting.{joined_short}
use Rattle.opgp_merge.proofs.gathering.join.Goals as goal

pub returns-then-len-lt2 : goal.returns-then-len-lt2
returns-then-len-lt2 g c =
    let v = c.args.items in
    let count : v.len ≡ length v.items = v.ok.0 in
    let short : length v.items < 2 = omega (arith, c.if-len-lt2.true, c.len.ensures) in
    joined_short g.T.Joining.name g.T.Joining.both g.met.T.Joining.keeps v.items short
