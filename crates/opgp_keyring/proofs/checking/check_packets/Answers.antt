use Rattle.std.proofs.Common.{◌≤◌, length, take, sym, arith}
use Rattle.std.proofs.lemmas.List.{take_all}
use Rattle.std.proofs.lemmas.List.Elements.{All-same}
use Rattle.opgp_keyring.specs.Bodies.{IsSound}
use Rattle.opgp_keyring.proofs.FirstBodyFaults.{first_at}
use Rattle.opgp_keyring.proofs.checking.check_packets.Goals as goal

pub returns-in-Some : goal.returns-in-Some
returns-in-Some c =
    first_at c.args.malformed c.args.packets.now c.loop-placed.placed-index c.placed-item.result c.in-Some.fault (omega arith) c.placed-item.is c.loop-placed.invariant c.in-Some.ensures

pub returns : goal.returns
returns c =
    let ps = c.args.packets.now in
    let all : length ps ≤ c.loop-placed.placed-index = omega arith in
    All-same (IsSound c.args.malformed) ps (take c.loop-placed.placed-index ps) (sym (take_all c.loop-placed.placed-index ps all)) c.loop-placed.invariant
