use Rattle.std.proofs.Common.{arith, sym}
use Rattle.opgp_octets.specs.Octets.{IsOctets}
use Rattle.opgp_packet.specs.Walk.{subs_left}
use Rattle.opgp_explain.proofs.Areas.{subs_most, subs_sized}
use Rattle.opgp_explain.proofs.area.tell_area.Goals as goal

pub tell_subpackets-requires-clause-sized : goal.tell_subpackets-requires-clause-sized
tell_subpackets-requires-clause-sized c =
    let fits : IsOctets c.args.area.now = λ i. omega (arith, c.type_inv.area i) in
    subs_sized c.args.area.now (subs_left c.new.result) fits (sym c.in-None.ensures) c.new.ensures.subs c.requires.sized

pub returns-in-None-clause-most : goal.returns-in-None-clause-most
returns-in-None-clause-most c =
    let fits : IsOctets c.args.area.now = λ i. omega (arith, c.type_inv.area i) in
    subs_most c.args.telling (subs_left c.new.result) c.tell_subpackets.result (subs_sized c.args.area.now (subs_left c.new.result) fits (sym c.in-None.ensures) c.new.ensures.subs c.requires.sized) c.tell_subpackets.ensures
