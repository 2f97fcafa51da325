use Rattle.std.proofs.Common.{rules, arith}
use Rattle.opgp_packet.specs.Subs.{subs_to_come}
use Rattle.opgp_tables.proofs.FilledSubpackets.{area_many, areas_both}
use Rattle.opgp_tables.proofs.subpacket_table.put_areas.Goals as goal

pub put_area-requires-clause-rows : goal.put_area-requires-clause-rows
put_area-requires-clause-rows c = omega (arith, c.requires.rows, c.put_area-behind.ensures.rows_there, area_many c.args.place 1 c.args.here.bytes (subs_to_come c.args.hashed), c.put_area-behind.auto.rows)

pub returns : goal.returns
returns c = areas_both c.args.place (subs_to_come c.args.hashed) (subs_to_come c.args.unhashed) c.args.here c.put_area-behind.result c.put_area.result
    c.args.rows.now c.put_area-behind.new.rows c.put_area.new.rows c.args.bytes.now c.put_area-behind.new.bytes c.put_area.new.bytes (search rules) (search rules)
