use Rattle.std.proofs.Common.{rules, arith, ap, length}
use Rattle.std.specs.List.{flat_map}
use Rattle.opgp_keyring.specs.Grouped.{hangs_left}
use Rattle.opgp_keyring.specs.Keyring.{component_packets}
use Rattle.opgp_tables.specs.Packets.{bodies}
use Rattle.opgp_tables.specs.Room.{none}
use Rattle.opgp_tables.proofs.Filling.{certificate_all, certificate_length, certificate_octets, hangs_many}
use Rattle.opgp_tables.proofs.packet_table.put_certificate.Goals as goal

pub put_member-hung-requires-clause-rows : goal.put_member-hung-requires-clause-rows
put_member-hung-requires-clause-rows c = omega (arith, c.requires.rows, certificate_length c.args.certificate.now)

pub put_member-hung-requires-clause-bytes : goal.put_member-hung-requires-clause-bytes
put_member-hung-requires-clause-bytes c = omega (arith, c.requires.bytes, certificate_octets c.args.certificate.now, ap (λ p. length p.body) c.primary.ensures.value)

pub put_hangs-behind-requires-clause-few : goal.put_hangs-behind-requires-clause-few
put_hangs-behind-requires-clause-few c = omega (arith, c.hangs.ensures.few, certificate_length c.args.certificate.now, ap (λ l. length l) c.hangs.ensures.value)

pub put_hangs-behind-requires-clause-rows : goal.put_hangs-behind-requires-clause-rows
put_hangs-behind-requires-clause-rows c = omega (
  arith,
  c.requires.rows,
  certificate_length c.args.certificate.now,
  c.put_member-hung.ensures.rows_there,
  c.put_member-hung.auto.rows,
  ap (λ l. length l) c.hangs.ensures.value,
)

pub put_hangs-behind-requires-clause-bytes : goal.put_hangs-behind-requires-clause-bytes
put_hangs-behind-requires-clause-bytes c = omega (
  arith,
  c.requires.bytes,
  certificate_octets c.args.certificate.now,
  c.put_member-hung.ensures.bytes_there,
  c.put_member-hung.auto.bytes,
  ap (λ p. length p.body) c.primary.ensures.value,
  ap (λ l. length (bodies l)) c.hangs.ensures.value,
)

pub put_components-requires-clause-few : goal.put_components-requires-clause-few
put_components-requires-clause-few c = omega (arith, c.components.ensures.few, certificate_length c.args.certificate.now, ap (λ l. length (flat_map component_packets l)) c.components.ensures.value)

pub put_components-requires-clause-rows : goal.put_components-requires-clause-rows
put_components-requires-clause-rows c = omega (
  arith,
  c.requires.rows,
  certificate_length c.args.certificate.now,
  c.put_member-hung.ensures.rows_there,
  c.put_hangs-behind.ensures.rows_there,
  hangs_many c.args.number none 0 c.put_member-hung.result.bytes (hangs_left c.hangs.result),
  ap (λ l. length l) c.hangs.ensures.value,
  ap (λ l. length (flat_map component_packets l)) c.components.ensures.value,
  c.put_member-hung.auto.rows,
  c.put_hangs-behind.auto.rows,
)

pub put_components-requires-clause-bytes : goal.put_components-requires-clause-bytes
put_components-requires-clause-bytes c = omega (
  arith,
  c.requires.bytes,
  certificate_octets c.args.certificate.now,
  c.put_member-hung.ensures.bytes_there,
  c.put_hangs-behind.ensures.bytes_there,
  ap (λ p. length p.body) c.primary.ensures.value,
  ap (λ l. length (bodies l)) c.hangs.ensures.value,
  ap (λ l. length (bodies (flat_map component_packets l))) c.components.ensures.value,
  c.put_member-hung.auto.bytes,
  c.put_hangs-behind.auto.bytes,
)

pub returns : goal.returns
returns c = certificate_all c.args.number c.args.certificate.now c.args.here c.put_member-hung.result c.put_hangs-behind.result c.put_components.result
    c.args.rows.now c.put_member-hung.new.rows c.put_hangs-behind.new.rows c.put_components.new.rows c.args.bytes.now c.put_member-hung.new.bytes c.put_hangs-behind.new.bytes c.put_components.new.bytes
    (search rules) (search rules) (search rules)
