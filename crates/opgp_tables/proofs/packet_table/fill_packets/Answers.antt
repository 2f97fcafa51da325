use Rattle.std.proofs.Common.{◌≡◌, rules, arith, ap, length, length-append}
use Rattle.std.specs.List.{flat_map}
use Rattle.opgp_keyring.specs.Keyring.{certificate_packets}
use Rattle.opgp_keyring.specs.Member.{members_left}
use Rattle.opgp_tables.specs.Room.{none}
use Rattle.opgp_tables.proofs.Counting.{packets_many}
use Rattle.opgp_tables.proofs.Filling.{hangs_many, keyring_all}
use Rattle.opgp_tables.proofs.packet_table.fill_packets.Goals as goal

pub put_lead-behind-requires-clause-rows : goal.put_lead-behind-requires-clause-rows
put_lead-behind-requires-clause-rows c = omega (arith, c.requires.rows, packets_many c.args.keyring.now, length-append c.args.keyring.now.lead (flat_map certificate_packets c.args.keyring.now.certificates), ap (λ l. length l) c.lead.ensures.value)

pub put_certificates-requires-clause-rows : goal.put_certificates-requires-clause-rows
put_certificates-requires-clause-rows c = omega (
  arith,
  c.requires.rows,
  packets_many c.args.keyring.now,
  length-append c.args.keyring.now.lead (flat_map certificate_packets c.args.keyring.now.certificates),
  ap (λ l. length l) c.lead.ensures.value,
  c.put_lead-behind.ensures.rows_there,
  hangs_many none none 0 0 (members_left c.lead.result),
  ap (λ l. length (flat_map certificate_packets l)) c.certificates.ensures.value,
  c.put_lead-behind.auto.rows,
)

pub returns-clause-rows : goal.returns-clause-rows
returns-clause-rows c =
    let all : (c.put_certificates.new.rows ≡ _) × (c.put_certificates.new.bytes ≡ _) = keyring_all c.args.keyring.now c.put_lead-behind.result c.put_certificates.result c.args.rows.now c.put_lead-behind.new.rows c.put_certificates.new.rows
    c.args.bytes.now c.put_lead-behind.new.bytes c.put_certificates.new.bytes (search rules) (search rules) in
    all.0

pub returns-clause-bytes : goal.returns-clause-bytes
returns-clause-bytes c =
    let all : (c.put_certificates.new.rows ≡ _) × (c.put_certificates.new.bytes ≡ _) = keyring_all c.args.keyring.now c.put_lead-behind.result c.put_certificates.result c.args.rows.now c.put_lead-behind.new.rows c.put_certificates.new.rows
    c.args.bytes.now c.put_lead-behind.new.bytes c.put_certificates.new.bytes (search rules) (search rules) in
    all.1
