use Rattle.std.proofs.Common.{◌≡◌, ◌++◌, map, Some}
use Rattle.opgp_octets.specs.declared.subpacket_kind.SubpacketKind.TheVariants as kind
use Rattle.opgp_packet.specs.Subs.{subs_to_come}
use Rattle.opgp_valid.specs.Gathering.{with_life}
use Rattle.opgp_valid.specs.Subpackets.{numbers_in}
use Rattle.opgp_valid.specs.Told.{life_by}
use Rattle.opgp_valid.proofs.gathering.add_each_time.Given as goal

-- those so far, and those that are to come, are all
abbrev pub invariant-loop-subpacket : goal.invariant-loop-subpacket
invariant-loop-subpacket l = (goal.iterator-loop-subpacket).can_next l.subpacket-iterator × (l.statements.items ++ map (λ made. with_life l.fn.told (Some (life_by l.fn.lasts made))) (numbers_in kind.Created (subs_to_come l.subpacket-iterator)) ≡ l.fn.statements.items ++ map (λ made. with_life l.fn.told (Some (life_by l.fn.lasts made))) (numbers_in kind.Created (subs_to_come l.fn.hashed)))
