use Rattle.std.proofs.Common.{◌∙◌}
use Rattle.opgp_keyring.specs.Grouped.{hangs_left}
use Rattle.opgp_keyring.specs.Keyring.{IsHung, certificate_packets}
use Rattle.opgp_keyring.specs.Member.{member_packet}
use Rattle.opgp_merge.proofs.Components.{first_is, own_more, rest_are}
use Rattle.opgp_merge.proofs.own.add_own.Goals as goal

pub add_if_own-requires : goal.add_if_own-requires
add_if_own-requires c = first_is IsHung (hangs_left c.hangs.hangs) (hangs_left c.next.new.self) (member_packet c.in-Some.hang) c.in-Some.ensures c.hangs.invariant.hung

pub hangs-preserved : goal.hangs-preserved
hangs-preserved c =
    let p = member_packet c.in-Some.hang in
    let left = hangs_left c.hangs.hangs in
    let rest = hangs_left c.next.new.self in
    record {
      hung = rest_are IsHung left rest p c.in-Some.ensures c.hangs.invariant.hung;
      value = own_more c.args.own (certificate_packets c.hangs.chosen) (certificate_packets c.add_if_own.new.chosen) left rest p c.in-Some.ensures c.in_ok-add_if_own.ensures ∙ c.hangs.invariant.value;
    }
