use Rattle.std.proofs.Common.{◌≡◌, ◌∙◌, ◌++◌, ℕ, List, [], drop, take, ap}
use Rattle.std.specs.Prelude.{if◌then◌else◌}
use Rattle.opgp_frame.specs.Packet.{PacketValue}
use Rattle.opgp_hash.specs.Subject.{subject_value}
use Rattle.opgp_hash.specs.SubjectValue.{SubjectValue}
use Rattle.opgp_keyring.specs.Grouped.{hangs_left}
use Rattle.opgp_keyring.specs.Keyring.{IsHung, certificate_packets}
use Rattle.opgp_keyring.specs.Member.{member_packet}
use Rattle.opgp_report.specs.declared.verifier.Verdict.{Verdict}
use Rattle.opgp_valid.specs.KnownKeys.{knowns}
use Rattle.opgp_valid.specs.Told.{first_verdict}
use Rattle.opgp_bound.specs.Judged.{judged, rows_of}
use Rattle.opgp_bound.specs.Newest.{newest_stays}
use Rattle.opgp_bound.specs.Replacing.{time_of}
use Rattle.opgp_bound.proofs.Found.{rows_more}
use Rattle.opgp_bound.proofs.Kept.{first_is, rest_are}
use Rattle.opgp_bound.proofs.NewestKept.{hangs_added, rows_added}
use Rattle.opgp_bound.proofs.role.Context.add_newest_hangs.Goals as goal

pub add_if-requires : goal.add_if-requires
add_if-requires c = first_is IsHung (hangs_left c.hangs.hangs) (hangs_left c.next.new.self) (member_packet c.in-Some.member) c.in-Some.ensures c.hangs.invariant.hung

pub hangs-preserved : goal.hangs-preserved
hangs-preserved c =
    let known = knowns c.args.self.now.known.now in
    let print = c.args.self.now.primary in
    let subject : SubjectValue = subject_value c.args.subject in
    let newest = time_of c.args.times in
    let ps : List PacketValue = hangs_left c.hangs.hangs in
    let rest : List PacketValue = hangs_left c.next.new.self in
    let p : PacketValue = member_packet c.in-Some.member in
    let founds : List Verdict = c.hangs.rest.now in
    let behind : List Verdict = c.behind-rest.result.now in
    let stays = c.newest_stays-stays.result in
    let dropped : behind ≡ drop (rows_of subject p) founds = c.behind-rest.ensures ∙ ap (λ (k : ℕ). drop k founds) c.judge-judged.ensures.rows in
    let is : stays ≡ newest_stays newest (judged known print subject (first_verdict founds) p) =
    c.newest_stays-stays.ensures ∙ ap (newest_stays newest) (c.judge-judged.ensures.judged ∙ ap (λ (v : Verdict). judged known print subject v p) c.first_verdict.ensures) in
    record {
      hung = rest_are IsHung ps rest p c.in-Some.ensures c.hangs.invariant.hung;
      packets = hangs_added newest known print subject ps rest p founds behind stays (certificate_packets c.hangs.chosen) (certificate_packets c.add_if.new.chosen) c.in-Some.ensures dropped is c.in_ok-add_if.ensures ∙ c.hangs.invariant.packets;
      founds = rows_added newest known print subject ps rest p founds behind stays c.hangs.founds.items c.add_rows_if.new.founds.items c.in-Some.ensures dropped is
          (c.in_ok-add_rows_if.ensures ∙ ap (λ (l : List Verdict). c.hangs.founds.items ++ (if stays then l else [])) (c.first_rows.ensures ∙ ap (λ (k : ℕ). take k founds) c.judge-judged.ensures.rows)) ∙ c.hangs.invariant.founds;
      rows = rows_more subject ps rest p founds behind c.in-Some.ensures dropped ∙ c.hangs.invariant.rows;
    }
