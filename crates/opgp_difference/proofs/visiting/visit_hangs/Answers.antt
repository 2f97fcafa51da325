use Rattle.std.proofs.Common.{◌≡◌, ◌∙◌, ◌+◌, List, ◌∷◌, ◌++◌, length, sym, ap, subst, arith, append-nil}
use Rattle.opgp_frame.specs.Packet.{PacketValue}
use Rattle.opgp_keyring.specs.Grouped.{hangs_left}
use Rattle.opgp_keyring.specs.Member.{member_packet}
use Rattle.opgp_difference.specs.Entries.{Standing, hang_standing, numbered}
use Rattle.opgp_difference.proofs.Walking.{more, other_stands_not, signature_stands}
use Rattle.opgp_difference.proofs.visiting.visit_hangs.Goals as goal
use Rattle.opgp_difference.proofs.visiting.visit_hangs.Goals.{then-kind-number+in_ok-meet, else-kind-number}

pub hangs-preserved : goal.hangs-preserved
hangs-preserved g c =
    let hang : PacketValue = member_packet c.in-Some.hang in
    let left : List PacketValue = hangs_left c.next.new.self in
    let is : hangs_left c.hangs.hangs ≡ hang ∷ left = c.in-Some.ensures in
    let counted : c.hangs.number + 1 + length left ≡ length (hangs_left c.args.hangs) = omega (arith, c.hangs.invariant.count, ap (λ (l : List PacketValue). length l) is) in
    elim c.if-kind-number.branch [
      | then-kind-number+in_ok-meet w ↦ rw w.visitor-is (record {
        met = λ met e has knows. more g.V.Visitor.has c.hangs.visitor w.meet.new.self met
            (numbered (hang_standing e c.args.certificate c.args.component) 0 (hangs_left c.args.hangs))
            (hang_standing e c.args.certificate c.args.component c.hangs.number hang)
            (numbered (hang_standing e c.args.certificate c.args.component) (c.hangs.number + 1) left)
            (numbered (hang_standing e c.args.certificate c.args.component) c.hangs.number (hangs_left c.hangs.hangs))
            (ap (λ (l : List PacketValue). numbered (hang_standing e c.args.certificate c.args.component) c.hangs.number l) is)
            (λ seen h. subst (λ (l : List Standing). g.V.Visitor.has w.meet.new.self (seen ++ l))
            (sym (signature_stands e c.args.certificate c.args.component c.hangs.number hang (sym c.kind.ensures ∙ w.if-kind-number.true ∙ c.number.ensures)))
            (w.in_ok-meet.ensures.met seen e h (c.hangs.invariant.keeps met e has knows e c.args.node knows)))
            (c.hangs.invariant.met met e has knows);
        keeps = λ met e has knows f n known.
            let walked = c.hangs.invariant.met met e has knows in
            w.in_ok-meet.ensures.keeps (met ++ walked.0) e walked.1 (c.hangs.invariant.keeps met e has knows e c.args.node knows) f n (c.hangs.invariant.keeps met e has knows f n known);
        count = counted;
      })
      | else-kind-number w ↦ rw w.visitor-is (record {
        met = λ met e has knows. more g.V.Visitor.has c.hangs.visitor c.hangs.visitor met
            (numbered (hang_standing e c.args.certificate c.args.component) 0 (hangs_left c.args.hangs))
            (hang_standing e c.args.certificate c.args.component c.hangs.number hang)
            (numbered (hang_standing e c.args.certificate c.args.component) (c.hangs.number + 1) left)
            (numbered (hang_standing e c.args.certificate c.args.component) c.hangs.number (hangs_left c.hangs.hangs))
            (ap (λ (l : List PacketValue). numbered (hang_standing e c.args.certificate c.args.component) c.hangs.number l) is)
            (λ seen h. subst (λ (l : List Standing). g.V.Visitor.has c.hangs.visitor (seen ++ l))
            (sym (other_stands_not e c.args.certificate c.args.component c.hangs.number hang (λ k. w.if-kind-number.false (c.kind.ensures ∙ k ∙ sym c.number.ensures))))
            (subst (g.V.Visitor.has c.hangs.visitor) (sym (append-nil seen)) h))
            (c.hangs.invariant.met met e has knows);
        keeps = λ met e has knows f n known. c.hangs.invariant.keeps met e has knows f n known;
        count = counted;
      })
    ]
