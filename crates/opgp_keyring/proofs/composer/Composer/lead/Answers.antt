use Rattle.std.proofs.Common.{◌≡◌, ◌+◌, ◌<◌, ◌≤◌, ◌∷◌, [], ◌++◌, length, ap, sym, subst, ◌∙◌, arith}
use Rattle.opgp_octets.specs.declared.limits.Limits.{Limits}
use Rattle.opgp_octets.specs.Limits.{cert_limit, malformed_of}
use Rattle.opgp_keyring.specs.Bodies.{HasNoFault}
use Rattle.opgp_frame.specs.Packet.{PacketValue, spelling}
use Rattle.opgp_keyring.specs.Composition.{of_packet}
use Rattle.opgp_keyring.proofs.Standing.{IsIn}
use Rattle.opgp_keyring.specs.Keyring.{octets_of}
use Rattle.opgp_keyring.specs.declared.composer.State.{State}
use Rattle.opgp_keyring.specs.State.{ready_parts, open_octets}
use Rattle.opgp_keyring.proofs.Adding.{octets_of-push}
use Rattle.opgp_keyring.proofs.Stepping.{closed_lead, lead_long, lead_more, room_short, room_fits}
use Rattle.opgp_keyring.proofs.HandedOut.{fed_of, standing_of}
use Rattle.opgp_frame.specs.View.{viewed_packet}
use Rattle.opgp_keyring.proofs.composer.Composer.lead.Goals as goal

pub returns-in-Leading-clause-fed : goal.returns-in-Leading-clause-fed
returns-in-Leading-clause-fed c limits given taken f =
    let size = c.args.self.now.size in
    let limit : c.cert.result ≡ cert_limit limits = c.cert.ensures.value ∙ ap cert_limit f.limits_kept in
    let counted : octets_of c.in-Leading.field-0 ≡ size = ap open_octets (sym c.in-Leading.is) ∙ c.args.self.now.counted in
    let short : size ≤ c.cert.result = omega (arith, c.args.self.now.short, c.cert.ensures.value) in
    let long : c.cert.result < size + c.spelled_len-octets.result = room_short c.cert.result size c.spelled_len-octets.result short c.if-octets-room.true in
    c.refuse.ensures.fed limits given taken (of_packet (record { packet = (viewed_packet c.args.filler); block = c.args.block; pos = c.args.pos })) (fed_of (record { limits_kept = f.limits_kept; state = subst (λ (s : State). IsIn limits s given (taken ++ ready_parts c.args.self.now.ready)) c.in-Leading.is (standing_of f).state })) (subst (λ (l : Limits). HasNoFault (malformed_of l) (viewed_packet c.args.filler)) f.limits_kept c.requires.sound)
    (λ _. lead_long limits c.args.self.now.state c.in-Leading.field-0 given _ (record { packet = (viewed_packet c.args.filler); block = c.args.block; pos = c.args.pos }) (standing_of f).state c.in-Leading.is c.requires.filler (omega (arith, long, limit, counted, c.spelled_len-octets.ensures)))

pub invariant_of-self-in-Leading-2 : goal.invariant_of-self-in-Leading-2
invariant_of-self-in-Leading-2 c =
    let size = c.args.self.now.size in
    let counted : octets_of c.in-Leading.field-0 ≡ size = ap open_octets (sym c.in-Leading.is) ∙ c.args.self.now.counted in
    let short : size ≤ c.cert.result = omega (arith, c.args.self.now.short, c.cert.ensures.value) in
    let fits : size + c.spelled_len-octets.result ≤ c.cert.result = room_fits c.cert.result size c.spelled_len-octets.result short c.if-octets-room.false in
    let more : octets_of c.push.new.self ≡ octets_of c.in-Leading.field-0 + length (spelling (viewed_packet c.args.filler)) = ap octets_of (c.in_ok-push-in-Leading-2.ensures.ok ∙ ap (λ (v : PacketValue). c.in-Leading.field-0 ++ v ∷ []) c.keyring_member.ensures) ∙ octets_of-push c.in-Leading.field-0 (viewed_packet c.args.filler) in
    record {
      short = omega (arith, fits, c.cert.ensures.value);
      counted = omega (arith, more, counted, c.spelled_len-octets.ensures);
      ready_short = c.args.self.now.ready_short;
      spare_empty = c.args.self.now.spare_empty;
    }

pub returns-in_ok-push-in-Leading-2-clause-fed : goal.returns-in_ok-push-in-Leading-2-clause-fed
returns-in_ok-push-in-Leading-2-clause-fed c limits given taken f =
    let size = c.args.self.now.size in
    let limit : c.cert.result ≡ cert_limit limits = c.cert.ensures.value ∙ ap cert_limit f.limits_kept in
    let counted : octets_of c.in-Leading.field-0 ≡ size = ap open_octets (sym c.in-Leading.is) ∙ c.args.self.now.counted in
    let short : size ≤ c.cert.result = omega (arith, c.args.self.now.short, c.cert.ensures.value) in
    let fits : size + c.spelled_len-octets.result ≤ c.cert.result = room_fits c.cert.result size c.spelled_len-octets.result short c.if-octets-room.false in
    fed_of (record {
      limits_kept = f.limits_kept;
      state = lead_more limits c.args.self.now.state c.in-Leading.field-0 c.push.new.self given _ (record { packet = (viewed_packet c.args.filler); block = c.args.block; pos = c.args.pos }) (standing_of f).state c.in-Leading.is (subst (λ (l : Limits). HasNoFault (malformed_of l) (viewed_packet c.args.filler)) f.limits_kept c.requires.sound) c.requires.filler (omega (arith, fits, limit, counted, c.spelled_len-octets.ensures)) (c.in_ok-push-in-Leading-2.ensures.ok ∙ ap (λ (v : PacketValue). c.in-Leading.field-0 ++ v ∷ []) c.keyring_member.ensures);
    })

pub unreachable-requires : goal.unreachable-requires
unreachable-requires c = absurd (let e = closed_lead c.args.self.now.state c.in_default.not-Leading c.requires.lead in let o = c.requires.«open» in cc)
