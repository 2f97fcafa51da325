use Rattle.std.proofs.Common.{◌≡◌, ◌+◌, ◌<◌, ◌≤◌, ◌∷◌, [], ◌++◌, ap, sym, subst, ◌∙◌, arith}
use Rattle.opgp_octets.specs.declared.limits.Limits.{Limits}
use Rattle.opgp_octets.specs.Limits.{cert_limit, malformed_of}
use Rattle.opgp_frame.specs.Packet.{PacketValue}
use Rattle.opgp_keyring.specs.Bodies.{HasNoFault}
use Rattle.opgp_keyring.specs.Composition.{of_packet}
use Rattle.opgp_keyring.proofs.Standing.{IsIn}
use Rattle.opgp_keyring.specs.Keyring.{certificate_packets, octets_of}
use Rattle.opgp_keyring.specs.declared.composer.State.{State}
use Rattle.opgp_keyring.specs.State.{ready_parts, open_octets, has_begun}
use Rattle.opgp_keyring.proofs.Stepping.{closed, lead_lacks, grown_long, certificate_more, grown_octets, room_short, room_fits}
use Rattle.opgp_keyring.proofs.HandedOut.{fed_of, standing_of}
use Rattle.opgp_frame.specs.View.{viewed_packet}
use Rattle.opgp_keyring.proofs.composer.Composer.grow.Goals as goal

pub returns-in-Leading-clause-fed : goal.returns-in-Leading-clause-fed
returns-in-Leading-clause-fed c limits given taken f =
    c.refuse.ensures.fed limits given taken (of_packet (record { packet = (viewed_packet c.args.packet); block = c.args.block; pos = c.args.pos })) (fed_of (record { limits_kept = f.limits_kept; state = (standing_of f).state })) (subst (λ (l : Limits). HasNoFault (malformed_of l) (viewed_packet c.args.packet)) f.limits_kept c.requires.sound)
    (λ _. lead_lacks limits c.args.self.now.state c.in-Leading.field-0 given _ (record { packet = (viewed_packet c.args.packet); block = c.args.block; pos = c.args.pos }) (standing_of f).state c.in-Leading.is (c.requires.lead (ap has_begun c.in-Leading.is)))

pub returns-in-Growing-clause-fed : goal.returns-in-Growing-clause-fed
returns-in-Growing-clause-fed c limits given taken f =
    let size = c.args.self.now.size in
    let limit : c.cert.result ≡ cert_limit limits = c.cert.ensures.value ∙ ap cert_limit f.limits_kept in
    let counted : octets_of (certificate_packets c.in-Growing.field-0) ≡ size = ap open_octets (sym c.in-Growing.is) ∙ c.args.self.now.counted in
    let short : size ≤ c.cert.result = omega (arith, c.args.self.now.short, c.cert.ensures.value) in
    let long : c.cert.result < size + c.spelled_len-octets.result = room_short c.cert.result size c.spelled_len-octets.result short c.if-octets-room.true in
    c.refuse-in-Growing.ensures.fed limits given taken (of_packet (record { packet = (viewed_packet c.args.packet); block = c.args.block; pos = c.args.pos })) (fed_of (record { limits_kept = f.limits_kept; state = subst (λ (s : State). IsIn limits s given (taken ++ ready_parts c.args.self.now.ready)) c.in-Growing.is (standing_of f).state })) (subst (λ (l : Limits). HasNoFault (malformed_of l) (viewed_packet c.args.packet)) f.limits_kept c.requires.sound)
    (λ _. grown_long limits c.args.self.now.state c.in-Growing.field-0 given _ (record { packet = (viewed_packet c.args.packet); block = c.args.block; pos = c.args.pos }) (standing_of f).state c.in-Growing.is c.requires.behind (omega (arith, long, limit, counted, c.spelled_len-octets.ensures)))

pub returns-in_ok-add-in-Growing-2-clause-fed : goal.returns-in_ok-add-in-Growing-2-clause-fed
returns-in_ok-add-in-Growing-2-clause-fed c limits given taken f =
    let size = c.args.self.now.size in
    let limit : c.cert.result ≡ cert_limit limits = c.cert.ensures.value ∙ ap cert_limit f.limits_kept in
    let counted : octets_of (certificate_packets c.in-Growing.field-0) ≡ size = ap open_octets (sym c.in-Growing.is) ∙ c.args.self.now.counted in
    let short : size ≤ c.cert.result = omega (arith, c.args.self.now.short, c.cert.ensures.value) in
    let fits : size + c.spelled_len-octets.result ≤ c.cert.result = room_fits c.cert.result size c.spelled_len-octets.result short c.if-octets-room.false in
    fed_of (record {
      limits_kept = f.limits_kept;
      state = certificate_more limits c.args.self.now.state c.in-Growing.field-0 c.add.new.self given _ (record { packet = (viewed_packet c.args.packet); block = c.args.block; pos = c.args.pos }) (standing_of f).state c.in-Growing.is (subst (λ (l : Limits). HasNoFault (malformed_of l) (viewed_packet c.args.packet)) f.limits_kept c.requires.sound) (c.in_ok-add-in-Growing-2.ensures.ok ∙ ap (λ (v : PacketValue). certificate_packets c.in-Growing.field-0 ++ v ∷ []) c.keyring_member.ensures) c.in_ok-add-in-Growing-2.ensures.certificate (omega (arith, fits, limit, counted, c.spelled_len-octets.ensures));
    })

pub unreachable-requires : goal.unreachable-requires
unreachable-requires c = absurd (let e = closed c.args.self.now.state c.in_default.not-Leading c.in_default.not-Growing in let o = c.requires.«open» in cc)

pub invariant_of-self-in-Growing-2 : goal.invariant_of-self-in-Growing-2
invariant_of-self-in-Growing-2 c =
    let size = c.args.self.now.size in
    let counted : octets_of (certificate_packets c.in-Growing.field-0) ≡ size = ap open_octets (sym c.in-Growing.is) ∙ c.args.self.now.counted in
    let short : size ≤ c.cert.result = omega (arith, c.args.self.now.short, c.cert.ensures.value) in
    let fits : size + c.spelled_len-octets.result ≤ c.cert.result = room_fits c.cert.result size c.spelled_len-octets.result short c.if-octets-room.false in
    record {
      short = omega (arith, fits, c.cert.ensures.value);
      counted = grown_octets c.in-Growing.field-0 c.add.new.self (viewed_packet c.args.packet) size c.spelled_len-octets.result (c.in_ok-add-in-Growing-2.ensures.ok ∙ ap (λ (v : PacketValue). certificate_packets c.in-Growing.field-0 ++ v ∷ []) c.keyring_member.ensures) counted c.spelled_len-octets.ensures;
      ready_short = c.args.self.now.ready_short;
      spare_empty = c.args.self.now.spare_empty;
    }
