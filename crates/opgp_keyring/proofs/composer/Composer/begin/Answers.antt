use Rattle.std.proofs.Common.{◌≡◌, ◌∷◌, [], List, ap, sym, subst, ◌∙◌, arith}
use Rattle.opgp_octets.specs.declared.limits.Limits.{Limits}
use Rattle.opgp_octets.specs.Limits.{cert_limit, malformed_of}
use Rattle.opgp_keyring.specs.Bodies.{HasNoFault}
use Rattle.opgp_keyring.specs.Composed.{PartValue, of_certificate, lead_parts}
use Rattle.opgp_keyring.specs.Composition.{of_packet}
use Rattle.opgp_keyring.proofs.Standing.{IsIn}
use Rattle.opgp_keyring.specs.Keyring.{CertificateValue, certificate_packets, octets_of}
use Rattle.opgp_keyring.specs.State.{open_octets, ready_octets, ready_parts}
use Rattle.opgp_keyring.proofs.Feeding.{begun, begun_octets}
use Rattle.opgp_keyring.proofs.Stepping.{none_ready, primary_long, first_more, next_more}
use Rattle.opgp_keyring.proofs.HandedOut.{fed_of, standing_of}
use Rattle.opgp_frame.specs.View.{viewed_packet}
use Rattle.opgp_keyring.proofs.composer.Composer.begin.Goals as goal

pub returns-then-octets-cert-clause-fed : goal.returns-then-octets-cert-clause-fed
returns-then-octets-cert-clause-fed c limits given taken f =
    let limit : c.cert.result ≡ cert_limit limits = c.cert.ensures.value ∙ ap cert_limit f.limits_kept in
    c.refuse.ensures.fed limits given taken (of_packet (record { packet = (viewed_packet c.args.primary); block = c.args.block; pos = c.args.pos })) f (subst (λ (l : Limits). HasNoFault (malformed_of l) (viewed_packet c.args.primary)) f.limits_kept c.requires.sound)
    (λ opened. primary_long limits c.args.self.now.state given _ (record { packet = (viewed_packet c.args.primary); block = c.args.block; pos = c.args.pos }) (standing_of f).state opened c.requires.primary (omega (arith, limit, c.if-octets-cert.true, c.spelled_len-octets.ensures)))

pub invariant_of-self-in-Leading : goal.invariant_of-self-in-Leading
invariant_of-self-in-Leading c =
    let size = c.args.self.now.size in
    let own : octets_of (certificate_packets c.in_ok-certificate.certificate) ≡ c.spelled_len-octets.result = ap (λ (x : CertificateValue). octets_of (certificate_packets x)) (c.in_ok-certificate.ensures ∙ ap begun c.keyring_member.ensures) ∙ begun_octets (viewed_packet c.args.primary) ∙ sym c.spelled_len-octets.ensures in
    let lead : ready_octets c.replace-in-Leading.new.dest ≡ size = ap ready_octets c.replace-in-Leading.ensures.after ∙ c.lead_part-ready.ensures.octets ∙ ap open_octets c.in-Leading.ensures.value ∙ c.args.self.now.counted in
    record {
      short = omega (arith, c.if-octets-cert.false, c.cert.ensures.value);
      counted = rw c.replace.ensures.after own;
      ready_short = omega (arith, lead, c.args.self.now.short);
      spare_empty = c.replace-memory.ensures.after ∙ c.new.ensures;
    }

pub invariant_of-self-in-Growing : goal.invariant_of-self-in-Growing
invariant_of-self-in-Growing c =
    let size = c.args.self.now.size in
    let own : octets_of (certificate_packets c.in_ok-certificate.certificate) ≡ c.spelled_len-octets.result = ap (λ (x : CertificateValue). octets_of (certificate_packets x)) (c.in_ok-certificate.ensures ∙ ap begun c.keyring_member.ensures) ∙ begun_octets (viewed_packet c.args.primary) ∙ sym c.spelled_len-octets.ensures in
    let before : ready_octets c.replace-in-Growing.new.dest ≡ size = ap ready_octets c.replace-in-Growing.ensures.after ∙ ap open_octets c.in-Growing.ensures.value ∙ c.args.self.now.counted in
    record {
      short = omega (arith, c.if-octets-cert.false, c.cert.ensures.value);
      counted = rw c.replace.ensures.after own;
      ready_short = omega (arith, before, c.args.self.now.short);
      spare_empty = c.replace-memory.ensures.after ∙ c.new.ensures;
    }

pub returns-in-Leading-clause-fed : goal.returns-in-Leading-clause-fed
returns-in-Leading-clause-fed c limits given taken f =
    let s = c.args.self.now.state in
    let limit : c.cert.result ≡ cert_limit limits = c.cert.ensures.value ∙ ap cert_limit f.limits_kept in
    let is = subst (λ (ps : List PartValue). IsIn limits s given ps) (none_ready taken c.args.self.now.ready c.requires.free) (standing_of f).state in
    let parts : ready_parts c.replace-in-Leading.new.dest ≡ lead_parts c.in-Leading.lead = ap ready_parts c.replace-in-Leading.ensures.after ∙ c.lead_part-ready.ensures.part in
    fed_of (record {
      limits_kept = f.limits_kept;
      state = rw (c.replace.ensures.after, (c.in_ok-certificate.ensures ∙ ap begun c.keyring_member.ensures), parts)
          (first_more limits s c.in-Leading.lead given taken (record { packet = (viewed_packet c.args.primary); block = c.args.block; pos = c.args.pos }) is (sym c.in-Leading.ensures.value) (subst (λ (l : Limits). HasNoFault (malformed_of l) (viewed_packet c.args.primary)) f.limits_kept c.requires.sound) c.requires.primary (omega (arith, limit, c.if-octets-cert.false, c.spelled_len-octets.ensures)));
    })

pub returns-in-Growing-clause-fed : goal.returns-in-Growing-clause-fed
returns-in-Growing-clause-fed c limits given taken f =
    let s = c.args.self.now.state in
    let limit : c.cert.result ≡ cert_limit limits = c.cert.ensures.value ∙ ap cert_limit f.limits_kept in
    let is = subst (λ (ps : List PartValue). IsIn limits s given ps) (none_ready taken c.args.self.now.ready c.requires.free) (standing_of f).state in
    let parts : ready_parts c.replace-in-Growing.new.dest ≡ of_certificate c.in-Growing.certificate ∷ [] = ap ready_parts c.replace-in-Growing.ensures.after in
    fed_of (record {
      limits_kept = f.limits_kept;
      state = rw (c.replace.ensures.after, (c.in_ok-certificate.ensures ∙ ap begun c.keyring_member.ensures), parts)
          (next_more limits s c.in-Growing.certificate given taken (record { packet = (viewed_packet c.args.primary); block = c.args.block; pos = c.args.pos }) is (sym c.in-Growing.ensures.value) (subst (λ (l : Limits). HasNoFault (malformed_of l) (viewed_packet c.args.primary)) f.limits_kept c.requires.sound) c.requires.primary (omega (arith, limit, c.if-octets-cert.false, c.spelled_len-octets.ensures)));
    })
