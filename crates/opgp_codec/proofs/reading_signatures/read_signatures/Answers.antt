use Rattle.std.proofs.Common.{◌≡◌, ◌++◌, [], List, Ok, ap, sym, subst, append-nil, append_assoc, map, ◌∙◌}
use Rattle.opgp_octets.specs.Limits.{malformed_of}
use Rattle.opgp_octets.specs.declared.malformed.Malformed.{Malformed}
use Rattle.opgp_keyring.specs.Composition.{Item, of_packet}
use Rattle.opgp_keyring.specs.DetachedGathering.{GathersDetached}
use Rattle.opgp_keyring.specs.DetachedSignatures.{detached_packets}
use Rattle.opgp_codec.specs.Found.{opened}
use Rattle.opgp_codec.specs.Reading.{AnswerOf, shown}
use Rattle.opgp_codec.specs.Signatures.{AreDetachedSignatures, signature_label}
use Rattle.opgp_codec.specs.declared.accepts.Accepts.TheVariants.{Signatures}
use Rattle.opgp_codec.proofs.Pulling.{reads_to}
use Rattle.opgp_codec.proofs.reading_signatures.read_signatures.Goals as goal

pub steps-init : goal.steps-init
steps-init g c = record { sound = c.requires; has = ([], c.in_ok-incoming.ensures _, subst (λ (m : Malformed). GathersDetached m c.new-gathering.result []) c.malformed.ensures c.new-gathering.ensures) }

pub steps-preserved : goal.steps-preserved
steps-preserved g c =
    let l = c.args.limits.now in
    let i = c.steps.invariant.has in
    let s = c.in_ok-step.ensures.came in
    let f = rw c.if-branch.true at s.1 in
    let kept = c.in_ok-take_in.ensures.kept f.0 (malformed_of l) i.0 f.1 i.2 in
    record {
      sound = c.in_ok-step.ensures.sound;
      has = (i.0 ++ s.0, c.take_in.ensures.came Signatures c.args.mode l _ _ _ (s.2 Signatures c.args.mode l _ i.0 i.1), subst (GathersDetached (malformed_of l) c.take_in.new.gathering) (append_assoc i.0 (opened c.step.new.self.items.framer.opening) (map of_packet f.0) ∙ ap (λ (l : List Item). i.0 ++ l) (sym f.2)) kept);
    }

pub finish-requires : goal.finish-requires
finish-requires g c =
    let i = c.steps.invariant.has in
    let s = c.in_ok-step.ensures.came in
    let over = c.in_ok-step.ensures.ended (ap Ok c.if-branch.false) in
    let same : i.0 ++ s.0 ≡ i.0 = ap (λ (l : List Item). i.0 ++ l) (rw c.if-branch.false at s.1) ∙ append-nil i.0 in
    (c.args.mode, c.args.limits.now, _, _, i.0 ++ s.0, s.2 Signatures c.args.mode c.args.limits.now _ i.0 i.1, over.0, subst (GathersDetached (malformed_of c.args.limits.now) c.steps.gathering) (sym same) i.2)

pub returns : goal.returns
returns g c =
    let i = c.steps.invariant.has in
    let s = c.in_ok-step.ensures.came in
    let over = c.in_ok-step.ensures.ended (ap Ok c.if-branch.false) in
    let same : i.0 ++ s.0 ≡ i.0 = ap (λ (l : List Item). i.0 ++ l) (rw c.if-branch.false at s.1) ∙ append-nil i.0 in
    reads_to g.R.Source.left g.R.Source.has_failed c.args.reader.now c.step.new.source c.args.limits.now (λ octets answer. AnswerOf signature_label (AreDetachedSignatures c.args.limits.now) c.args.mode c.args.limits.now octets (shown detached_packets answer)) c.finish.result c.in_ok-step.ensures.sound
    (c.finish.ensures c.args.mode c.args.limits.now _ _ (i.0 ++ s.0) (s.2 Signatures c.args.mode c.args.limits.now _ i.0 i.1) over.1 (subst (GathersDetached (malformed_of c.args.limits.now) c.steps.gathering) (sym same) i.2))
