use Rattle.std.proofs.Common.{◌≡◌, ◌++◌, [], List, Ok, ap, sym, subst, append-nil, append_assoc, map, ◌∙◌}
use Rattle.opgp_keyring.specs.Block.{items_of}
use Rattle.opgp_keyring.specs.Composition.{Item, of_packet}
use Rattle.opgp_codec.specs.Found.{opened}
use Rattle.opgp_codec.specs.Packets.{AreIn, ArePackets, any_label, block_values}
use Rattle.opgp_codec.specs.Reading.{AnswerOf, shown}
use Rattle.opgp_codec.specs.declared.accepts.Accepts.TheVariants.{Any}
use Rattle.opgp_codec.proofs.Pulling.{reads_to}
use Rattle.opgp_codec.proofs.reading_packets.packets_of.Goals as goal

pub steps-init : goal.steps-init
steps-init g c = record { sound = c.requires; has = ([], c.in_ok-incoming.ensures _, ap items_of c.new-blocks.ensures.items) }

pub steps-preserved : goal.steps-preserved
steps-preserved g c =
    let i = c.steps.invariant.has in
    let s = c.in_ok-step.ensures.came in
    let f = rw c.if-branch.true at s.1 in
    let kept = c.in_ok-take_in.ensures.kept f.0 i.0 f.1 i.2 in
    record {
      sound = c.in_ok-step.ensures.sound;
      has = (i.0 ++ s.0, c.take_in.ensures.came Any c.args.mode c.args.limits.now _ _ _ (s.2 Any c.args.mode c.args.limits.now _ i.0 i.1), subst (AreIn c.take_in.new.blocks) (append_assoc i.0 (opened c.step.new.self.items.framer.opening) (map of_packet f.0) ∙ ap (λ (l : List Item). i.0 ++ l) (sym f.2)) kept);
    }

pub finish-requires : goal.finish-requires
finish-requires g c =
    let i = c.steps.invariant.has in
    let s = c.in_ok-step.ensures.came in
    let over = c.in_ok-step.ensures.ended (ap Ok c.if-branch.false) in
    (c.args.mode, c.args.limits.now, _, _, i.0 ++ s.0, s.2 Any c.args.mode c.args.limits.now _ i.0 i.1, over.0)

pub returns : goal.returns
returns g c =
    let i = c.steps.invariant.has in
    let s = c.in_ok-step.ensures.came in
    let over = c.in_ok-step.ensures.ended (ap Ok c.if-branch.false) in
    let same : i.0 ++ s.0 ≡ i.0 = ap (λ (l : List Item). i.0 ++ l) (rw c.if-branch.false at s.1) ∙ append-nil i.0 in
    reads_to g.R.Source.left g.R.Source.has_failed c.args.reader.now c.step.new.source c.args.limits.now (λ octets answer. AnswerOf any_label (ArePackets c.args.limits.now) c.args.mode c.args.limits.now octets (shown block_values answer)) c.finish.result c.in_ok-step.ensures.sound
    (c.finish.ensures c.args.mode c.args.limits.now _ _ (i.0 ++ s.0) (s.2 Any c.args.mode c.args.limits.now _ i.0 i.1) over.1 c.malformed.ensures (subst (AreIn c.steps.blocks) (sym same) i.2))
