use Rattle.std.proofs.Common.{◌∙◌, List, ℕ, refl, ◌+◌, sym, subst, take}
use Rattle.std.proofs.lemmas.List.Folds.{flat_map-map}
use Rattle.opgp_keyring.specs.declared.block_of.BlockOf.{BlockOf}
use Rattle.opgp_io.specs.Added.{State, Adds, Writes}
use Rattle.opgp_io.specs.Output.{state_of}
use Rattle.opgp_codec.specs.Packets.{BlockValue, block_value}
use Rattle.opgp_stack.specs.Showing.{shown}
use Rattle.opgp_codec.proofs.Loops.{broken_of, more_of}
use Rattle.opgp_stack.proofs.showing.add_shown.Goals as goal

pub returns-in_err-add_packets : goal.returns-in_err-add_packets
returns-in_err-add_packets g c =
    let old : State = state_of g.W.Sink.held g.W.Sink.has_failed c.args.output.now in
    let mid : State = state_of g.W.Sink.held g.W.Sink.has_failed c.loop-block.output in
    let new : State = state_of g.W.Sink.held g.W.Sink.has_failed c.add_packets.new.output in
    let lines : BlockValue → List ℕ = λ b. shown b.packets in
    let blocks : List BlockOf = c.args.blocks.now in
    record {
      same = c.in_err-add_packets.ensures.same ∙ c.loop-block.invariant.same;
      written = subst (λ (l : List ℕ). Writes old new c.from_residual.result l) (sym (flat_map-map lines block_value blocks)) (broken_of (λ (b : BlockOf). shown b.packets.items) old mid new c.from_residual.result blocks c.loop-block.block-index c.block-item.result _ c.loop-block-test.true c.block-item.is refl c.from_residual.ensures.0 (subst (Adds old mid) (flat_map-map lines block_value (take c.loop-block.block-index blocks)) c.loop-block.invariant.added) (rw c.deref.ensures.value at c.in_err-add_packets.ensures.written));
    }

pub loop-block-preserved : goal.loop-block-preserved
loop-block-preserved g c =
    let old : State = state_of g.W.Sink.held g.W.Sink.has_failed c.args.output.now in
    let mid : State = state_of g.W.Sink.held g.W.Sink.has_failed c.loop-block.output in
    let new : State = state_of g.W.Sink.held g.W.Sink.has_failed c.add_packets.new.output in
    let lines : BlockValue → List ℕ = λ b. shown b.packets in
    let blocks : List BlockOf = c.args.blocks.now in
    let i : ℕ = c.loop-block.block-index in
    record {
      same = c.in_ok-add_packets.ensures.same ∙ c.loop-block.invariant.same;
      added = subst (Adds old new) (sym (flat_map-map lines block_value (take (i + 1) blocks)))
          (more_of (λ (b : BlockOf). shown b.packets.items) old mid new blocks i c.block-item.result _ c.loop-block-test.true c.block-item.is refl
          (subst (Adds old mid) (flat_map-map lines block_value (take i blocks)) c.loop-block.invariant.added) (rw c.deref.ensures.value at c.in_ok-add_packets.ensures.written));
    }
