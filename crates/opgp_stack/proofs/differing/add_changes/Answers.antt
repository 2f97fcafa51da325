use Rattle.std.proofs.Common.{◌≡◌, ◌∙◌, ap}
use Rattle.std.specs.Borrow.{Bor}
use Rattle.opgp_io.specs.Added.{State}
use Rattle.opgp_io.specs.Output.{state_of}
use Rattle.opgp_keyring.specs.Keyring.{KeyringValue}
use Rattle.opgp_stack.specs.Differing.{changed_line}
use Rattle.opgp_codec.proofs.Loops.{broken_of, more_of}
use Rattle.opgp_stack.proofs.differing.add_changes.Goals as goal

pub returns-in_err-add_change : goal.returns-in_err-add_change
returns-in_err-add_change g c =
    let old : State = state_of g.W.Sink.held g.W.Sink.has_failed c.args.output.now in
    let mid : State = state_of g.W.Sink.held g.W.Sink.has_failed c.loop-packet.output in
    let new : State = state_of g.W.Sink.held g.W.Sink.has_failed c.add_change.new.output in
    let keyring : c.turned_to-named.result.keyring.now ≡ c.args.keyring.now = ap (λ (b : Bor KeyringValue). b.now) c.turned_to-named.ensures.keyring ∙ c.loop-packet.invariant.keyring in
    record {
      same = c.in_err-add_change.ensures.same ∙ c.loop-packet.invariant.same;
      written = broken_of (changed_line c.args.word.now c.args.keyring.now) old mid new c.from_residual.result c.args.packets.now c.loop-packet.packet-index c.packet-item.result _ c.loop-packet-test.true c.packet-item.is
          (ap (λ (r : KeyringValue). changed_line c.args.word.now r c.packet-item.result) keyring) c.from_residual.ensures.0 c.loop-packet.invariant.added c.in_err-add_change.ensures.written;
    }

pub loop-packet-preserved : goal.loop-packet-preserved
loop-packet-preserved g c =
    let old : State = state_of g.W.Sink.held g.W.Sink.has_failed c.args.output.now in
    let mid : State = state_of g.W.Sink.held g.W.Sink.has_failed c.loop-packet.output in
    let new : State = state_of g.W.Sink.held g.W.Sink.has_failed c.add_change.new.output in
    let keyring : c.turned_to-named.result.keyring.now ≡ c.args.keyring.now = ap (λ (b : Bor KeyringValue). b.now) c.turned_to-named.ensures.keyring ∙ c.loop-packet.invariant.keyring in
    record {
      same = c.in_ok-add_change.ensures.same ∙ c.loop-packet.invariant.same;
      added = more_of (changed_line c.args.word.now c.args.keyring.now) old mid new c.args.packets.now c.loop-packet.packet-index c.packet-item.result _ c.loop-packet-test.true c.packet-item.is
          (ap (λ (r : KeyringValue). changed_line c.args.word.now r c.packet-item.result) keyring) c.loop-packet.invariant.added c.in_ok-add_change.ensures.written;
      keyring = keyring;
    }
