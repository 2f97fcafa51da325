use Rattle.std.proofs.Common.{◌≤◌, ◌+◌, ◌∷◌, List, length, sym, ap, ◌∙◌, arith}
use Rattle.std.proofs.lemmas.List.{take_all, take_rest}
use Rattle.opgp_frame.specs.Packet.{PacketValue}
use Rattle.opgp_keyring.specs.Signed.{bodies_of}
use Rattle.opgp_keyring.proofs.SignedBodies.{none_more, first_here}
use Rattle.opgp_keyring.proofs.signatures.first_of.Goals as goal

pub returns-then-kind-clause-bodies : goal.returns-then-kind-clause-bodies
returns-then-kind-clause-bodies c =
    let ps : List PacketValue = c.args.packets.now in
    let p = c.index-packets-i.result in
    first_here c.args.kind c.loop-i.i ps p c.loop-i-test.true c.index-packets-i.is (sym c.kind.ensures.value ∙ c.if-kind.true) c.loop-i.invariant
    ∙ ap (λ (l : List PacketValue). p.body ∷ bodies_of c.args.kind l) (sym (take_rest ps (c.loop-i.i + 1)))

pub loop-i-preserved : goal.loop-i-preserved
loop-i-preserved c =
    let ps : List PacketValue = c.args.packets.now in
    none_more c.args.kind c.loop-i.i ps c.index-packets-i.result c.loop-i-test.true c.index-packets-i.is (λ e. c.if-kind.false (c.kind.ensures.value ∙ e)) c.loop-i.invariant

pub returns : goal.returns
returns c =
    let ps : List PacketValue = c.args.packets.now in
    let all : length ps ≤ c.loop-i.i = omega arith in
    record {
      bodies = ap (bodies_of c.args.kind) (sym (take_all c.loop-i.i ps all)) ∙ c.loop-i.invariant;
      kind = tt;
      sound = tt;
      rest = tt;
    }
