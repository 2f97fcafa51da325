use Rattle.std.proofs.Common.{◌≤◌, length, take, sym, ap, subst, List, arith}
use Rattle.std.proofs.lemmas.List.{take_all}
use Rattle.std.proofs.lemmas.List.Elements.{All-same}
use Rattle.opgp_frame.specs.declared.packet.Placed.{Placed}
use Rattle.opgp_keyring.specs.Block.{placed_of}
use Rattle.opgp_keyring.specs.Bodies.{IsSound, IsFirstBodyFault}
use Rattle.opgp_keyring.proofs.FirstBodyFaults.{first_block}
use Rattle.opgp_keyring.proofs.checking.check_bodies_by.Goals as goal

pub returns-in-Some : goal.returns-in-Some
returns-in-Some c =
    let blocks = c.args.blocks.now in
    first_block c.args.malformed blocks c.loop-block.block-index c.block-item.result c.in-Some.fault (omega arith) c.block-item.is c.loop-block.invariant
    (subst (λ (ps : List Placed). IsFirstBodyFault c.args.malformed ps c.in-Some.fault) c.deref.ensures.value c.in-Some.ensures)

pub returns : goal.returns
returns c =
    let blocks = c.args.blocks.now in
    let all : length blocks ≤ c.loop-block.block-index = omega arith in
    All-same (IsSound c.args.malformed) (placed_of blocks) (placed_of (take c.loop-block.block-index blocks)) (ap placed_of (sym (take_all c.loop-block.block-index blocks all))) c.loop-block.invariant
