use Rattle.std.proofs.Common.{subst, sym}
use Rattle.opgp_codec.specs.declared.items.Front.{Front}
use Rattle.opgp_codec.specs.Blocks.{FindsIn}
use Rattle.opgp_codec.specs.Items.{octets_of}
use Rattle.opgp_codec.proofs.ItemsPassing.{binary_passed, text_passed}
use Rattle.opgp_codec.proofs.items.advance.Goals as goal

pub step-requires-clause-through : goal.step-requires-clause-through
step-requires-clause-through c =
    let r = c.requires in
    (r.0, r.2, r.3, r.4, (rw c.in-Armored.is at r.5).2)

pub returns-in_ok-found-in-Armored-clause-passed : goal.returns-in_ok-found-in-Armored-clause-passed
returns-in_ok-found-in-Armored-clause-passed c =
    let r = c.in_ok-found-in-Armored.ensures in (
      r.through.0,
      r.through.1,
      λ accepts mode limits input items p.
          text_passed accepts mode limits c.in-Armored.text c.step.new.self c.args.framer.now c.step.new.framer input c.args.piece.now items r.through.0 c.in_ok-found-in-Armored.found r.moves r.through.2 (rw c.in-Armored.is at p),
    )

pub returns-in_ok-found-in-Binary-clause-passed : goal.returns-in_ok-found-in-Binary-clause-passed
returns-in_ok-found-in-Binary-clause-passed c =
    let r = c.in_ok-found-in-Binary.ensures in
    let piece = c.args.piece.now in (
      r.framed.0,
      subst (λ (f : Front). FindsIn c.in_ok-found-in-Binary.found c.frame.new.framer (octets_of f piece) r.framed.0) (sym c.in-Binary.is) r.framed.1,
      λ accepts mode limits input items p.
          rw c.in-Binary.is
          (binary_passed accepts mode limits c.args.framer.now c.frame.new.framer input piece items r.framed.0 c.in_ok-found-in-Binary.found r.within r.framed.2 (rw c.in-Binary.is at p)),
    )
