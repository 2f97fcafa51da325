use Rattle.std.proofs.Common.{refl}
use Rattle.opgp_armor.proofs.Feeding.{none_of}
use Rattle.opgp_armor.proofs.Pushing.{pushed_none, pushed_more}
use Rattle.opgp_armor.proofs.reader.Dearmor.push.Goals as goal

pub parts-init : goal.parts-init
parts-init c = pushed_none c.args.self.now c.args.piece.now c.if-self.false c.requires.«open» (none_of c.args.self.now.ready _ refl c.requires.free)

pub parts-preserved : goal.parts-preserved
parts-preserved c =
    let e = c.in-Ok.ensures in
    pushed_more c.args.self.now c.parts.self c.part.new.self c.args.piece.now c.parts.taken c.in-Ok.n c.parts.invariant e.moves.0 e.moves.1 e.count e.spent e.«open» e.rule e.fed
    (λ f is. let s = e.faulty f is in (s.1, s.2)) e.quiet e.spare
