use Rattle.opgp_codec.specs.Draft.{DraftHas}
use Rattle.opgp_stack.proofs.CanonicalText.{stray_told}
use Rattle.opgp_stack.proofs.canonical.TextDraft.finish.Goals as goal

pub returns-in-Some : goal.returns-in-Some
returns-in-Some g c document h = (c.in-Some.pos, stray_told (DraftHas g.S.Spool.serves g.S.Spool.tells g.S.Spool.holds g.S.Spool.has_failed) c.args.self c.args.self.stray c.in-Some.pos document c.in-Some.is h, c.fault.ensures)
