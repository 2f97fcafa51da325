use Rattle.std.proofs.Common.{List}
use Rattle.opgp_codec.specs.Draft.{DraftHas}
use Rattle.opgp_report.specs.Asked.{Asked}
use Rattle.opgp_report.specs.Standing.{standing_in}
use Rattle.opgp_stack.specs.AllOctets.{HasRows}
use Rattle.opgp_stack.specs.declared.all_octets.AllOctets.{AllOctets}
use Rattle.opgp_stack.proofs.AllRows.{all_shown}
use Rattle.opgp_stack.proofs.all_octets.AllOctets.add_ring.Goals as goal

pub returns : goal.returns
returns g c asked h = all_shown (λ (k : AllOctets g.row.S.Denot) (asked : List Asked). HasRows (DraftHas g.S.Spool.serves g.S.Spool.tells g.S.Spool.holds g.S.Spool.has_failed) k.rows k.draft asked) c.args.self.now c.visit.new.visitor (standing_in c.args.ring.now) asked c.in_ok-visit.ensures h
