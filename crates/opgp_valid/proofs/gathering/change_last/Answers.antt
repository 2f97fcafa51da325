use Rattle.std.proofs.Common.{rules}
use Rattle.opgp_valid.specs.Told.{with_back}
use Rattle.opgp_valid.proofs.Changing.{last_changed}
use Rattle.opgp_valid.proofs.gathering.change_last.Goals as goal

pub returns-in_ok-push : goal.returns-in_ok-push
returns-in_ok-push c = rw (c.in-Some.ensures.items, last_changed (with_back c.args.place c.args.life) c.pop.new.self.items c.in-Some.last) (search rules)
