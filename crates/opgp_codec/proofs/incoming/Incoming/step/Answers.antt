use Rattle.std.proofs.Common.{arith, ◌∙◌}
use Rattle.opgp_codec.proofs.Coming.{alone_after}
use Rattle.opgp_codec.proofs.incoming.Incoming.step.Goals as goal

pub find-requires : goal.find-requires
find-requires g c =
    let r = c.requires.came in
    (r.0, r.1, r.2, r.3, _, r.4, c.pulls.invariant.came r.0 r.1 r.2 r.3 r.4 r.5)

pub pull-requires-clause-within : goal.pull-requires-clause-within
pull-requires-clause-within g c =
    let r = c.requires.came in
    let came = c.pulls.invariant.came r.0 r.1 r.2 r.3 r.4 r.5 in
    omega (arith, came.within, c.find.ensures.count, c.find.ensures.limit)

pub pull-requires-clause-over : goal.pull-requires-clause-over
pull-requires-clause-over g c =
    let r = c.requires.came in
    let came = c.in_ok-find.ensures.came.2 r.0 r.1 r.2 r.3 _ r.4 (c.pulls.invariant.came r.0 r.1 r.2 r.3 r.4 r.5) in
    came.over

pub returns-clause-came : goal.returns-clause-came
returns-clause-came g c =
    let s = c.in_ok-find.ensures.came in
    (s.0, rw c.if-not-branch.false at s.1, λ accepts mode limits before items came. s.2 accepts mode limits before _ items (c.pulls.invariant.came accepts mode limits before items came))

pub returns-in_err-find-clause-alone : goal.returns-in_err-find-clause-alone
returns-in_err-find-clause-alone g c h =
    let a = c.pulls.invariant.alone h in (c.find.ensures.same ∙ a.0, a.1)

pub returns-in_err-pull-clause-alone : goal.returns-in_err-pull-clause-alone
returns-in_err-pull-clause-alone g c = alone_after c.args.self.now c.pulls.self c.find.new.self c.pull.new.self c.args.source.now c.pulls.source c.pull.new.source c.pulls.invariant.alone c.find.ensures.same c.pull.ensures.alone

pub returns-then-not-branch-2-clause-alone : goal.returns-then-not-branch-2-clause-alone
returns-then-not-branch-2-clause-alone g c = alone_after c.args.self.now c.pulls.self c.find.new.self c.pull.new.self c.args.source.now c.pulls.source c.pull.new.source c.pulls.invariant.alone c.find.ensures.same c.pull.ensures.alone

pub returns-clause-alone : goal.returns-clause-alone
returns-clause-alone g c h =
    let a = c.pulls.invariant.alone h in (c.find.ensures.same ∙ a.0, a.1)
