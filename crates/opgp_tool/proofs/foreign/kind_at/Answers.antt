use Rattle.std.proofs.Common.{◌++◌, []}
use Rattle.opgp_tool.proofs.foreign.kind_at.Goals as goal

pub packets-init : goal.packets-init
packets-init g c = (c.requires.sound, [], c.requires.came.0, c.requires.came.1, c.requires.came.2, c.requires.came.3)

pub next-requires-clause-came : goal.next-requires-clause-came
next-requires-clause-came g c =
    let so_far = c.packets.invariant in
    (so_far.2, so_far.3, so_far.4, so_far.1, so_far.5)

pub packets-preserved : goal.packets-preserved
packets-preserved g c =
    let so_far = c.packets.invariant in
    let found = c.in_ok-next.ensures.came in (
      c.in_ok-next.ensures.sound,
      so_far.1 ++ found.0,
      so_far.2,
      so_far.3,
      so_far.4,
      found.2 so_far.2 so_far.3 so_far.4 so_far.1 so_far.5,
    )
