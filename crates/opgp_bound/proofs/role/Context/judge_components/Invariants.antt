use Rattle.std.proofs.Common.{◌≡◌, ◌++◌, drop, length}
use Rattle.opgp_packet.specs.Parsed.{body_octets}
use Rattle.opgp_keyring.specs.Grouped.{components_left}
use Rattle.opgp_report.specs.KeyIndex.{prints_shown}
use Rattle.opgp_valid.specs.KnownKeys.{knowns}
use Rattle.opgp_bound.specs.Judged.{components_rows, judged_components}
use Rattle.opgp_bound.proofs.role.Context.judge_components.Given as goal

abbrev pub invariant-components : goal.invariant-components
invariant-components l = record {
  judged : l.all.items ++ judged_components (knowns l.fn.self.known.now) l.fn.self.primary (prints_shown l.fn.self.issuers.now) (body_octets l.fn.primary) (components_left l.components) l.rest
      ≡ judged_components (knowns l.fn.self.known.now) l.fn.self.primary (prints_shown l.fn.self.issuers.now) (body_octets l.fn.primary) (components_left l.fn.components) l.fn.verdicts;
  rows : drop (components_rows (body_octets l.fn.primary) (components_left l.components)) l.rest ≡ drop (components_rows (body_octets l.fn.primary) (components_left l.fn.components)) l.fn.verdicts;
}

abbrev pub decreases-components : goal.decreases-components
decreases-components l = length (components_left l.components)
