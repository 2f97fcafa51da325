use Rattle.std.proofs.Common.{◌≡◌, ◌+◌, length}
use Rattle.opgp_keyring.specs.Grouped.{components_left}
use Rattle.opgp_io.proofs.Extended.{ExtendsAllBut}
use Rattle.opgp_state.specs.StateLines.{component_lines}
use Rattle.opgp_state.proofs.state_lines.add_components.Given as goal

-- all lines are added but those of the components that are left
abbrev pub invariant-states : goal.invariant-states
invariant-states g l = record {
  but : ExtendsAllBut g.W.Sink.held g.W.Sink.has_failed l.fn.output l.output (component_lines l.basis l.values l.certificate l.number (components_left l.components) l.rest l.left)
      (component_lines l.basis l.values l.certificate 0 (components_left l.initial.components) l.fn.states l.fn.causes);
  count : l.number + length l.rest ≡ length l.fn.states;
}

abbrev pub decreases-states : goal.decreases-states
decreases-states g l = length l.rest
