use Rattle.std.proofs.Common.{◌≡◌, ◌+◌, length, map}
use Rattle.opgp_io.proofs.Extended.{ExtendsAllBut}
use Rattle.opgp_state.specs.StateLines.{lines_from}
use Rattle.opgp_state.proofs.state_lines.add_certificates.Given as goal

-- all lines are added but those of the certificates that are left
abbrev pub invariant-certificates : goal.invariant-certificates
invariant-certificates g l = record {
  but : ExtendsAllBut g.W.Sink.held g.W.Sink.has_failed l.fn.output l.output
      (lines_from l.basis l.values l.number l.rest (map (λ parts. parts.items) l.left) (map (λ parts. parts.items) l.whys))
      (lines_from l.basis l.values 0 l.fn.certificates (map (λ parts. parts.items) l.fn.states) (map (λ parts. parts.items) l.fn.causes));
  count : l.number + length l.rest ≡ length l.fn.certificates;
}

abbrev pub decreases-certificates : goal.decreases-certificates
decreases-certificates g l = length l.rest
