use Rattle.std.proofs.Common.{length}
use Rattle.opgp.specs.Ring.Grouped.{components_left}
use Rattle.opgp_examples.proofs.certificates.show_certificate.Given as goal

abbrev pub decreases-components : goal.decreases-components
decreases-components g l = length (components_left l.components)
