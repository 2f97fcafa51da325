use Rattle.opgp_codec.specs.Keyrings.{ComposesTo, key_label}
use Rattle.opgp_codec.proofs.SomeAnswer.{some_answer, some_ring}
use Rattle.opgp_codec.proofs.laws.some_answer.Goals as goal

pub returns : goal.returns
returns c mode limits = some_answer limits key_label (ComposesTo limits) (some_ring c.some_answer.ensures limits) c.layers_answer.ensures mode
