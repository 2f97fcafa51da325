use Rattle.opgp_codec.specs.Keyrings.{ComposesTo, key_label}
use Rattle.opgp_codec.proofs.OneAnswer.{one_answer}
use Rattle.opgp_codec.proofs.OneTop.{one_ring}
use Rattle.opgp_codec.proofs.laws.one_answer.Goals as goal

pub returns : goal.returns
returns c mode limits = one_answer key_label (ComposesTo limits) (one_ring (record { ring = c.one_keyring.ensures; fault = c.one_fault.ensures; no_fault = c.no_fault.ensures }) limits) c.layers_are_one.ensures mode limits
