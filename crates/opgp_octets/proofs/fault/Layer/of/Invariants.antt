use Rattle.std.proofs.Common.{◌≡◌, drop}
use Rattle.opgp_octets.specs.Fault.{layer_number, layer_of}
use Rattle.opgp_octets.specs.Rows.{with_number}
use Rattle.opgp_octets.specs.declared.fault.TheConstants.Layer.{ALL}
use Rattle.opgp_octets.proofs.fault.Layer.of.Given as goal

abbrev pub invariant-loop-layer : goal.invariant-loop-layer
invariant-loop-layer l = with_number layer_number l.number (drop l.layer-index ALL) ≡ layer_of l.number
