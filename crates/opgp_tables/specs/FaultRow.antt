-- A fault as numbers.
use Rattle.std.specs.Prelude.{Option, Some, None, replicate}
use Rattle.opgp_octets.specs.declared.fault.Fault.{Fault}
use Rattle.opgp_octets.specs.declared.fault.Layer.{Layer}
use Rattle.opgp_octets.specs.declared.fault.Reason.{Reason}
use Rattle.opgp_octets.specs.Fault.{layer_number, layer_of, reason_number, reason_of}
use Rattle.opgp_tables.specs.declared.fault_row.FaultRow.{FaultRow}

abbrev pub fault_row : Fault → FaultRow
fault_row f = record {
  block = f.block;
  pos = f.pos;
  inner = f.inner;
  layer = layer_number f.layer;
  reason = reason_number f.reason;
  reserved = replicate 6 0;
}

-- ---- the fault that the numbers of a row stand for
-- with these in the place of its numbers
abbrev pub fault_with : FaultRow → Option Layer → Option Reason → Option Fault
fault_with row (Some layer) (Some reason) = Some record {
  layer = layer;
  reason = reason;
  block = row.block;
  pos = row.pos;
  inner = row.inner;
}
fault_with row (Some layer) None = None
fault_with row None reason = None

-- None if no layer, or no reason, has the row's number
abbrev pub fault_of : FaultRow → Option Fault
fault_of row = fault_with row (layer_of row.layer) (reason_of row.reason)
