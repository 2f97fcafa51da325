-- The texts of the faults that keep a document from being begun.
use Rattle.std.specs.Prelude.{ℕ, List, codes}
use Rattle.opgp_document.specs.declared.open_fault.OpenFault.{OpenFault}
use Rattle.opgp_document.specs.declared.open_fault.OpenFault.TheVariants.{TooManySignatures, Memory}

abbrev pub open_fault_text : OpenFault → List ℕ
open_fault_text TooManySignatures = codes "too many signatures"
open_fault_text Memory = codes "out of memory"
