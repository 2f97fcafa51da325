-- A source of which it is counted how much was passed over.
use Rattle.opgp_handles.specs.declared.counted.Counted.{Counted}

-- the source that is read
abbrev pub source_of : {R : Type 0} → Counted R → R
source_of c = c.source
