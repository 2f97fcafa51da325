-- The results of a parser that allocates.
use Rattle.std.specs.Prelude.{◌≡◌, Result, Ok, Err}
use Rattle.opgp_octets.specs.declared.fault.BodyFault.{BodyFault}
use Rattle.opgp_octets.specs.declared.refusal.ParseFault.{ParseFault}
use Rattle.opgp_octets.specs.declared.refusal.ParseFault.TheVariants as fault

-- the refusal is that of reading; running out of memory says nothing of the octets
abbrev pub Refuses : {Y : Type 0} → ParseFault → Result Y BodyFault → Type 0
Refuses fault.Memory read = Unit {0}
Refuses (fault.Body f) read = read ≡ Err f

-- The result is that of reading, unless memory ran out.
abbrev pub Parses : {X Y : Type 0} → (X → Y) → Result X ParseFault → Result Y BodyFault → Type 0
Parses view (Ok x) read = read ≡ Ok (view x)
Parses view (Err e) read = Refuses e read

-- the body's fault is one of these; running out of memory says nothing of the octets
abbrev pub RefusedBy : (BodyFault → Type 0) → ParseFault → Type 0
RefusedBy P fault.Memory = Unit {0}
RefusedBy P (fault.Body f) = P f
