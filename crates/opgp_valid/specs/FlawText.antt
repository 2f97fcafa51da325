-- The names of what is wrong with a signature over a document itself.
use Rattle.std.specs.Prelude.{ℕ, List, codes}
use Rattle.opgp_valid.specs.declared.believing.Flaw.{Flaw}
use Rattle.opgp_valid.specs.declared.believing.Flaw.TheVariants.{Kind, Issuer, Critical, Weak}
use Rattle.opgp_valid.specs.declared.believing.Flaw.TheVariants.{Time, Lapsed}

abbrev pub flaw_text : Flaw → List ℕ
flaw_text Kind = codes "type"
flaw_text Issuer = codes "issuer"
flaw_text Critical = codes "critical"
flaw_text Weak = codes "weak"
flaw_text Time = codes "time"
flaw_text Lapsed = codes "lapsed"
