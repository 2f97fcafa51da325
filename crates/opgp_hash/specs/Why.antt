-- The names of the reasons why a signature isn't hashed.
use Rattle.std.specs.Prelude.{ℕ, List, codes}
use Rattle.opgp_hash.specs.declared.why.Why.{Why}
use Rattle.opgp_hash.specs.declared.why.Why.TheVariants.{Opaque, Kind, Misplaced, Version, Hash}

abbrev pub why_text : Why → List ℕ
why_text Opaque = codes "opaque"
why_text Kind = codes "kind"
why_text Misplaced = codes "misplaced"
why_text Version = codes "version"
why_text Hash = codes "hash"
