-- The names of the reasons why a key isn't believed.
use Rattle.std.specs.Prelude.{ℕ, List, codes}
use Rattle.opgp_valid.specs.declared.why.Why.{Why}
use Rattle.opgp_valid.specs.declared.why.Why.TheVariants.{Future, Revoked, Early, Unbound, Expired}
use Rattle.opgp_valid.specs.declared.why.Why.TheVariants.{Flags, Back}

abbrev pub why_text : Why → List ℕ
why_text Future = codes "future"
why_text Revoked = codes "revoked"
why_text Early = codes "early"
why_text Unbound = codes "unbound"
why_text Expired = codes "expired"
why_text Flags = codes "flags"
why_text Back = codes "back"
