-- The visitor that gathers the keys that made the revocations of a keyring.
use Rattle.std.specs.Prelude.{◌≡◌, ⊤, List, ◌++◌, Result, Ok, Err}
use Rattle.std.specs.List.{flat_map}
use Rattle.opgp_report.specs.Standing.{Standing}
use Rattle.opgp_valid.specs.KnownKeys.{knowns}
use Rattle.opgp_valid.specs.Told.{with_verdicts}
use Rattle.opgp_bound.specs.Issuers.{issuer_at}
use Rattle.opgp_bound.specs.declared.issuers.Issuers.{Issuers}

-- the issuers of the good revocations among a list of signatures are added, unless memory runs out
abbrev pub GathersIssuers : {E : Type 0} → Issuers → List Standing → Result Issuers E → Type 0
GathersIssuers a list (Ok b) = b.prints.items ≡ a.prints.items
    ++ flat_map (issuer_at (knowns a.known.now)) (with_verdicts a.verdicts.now list)
GathersIssuers a list (Err refusal) = ⊤
