-- The state of the maker of rows, and the rows that it adds.
use Rattle.std.specs.Prelude.{◌≡◌, ℕ, ⊤, List, ◌++◌, map, Result, Ok, Err}
use Rattle.opgp_report.specs.declared.reporter.Reporter.{Reporter}
use Rattle.opgp_report.specs.Report.{Says, row_of}
use Rattle.opgp_report.specs.Row.{row_value}
use Rattle.opgp_report.specs.Signers.{signers_keys}
use Rattle.opgp_report.specs.Standing.{Standing}

-- the bodies of the keys that may be signers
abbrev pub reporter_keys : {V : Type 0} → Reporter V → List (List ℕ)
reporter_keys a = signers_keys a.signers

-- a row is added for each signature that it visits, unless memory runs out
abbrev pub AddsRows : {V E : Type 0} → (V → Says) → Reporter V → List Standing
    → Result (Reporter V) E → Type 0
AddsRows says a list (Ok b) = map row_value b.rows.items
    ≡ map row_value a.rows.items ++ map (row_of (says a.verifier.now) (reporter_keys a)) list
AddsRows says a list (Err refusal) = ⊤
