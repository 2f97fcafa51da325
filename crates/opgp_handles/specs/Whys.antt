-- The names of the reasons why a key, or a signature over a document, isn't believed, and the table
-- of names that has them.
use Rattle.std.specs.Prelude.{ℕ, ◌==◌, if◌then◌else◌, List, [], ◌∷◌, Option, Some, None}
use Rattle.opgp_octets.specs.Rows.{with_number}
use Rattle.opgp_tables.specs.Names.{table_of}
use Rattle.opgp_valid.specs.FlawText.{flaw_text}
use Rattle.opgp_valid.specs.Why.{why_text}
use Rattle.opgp_valid.specs.declared.believing.Flaw.TheVariants as flaw
use Rattle.opgp_valid.specs.declared.why.Why.TheVariants as why
use Rattle.opgp_handles.specs.Calls.{name_by}
use Rattle.opgp_handles.specs.Standings.{flaw_number, why_number}

-- each number with the name of what has it
abbrev pub unbelieved_rows : List (ℕ × List ℕ)
unbelieved_rows =
    (why_number why.Future, why_text why.Future) ∷ (why_number why.Revoked, why_text why.Revoked)
    ∷ (why_number why.Early, why_text why.Early) ∷ (why_number why.Unbound, why_text why.Unbound)
    ∷ (why_number why.Expired, why_text why.Expired) ∷ (why_number why.Flags, why_text why.Flags)
    ∷ (why_number why.Back, why_text why.Back) ∷ (flaw_number flaw.Kind, flaw_text flaw.Kind)
    ∷ (flaw_number flaw.Critical, flaw_text flaw.Critical)
    ∷ (flaw_number flaw.Weak, flaw_text flaw.Weak)
    ∷ (flaw_number flaw.Time, flaw_text flaw.Time)
    ∷ (flaw_number flaw.Lapsed, flaw_text flaw.Lapsed)
    ∷ (flaw_number flaw.Issuer, flaw_text flaw.Issuer) ∷ []

abbrev pub name_of_row : Option (ℕ × List ℕ) → Option (List ℕ)
name_of_row (Some row) = Some row.1
name_of_row None = None

unfoldable pub unbelieved_name : ℕ → Option (List ℕ)
unbelieved_name n = name_of_row (with_number (λ row. row.0) n unbelieved_rows)

-- the name that the table of this number has for a number: table 8 is the one of these reasons
abbrev pub named : ℕ → ℕ → Option (List ℕ)
named table number =
    if table == 8 then unbelieved_name number else name_by (table_of table) number
