-- The body of a user ID (RFC 9580, 5.11): all of it is the user ID.
use Rattle.std.specs.Prelude.{ℕ, List, [], ◌∷◌}
use Rattle.opgp_packet.specs.Fields.{whole, Field, bare, Grammar, sequence, Body}

abbrev pub user_id : Grammar
user_id = sequence (whole ∷ [])

-- the fields that encode it
abbrev pub user_id_fields : List ℕ → List Field
user_id_fields octets = bare octets ∷ []

-- the octets are the user ID's, and nothing more; so there is no fault
abbrev pub SpellsUserId : List ℕ → List ℕ → Type 0
SpellsUserId octets o = Body user_id (user_id_fields octets) o
