-- The state of a cursor over a body, and what each of its calls reads.
use Rattle.std.specs.Prelude.{ℕ, List, length, drop, Result}
use Rattle.opgp_octets.specs.declared.fault.BodyFault.{BodyFault}
use Rattle.opgp_octets.specs.Reading.{Reads}
use Rattle.opgp_packet.specs.declared.cursor.Cursor.{Cursor}
use Rattle.opgp_packet.specs.Fields.{Kind, Field, Grammar}
use Rattle.opgp_packet.specs.FieldReading.{step_at, read_at}

-- the body
abbrev pub body_under : Cursor → List ℕ
body_under c = c.body.now

-- how many of its octets were read
abbrev pub place_of : Cursor → ℕ
place_of c = c.at

-- a call's result, as a field, is what reading a field of the kind gives there, or its fault
abbrev pub ReadsField : {X : Type 0} → Kind → (X → Field) → Cursor → Cursor → Result X BodyFault
    → Type 0
ReadsField kind shown old new result =
    Reads (λ x. (shown x, drop (place_of new) (body_under old))) result
    (step_at (length (body_under old)) kind (drop (place_of old) (body_under old)))

-- the same of several fields
abbrev pub ReadsAll : {X : Type 0} → Grammar → (X → List Field) → Cursor → Cursor
    → Result X BodyFault → Type 0
ReadsAll grammar shown old new result =
    Reads (λ x. (shown x, drop (place_of new) (body_under old))) result
    (read_at (length (body_under old)) grammar (drop (place_of old) (body_under old)))
