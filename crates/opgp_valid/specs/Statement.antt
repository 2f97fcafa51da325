-- What a signature of a certificate says at a time.
use Rattle.std.specs.Prelude.{ℕ, ◌+◌, nat_le, nat_lt, Bool, false, ◌&&◌, ◌||◌, ◌==◌}
use Rattle.std.specs.Prelude.{if◌then◌else◌, Option, Some, None, is_none}
use Rattle.opgp_valid.specs.declared.statement.Life.{Life}
use Rattle.opgp_valid.specs.declared.statement.Statement.{Statement}

-- a time isn't before a signature was made (RFC 9580, 5.2.3.11), and it hasn't expired by then
-- (5.2.3.18)
abbrev pub lives : ℕ → Life → Bool
lives at life = nat_le life.made at && ((life.lasts == 0) || nat_lt at (life.made + life.lasts))

abbrev pub lives_if : ℕ → Option Life → Bool
lives_if at None = false
lives_if at (Some life) = lives at life

-- nothing is in doubt of it
abbrev pub is_good : Statement → Bool
is_good s = is_none s.doubt

-- it counts at a time
abbrev pub is_alive : ℕ → Statement → Bool
is_alive at s = lives_if at s.life

-- so does the signature by the subkey that is embedded in it (5.2.1.9)
abbrev pub has_back : ℕ → Statement → Bool
has_back at s = lives_if at s.back

-- when it lets a key expire that was created then (5.2.3.13)
abbrev pub end_of : ℕ → Statement → Option ℕ
end_of created s = if s.key_lasts == 0 then None else Some (created + s.key_lasts)
