-- Reading from lists of octets, where there may be no value.
use Rattle.std.specs.Prelude.{◌≡◌, ℕ, ◌-◌, List, length, take, drop, Option, Some, None, nat_lt}
use Rattle.std.specs.Prelude.{if◌then◌else◌}

infixl 10 ◌>>=◌
abbrev pub ◌>>=◌ : {A B : Type 0} → Option A → (A → Option B) → Option B
(Some x) >>= f = f x
None >>= f = None

-- what a function returned, seen by view, is what reading gives
abbrev pub Gives : {X Y : Type 0} → (X → Y) → Option X → Option Y → Type 0
Gives view (Some x) read = read ≡ Some (view x)
Gives view None read = read ≡ None

-- the given number of octets from the front, and the others; the same from the end
unfoldable pub front_at : ℕ → List ℕ → Option (List ℕ × List ℕ)
front_at n o = if nat_lt (length o) n then None else Some (take n o, drop n o)

unfoldable pub end_at : ℕ → List ℕ → Option (List ℕ × List ℕ)
end_at n o =
    if nat_lt (length o) n then None else Some (take (length o - n) o, drop (length o - n) o)
