-- What becomes of a visitor that is shown a list, part by part, and may stop. A relation says it of
-- whole lists: its state after a list, or what it stops with.
use Rattle.std.specs.Prelude.{List, [], ◌++◌, Result, Ok, Err}

-- What the rest makes of the new visitor, all of it makes of the old one, whatever follows.
abbrev pub Leaves : {V S E : Type 0} → (V → List S → Result V E → Type 0) → V → List S → V
    → List S → Type 0
Leaves {V} {S} {E} becomes old all new rest = (more : List S) (end : Result V E)
    → becomes new (rest ++ more) end → becomes old (all ++ more) end

-- This part turns the old visitor into the new one; or it has stopped, whatever follows.
abbrev pub Shown : {V S E A : Type 0} → (V → List S → Result V E → Type 0) → V → List S
    → Result A E → V → Type 0
Shown becomes old part (Ok done) new = Leaves becomes old part new []
Shown {V} {S} becomes old part (Err stop) new =
    (more : List S) → becomes old (part ++ more) (Err stop)
