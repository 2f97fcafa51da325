-- What a sink in memory holds.
use Rattle.std.specs.Prelude.{ℕ, Bool, List, ◌++◌}
use Rattle.std.specs.Global.{Vec}
use Rattle.std.specs.List.{flat_map}
use Rattle.opgp_io.specs.declared.held.Held.{Held}

-- its pieces, one after the other
abbrev pub pieces_octets : List (Vec ℕ) → List ℕ
pieces_octets pieces = flat_map (λ piece. piece.items) pieces

abbrev pub held_octets : Held → List ℕ
held_octets h = pieces_octets h.full.items ++ h.last.items

-- memory ran out in some call
abbrev pub held_failed : Held → Bool
held_failed h = h.has_failed
