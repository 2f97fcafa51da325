-- What a step over octets has found.
use Rattle.std.specs.Prelude.{◌≡◌, ℕ, Bool, true, false, List, [], ◌∷◌, Option, Some, None}
use Rattle.opgp_frame.specs.Spot.{LiesIn}
use Rattle.opgp_frame.specs.declared.packet.Placed.{Placed}
use Rattle.opgp_keyring.specs.Composition.{Item, of_label}
use Rattle.opgp_codec.specs.declared.found.Found.{Found}
use Rattle.opgp_codec.specs.declared.found.Found.TheVariants.{Lent, Nothing, Whole}
use Rattle.opgp_codec.specs.declared.found.Opening.{Opening}

-- the label of the block that begins, where one does
abbrev pub opened : Option Opening → List Item
opened None = []
opened (Some o) = of_label o.number o.fits ∷ []

-- the packet that was found in these octets, where one was
abbrev pub IsFound : Found → List ℕ → List Placed → Type 0
IsFound Nothing octets packets = packets ≡ []
IsFound (Lent spot) octets packets = (p : Placed) × LiesIn spot octets p × (packets ≡ p ∷ [])
IsFound (Whole p) octets packets = packets ≡ p ∷ []

-- the packet that is handed out by value, where one is
abbrev pub handed : Option Placed → List Placed
handed None = []
handed (Some p) = p ∷ []

-- none was
abbrev pub is_nothing : Found → Bool
is_nothing Nothing = true
is_nothing (Lent spot) = false
is_nothing (Whole p) = false
