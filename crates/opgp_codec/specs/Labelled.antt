-- The labels and packets that an input has.
use Rattle.std.specs.Prelude.{◌≡◌, ◌<◌, ◌^◌, List, [], ◌∷◌}
use Rattle.opgp_keyring.specs.Composition.{Item, of_label, of_packet}
use Rattle.opgp_keyring.specs.Signed.{end_pos}

-- what comes from the first label on
abbrev pub from_label : List Item → List Item
from_label [] = []
from_label (of_label block fits ∷ items) = of_label block fits ∷ items
from_label (of_packet p ∷ items) = from_label items

-- An input has labels and packets so: no packet comes before a label, and the end of the last block
-- fits 64 bits.
pub record AreRead (items : List Item) : Type 0 where
  pub labelled : from_label items ≡ items
  pub ends : end_pos items < 2 ^ 64
