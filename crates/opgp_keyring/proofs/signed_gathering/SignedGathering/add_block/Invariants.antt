use Rattle.std.proofs.Common.{List, ◌∷◌, ◌++◌, map}
use Rattle.opgp_octets.specs.declared.malformed.Malformed.{Malformed}
use Rattle.opgp_keyring.specs.Composition.{Item, of_label, of_packet}
use Rattle.opgp_keyring.specs.SignedGathering.{GathersSigned}
use Rattle.opgp_keyring.proofs.signed_gathering.SignedGathering.add_block.Given as goal

-- the label and the packets so far were added
abbrev pub invariant-loop-placed : goal.invariant-loop-placed
invariant-loop-placed l =
    (policy : Malformed) (given : List Item) → GathersSigned policy l.fn.self given → GathersSigned policy l.self (given ++ of_label l.fn.block.block l.fn.block.label_fits ∷ map of_packet l.yielded)
