use Rattle.std.proofs.Common.{◌≡◌, ◌++◌, List, map, false}
use Rattle.opgp_keyring.specs.Block.{items_of}
use Rattle.opgp_keyring.specs.Composition.{Item, of_packet}
use Rattle.opgp_keyring.specs.Fed.{is_ready}
use Rattle.opgp_keyring.specs.Gathering.{Gathers}
use Rattle.opgp_keyring.proofs.composing.compose.Given as goal

-- the blocks so far were added
abbrev pub invariant-loop-block : goal.invariant-loop-block
invariant-loop-block l = Gathers l.limits l.composer l.ring (items_of l.yielded)

-- behind whatever was added before the packets, those so far were added
abbrev pub invariant-loop-placed : goal.invariant-loop-placed
invariant-loop-placed l = record {
  free : is_ready l.composer ≡ false;
  added : (given : List Item) → Gathers l.limits l.initial.composer l.initial.ring given → Gathers l.limits l.composer l.ring (given ++ map of_packet l.yielded);
}
