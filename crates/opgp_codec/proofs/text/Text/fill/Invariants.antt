use Rattle.std.proofs.Common.{◌≡◌, ◌+◌, ◌-◌, ◌≤◌, ◌<◌, ◌++◌, ℕ, List, length, take}
use Rattle.opgp_octets.specs.declared.limits.Limits.{Limits}
use Rattle.opgp_keyring.specs.Composition.{Item}
use Rattle.opgp_codec.specs.declared.accepts.Accepts.{Accepts}
use Rattle.opgp_codec.specs.declared.blocks.Blocks.{Blocks}
use Rattle.opgp_codec.specs.Text.{Through, count_of}
use Rattle.opgp_codec.proofs.text.Text.fill.Given as goal

-- the lines before `taken` were taken
abbrev pub invariant-lines : goal.invariant-lines
invariant-lines l = record {
  some : 0 < l.taken;
  within : l.taken ≤ length l.piece;
  through : (accepts : Accepts) (limits : Limits) (f : Blocks) (input : List ℕ) (items : List Item) → Through accepts limits l.fn.self f input items → Through accepts limits l.self f (input ++ take l.taken l.piece) items;
  count : count_of l.self ≡ count_of l.fn.self + l.taken;
}

abbrev pub decreases-lines : goal.decreases-lines
decreases-lines l = length l.piece - l.taken
