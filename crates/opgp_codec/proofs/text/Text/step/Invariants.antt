use Rattle.std.proofs.Common.{◌≡◌, ◌+◌, ◌-◌, ◌≤◌, ◌++◌, ℕ, List, length, take}
use Rattle.opgp_octets.specs.declared.limits.Limits.{Limits}
use Rattle.opgp_keyring.specs.Composition.{Item}
use Rattle.opgp_codec.specs.declared.accepts.Accepts.{Accepts}
use Rattle.opgp_codec.specs.Text.{Through, count_of, IsDrained}
use Rattle.opgp_codec.proofs.text.Text.step.Given as goal

-- the octets before `taken` are through
abbrev pub invariant-fills : goal.invariant-fills
invariant-fills l = record {
  within : l.taken ≤ length l.piece;
  drained : IsDrained l.self;
  through : (accepts : Accepts) (limits : Limits) (input : List ℕ) (items : List Item) → Through accepts limits l.fn.self l.fn.framer input items → Through accepts limits l.self l.framer (input ++ take l.taken l.piece) items;
  count : count_of l.self ≡ count_of l.fn.self + l.taken;
}

abbrev pub decreases-fills : goal.decreases-fills
decreases-fills l = length l.piece - l.taken
