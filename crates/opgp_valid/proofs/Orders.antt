-- A standing rests on what is said, and neither on the order in which it is said, nor on how often.
use Rattle.std.proofs.Common.{◌≡◌, ℕ}
use Rattle.std.specs.List.Sorted.{IsPermutation}
use Rattle.std.proofs.lemmas.List.Sorted.{Contains-permutation, IsPermutation-sym}
use Rattle.opgp_valid.specs.Laws.{IsAmong}
use Rattle.opgp_valid.specs.Standing.{standing_of}
use Rattle.opgp_valid.specs.Facts.{FactsValue}
use Rattle.opgp_valid.specs.declared.facts.Key.{Key}
use Rattle.opgp_valid.proofs.Alike.{alike_from_among, stands_same}

pub same_members : (f g : FactsValue) (k : Key) (made now : ℕ) → f.version ≡ g.version → f.created ≡ g.created → IsAmong f.statements g.statements → IsAmong g.statements f.statements → standing_of f k made now ≡ standing_of g k made now
same_members f g k made now v c x y = stands_same f g v c (alike_from_among f.statements g.statements x y) k made now

pub same_order : (f g : FactsValue) (k : Key) (made now : ℕ) → f.version ≡ g.version → f.created ≡ g.created → IsPermutation f.statements g.statements → standing_of f k made now ≡ standing_of g k made now
same_order f g k made now v c p = same_members f g k made now v c
    (λ s. Contains-permutation f.statements g.statements s p)
    (λ s. Contains-permutation g.statements f.statements s (IsPermutation-sym f.statements g.statements p))
