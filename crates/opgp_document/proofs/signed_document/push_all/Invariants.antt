use Rattle.std.proofs.Common.{length, ◌-◌, ◌≡◌, ◌++◌, ℕ, List, Option}
use Rattle.std.specs.List.{AllZip}
use Rattle.opgp_hash.specs.SignedValue.{SignedValue}
use Rattle.opgp_document.specs.Place.{IsPlace}
use Rattle.opgp_document.specs.declared.place.Place.{Place}
use Rattle.opgp_document.proofs.Pairs.{Mixed}
use Rattle.opgp_document.proofs.signed_document.push_all.Given as goal

-- the places so far have the piece
abbrev pub invariant-places : goal.invariant-places
invariant-places l = (length l.places ≡ length l.fn.places)
    × ((signatures : List (Option SignedValue)) (document : List ℕ) → AllZip (λ (p : Place) (s : Option SignedValue). IsPlace p s document) l.fn.places signatures
    → Mixed (λ (p : Place) (s : Option SignedValue). IsPlace p s (document ++ l.piece)) (λ (p : Place) (s : Option SignedValue). IsPlace p s document) l.next l.places signatures)

abbrev pub decreases-places : goal.decreases-places
decreases-places l = length l.initial.places - l.next
