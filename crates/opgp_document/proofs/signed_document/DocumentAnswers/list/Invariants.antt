use Rattle.std.proofs.Common.{◌≡◌, map, take}
use Rattle.opgp_document.specs.declared.place.Place.{Place}
use Rattle.opgp_document.proofs.signed_document.DocumentAnswers.list.Given as goal

-- those of the first places were found
abbrev pub invariant-loop-place : goal.invariant-loop-place
invariant-loop-place l = l.found.items ≡ map (λ (p : Place). p.answer) (take l.place-index l.self.places.items)
