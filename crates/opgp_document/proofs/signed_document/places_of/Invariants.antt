use Rattle.std.proofs.Common.{[], map, take, Option}
use Rattle.std.specs.List.{AllZip}
use Rattle.opgp_hash.specs.SignedValue.{SignedValue}
use Rattle.opgp_document.specs.Answer.{asked_of}
use Rattle.opgp_document.specs.Place.{IsPlace}
use Rattle.opgp_document.specs.declared.place.Place.{Place}
use Rattle.opgp_document.proofs.signed_document.places_of.Given as goal

abbrev pub invariant-loop-signature : goal.invariant-loop-signature
invariant-loop-signature l = AllZip (λ (p : Place) (s : Option SignedValue). IsPlace p s []) l.places.items (map asked_of (take l.signature-index l.signatures))
