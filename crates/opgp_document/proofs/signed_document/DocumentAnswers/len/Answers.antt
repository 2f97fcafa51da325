use Rattle.std.proofs.Common.{arith, Option}
use Rattle.opgp_hash.specs.SignedValue.{SignedValue}
use Rattle.opgp_document.specs.Place.{IsEnded}
use Rattle.opgp_document.specs.declared.place.Place.{Place}
use Rattle.opgp_document.proofs.Pairs.{as_long}
use Rattle.opgp_document.proofs.signed_document.DocumentAnswers.len.Goals as goal

pub returns : goal.returns
returns c = λ ss d over.
    let same = as_long (λ (p : Place) (s : Option SignedValue). IsEnded p s d) c.args.self.now.places.items ss over in
    omega (arith, c.len.ensures, same)
