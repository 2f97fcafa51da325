use Rattle.std.proofs.Common.{subst, sym, arith, Option}
use Rattle.opgp_hash.specs.SignedValue.{SignedValue}
use Rattle.opgp_document.specs.Answer.{IsAnswer}
use Rattle.opgp_document.specs.Place.{IsEnded}
use Rattle.opgp_document.specs.declared.place.Place.{Place}
use Rattle.opgp_document.proofs.Pairs.{as_long, paired}
use Rattle.opgp_document.proofs.signed_document.DocumentAnswers.get.Goals as goal

pub returns-then-index-len : goal.returns-then-index-len
returns-then-index-len c = λ ss d over.
    let x = paired (λ (p : Place) (s : Option SignedValue). IsEnded p s d) c.args.self.now.places.items ss c.args.index c.index.result.now over (omega arith) c.index.ensures in
    record {
      signature = x.0;
      stands = x.1;
      answers = subst (λ (a : _). IsAnswer x.0 d a) (sym c.answer.ensures) x.2;
    }

pub returns-else-index-len : goal.returns-else-index-len
returns-else-index-len c = λ ss d over.
    let same = as_long (λ (p : Place) (s : Option SignedValue). IsEnded p s d) c.args.self.now.places.items ss over in
    omega (arith, same)
