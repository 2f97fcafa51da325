use Rattle.opgp_document.proofs.Stray.{either, exact, no_text, one_place}
use Rattle.opgp_document.proofs.laws.stray_place.Goals as goal

pub returns : goal.returns
returns c = record {
  either = λ d. either d;
  no_text = λ d text n w t. no_text d text n w t;
  one = λ d a b w v. one_place d a b w v;
  exact = λ d pos h w. exact d pos h w;
}
