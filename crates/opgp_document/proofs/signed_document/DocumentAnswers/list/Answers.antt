use Rattle.std.proofs.Common.{◌≡◌, ◌∙◌, ◌++◌, ◌∷◌, [], List, map, take, take_all, get_or, subst, sym, ap, Option, Result}
use Rattle.std.specs.List.{AllZip}
use Rattle.opgp_hash.specs.SignedValue.{SignedValue}
use Rattle.opgp_hash.specs.declared.digests.Digest.{Digest}
use Rattle.opgp_document.specs.Answer.{IsAnswer}
use Rattle.opgp_document.specs.declared.document_why.DocumentWhy.{DocumentWhy}
use Rattle.opgp_document.specs.declared.place.Place.{Place}
use Rattle.opgp_document.proofs.Pairs.{of_each, one_more}
use Rattle.opgp_document.proofs.signed_document.DocumentAnswers.list.Goals as goal

abbrev answer_of : Place → Result Digest DocumentWhy
answer_of p = p.answer

pub loop-place-preserved : goal.loop-place-preserved
loop-place-preserved c =
    let i = c.loop-place.place-index in
    let places : List Place = c.args.self.now.places.items in
    let p : Place = c.place-item.result in
    let at : p ≡ get_or places i p = c.place-item.is ∙ ap (λ (l : List Place). get_or l i p) c.deref-place-items.ensures.value in
    let within = rw c.deref-place-items.ensures.value at c.loop-place-test.true in
    c.in_ok-push.ensures.items ∙ ap (λ (l : List (Result Digest DocumentWhy)). l ++ c.answer.result ∷ []) c.loop-place.invariant
    ∙ ap (λ (a : Result Digest DocumentWhy). map answer_of (take i places) ++ a ∷ []) c.answer.ensures
    ∙ one_more answer_of places i p within at

pub returns : goal.returns
returns c signatures document answers =
    let places : List Place = c.args.self.now.places.items in
    let past = rw c.deref-place-items.ensures.value at c.loop-place-test.false in
    let whole : c.loop-place.found.items ≡ map answer_of places =
    c.loop-place.invariant ∙ ap (λ (l : List Place). map answer_of l) (take_all c.loop-place.place-index places past) in
    subst (λ (l : List (Result Digest DocumentWhy)). AllZip (λ (a : Result Digest DocumentWhy) (s : Option SignedValue). IsAnswer s document a) l signatures) (sym whole)
    (of_each (λ (a : Result Digest DocumentWhy) (s : Option SignedValue). IsAnswer s document a) answer_of places signatures answers)
