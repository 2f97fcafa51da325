use Rattle.std.proofs.Common.{◌++◌, ◌∷◌, [], List, map, take, subst, sym, arith, Option}
use Rattle.std.specs.List.{AllZip}
use Rattle.opgp_hash.specs.SignedValue.{SignedValue}
use Rattle.opgp_document.specs.Answer.{asked_of}
use Rattle.opgp_document.specs.Place.{IsPlace}
use Rattle.opgp_document.specs.declared.place.Place.{Place}
use Rattle.opgp_document.proofs.Pairs.{added, one_more}
use Rattle.opgp_document.proofs.signed_document.places_of.Goals as goal

pub loop-signature-preserved : goal.loop-signature-preserved
loop-signature-preserved c =
    let i = c.loop-signature.signature-index in
    let all = added (λ (p : Place) (s : Option SignedValue). IsPlace p s []) c.loop-signature.places.items (map asked_of (take i c.args.signatures.now)) c.in_ok-place.place (asked_of c.signature-item.result)
    c.loop-signature.invariant c.in_ok-place.ensures in
    let signatures = one_more asked_of c.args.signatures.now i c.signature-item.result (omega arith) c.signature-item.is in
    subst (λ (l : List (Option SignedValue)). AllZip (λ (p : Place) (s : Option SignedValue). IsPlace p s []) c.push.new.self.items l) signatures
    (subst (λ (l : List Place). AllZip (λ (p : Place) (s : Option SignedValue). IsPlace p s []) l (map asked_of (take i c.args.signatures.now) ++ asked_of c.signature-item.result ∷ [])) (sym c.in_ok-push.ensures.items) all)
