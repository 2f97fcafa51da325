use Rattle.std.proofs.Common.{◌≡◌, ◌+◌, suc, ℕ, set, subst, arith, Option}
use Rattle.opgp_hash.specs.SignedValue.{SignedValue}
use Rattle.opgp_document.specs.Place.{IsEnded, IsPlace}
use Rattle.opgp_document.specs.declared.place.Place.{Place}
use Rattle.opgp_document.proofs.Pairs.{Mixed, begins, step, all}
use Rattle.opgp_document.proofs.signed_document.end_all.Goals as goal

pub loop-place-init : goal.loop-place-init
loop-place-init c = λ ss d over.
    begins (λ (p : Place) (s : Option SignedValue). IsEnded p s d) (λ (p : Place) (s : Option SignedValue). IsPlace p s d) c.args.places.now ss over

pub loop-place-preserved : goal.loop-place-preserved
loop-place-preserved c = λ ss d over.
    let n : ℕ = c.loop-place.place-index in
    let more : suc n ≡ n + 1 = omega arith in
    subst (λ (k : ℕ). Mixed (λ (p : Place) (s : Option SignedValue). IsEnded p s d) (λ (p : Place) (s : Option SignedValue). IsPlace p s d) k (set c.loop-place.places n c.end.new.self) ss) more
    (step (λ (p : Place) (s : Option SignedValue). IsEnded p s d) (λ (p : Place) (s : Option SignedValue). IsPlace p s d) n c.loop-place.places ss c.place-item.result c.end.new.self (omega arith) c.place-item.is (λ s q. c.end.ensures s d (subst (λ (x : Place). IsPlace x s d) c.place-item.is q)) (c.loop-place.invariant ss d over))

pub returns : goal.returns
returns c = λ ss d over.
    all (λ (p : Place) (s : Option SignedValue). IsEnded p s d) (λ (p : Place) (s : Option SignedValue). IsPlace p s d) c.loop-place.place-index c.loop-place.places ss (omega arith) (c.loop-place.invariant ss d over)
