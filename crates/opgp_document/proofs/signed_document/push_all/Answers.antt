use Rattle.std.proofs.Common.{◌≡◌, ◌+◌, suc, ◌++◌, ℕ, List, subst, arith, Option, refl, sym, ◌∙◌}
use Rattle.opgp_hash.specs.SignedValue.{SignedValue}
use Rattle.opgp_document.specs.Place.{IsPlace}
use Rattle.opgp_document.specs.declared.place.Place.{Place}
use Rattle.opgp_document.proofs.Lending.{Pushed, lent}
use Rattle.opgp_document.proofs.Pairs.{begins, step, all}
use Rattle.opgp_document.proofs.signed_document.push_all.Goals as goal
use Rattle.opgp_document.proofs.signed_document.push_all.Goals.{in-Some, in-None}

pub places-init : goal.places-init
places-init c = (
  refl,
  λ ss d over.
      begins (λ (p : Place) (s : Option SignedValue). IsPlace p s (d ++ c.args.piece.now)) (λ (p : Place) (s : Option SignedValue). IsPlace p s d) c.args.places.now ss over,
)

pub places-preserved : goal.places-preserved
places-preserved c =
    let n : ℕ = c.places.next in
    let more : suc n ≡ n + 1 = omega arith in (
      c.match-running_of.auto.places ∙ c.places.invariant.0,
      λ ss d over.
          subst (λ (k : ℕ). Pushed d c.args.piece.now k c.match-running_of.places ss) more
          (elim c.match-running_of.branch [
            | in-Some w ↦ subst (λ (l : List Place). Pushed d c.args.piece.now (suc n) l ss) (sym w.places-is)
                (step (λ (p : Place) (s : Option SignedValue). IsPlace p s (d ++ c.args.piece.now)) (λ (p : Place) (s : Option SignedValue). IsPlace p s d) n c.places.places ss w.index-places-next.result w.put.new.self (omega arith) w.index-places-next.is
                (λ s q. w.put.ensures s (d ++ c.args.piece.now) d (subst (λ (x : Place). IsPlace x s d) w.index-places-next.is q)
                (lent d c.args.piece.now n c.places.places ss w.in-Some.running w.index-places-next.result (omega arith) (c.places.invariant.1 ss d over) w.in-Some.ensures w.index-places-next.is s q))
                (c.places.invariant.1 ss d over))
            | in-None w ↦ subst (λ (l : List Place). Pushed d c.args.piece.now (suc n) l ss) (sym w.places-is)
                (step (λ (p : Place) (s : Option SignedValue). IsPlace p s (d ++ c.args.piece.now)) (λ (p : Place) (s : Option SignedValue). IsPlace p s d) n c.places.places ss w.index-places-next-in-None.result w.push.new.self (omega arith) w.index-places-next-in-None.is
                (λ s q. w.push.ensures s d (subst (λ (x : Place). IsPlace x s d) w.index-places-next-in-None.is q))
                (c.places.invariant.1 ss d over))
          ]),
    )

pub returns : goal.returns
returns c = λ ss d over.
    all (λ (p : Place) (s : Option SignedValue). IsPlace p s (d ++ c.args.piece.now)) (λ (p : Place) (s : Option SignedValue). IsPlace p s d) c.places.next c.places.places ss (omega arith) (c.places.invariant.1 ss d over)
