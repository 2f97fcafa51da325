use Rattle.std.proofs.Common.{◌≡◌, ◌++◌, ℕ, List, [], take, refl, sym, ap, ◌∙◌, subst}
use Rattle.std.proofs.Math.Seq.{take-length}
use Rattle.opgp_keyring.specs.Composition.{Item}
use Rattle.opgp_codec.specs.Blocks.{Framed}
use Rattle.opgp_codec.proofs.Blocking.{finds_nothing}
use Rattle.opgp_codec.proofs.items.frame.Goals as goal

pub returns-else-finds-clause-framed : goal.returns-else-finds-clause-framed
returns-else-finds-clause-framed c =
    let piece = c.args.piece.now in
    let h = c.next.new.self in
    let r = c.in_ok-n.ensures.framed in
    let quiet = sym c.finds.ensures ∙ c.if-finds.false in
    let none = finds_nothing h piece r.0 quiet r.1 in
    let all : take c.in_ok-n.n piece ≡ piece = ap (λ (n : ℕ). take n piece) (c.in_ok-n.ensures.all quiet) ∙ take-length piece in (
      [],
      refl,
      λ accepts limits done label given items f.
          subst (λ (l : List ℕ). Framed accepts limits h done label (given ++ l) (items ++ [])) all
          (subst (λ (l : List Item). Framed accepts limits h done label (given ++ take c.in_ok-n.n piece) (items ++ l)) none (r.2 accepts limits done label given items f)),
    )
