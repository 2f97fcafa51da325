use Rattle.std.proofs.Common.{◌≡◌, ◌+◌, ℕ, [], ◌∷◌, take, length, refl, sym, ap, ◌∙◌, length-take-le}
use Rattle.opgp_frame.specs.Fed.{count_of}
use Rattle.opgp_codec.proofs.Blocking.{added, kept}
use Rattle.opgp_codec.proofs.blocks.Blocks.find.Goals as goal

pub returns-in-Some-clause-framed : goal.returns-in-Some-clause-framed
returns-in-Some-clause-framed c =
    let n = c.in-Some.n in
    let part = take n c.args.octets.now in
    let size : length part ≡ n = length-take-le n _ c.in-Some.ensures.moves.1 in
    let p = c.in-Some.ensures.fed in (
      p.0 ∷ [],
      (p.0, p.1, refl),
      λ accepts limits done label given items f.
          added accepts limits c.args.self.now _ done label given part items (p.0 ∷ []) (record { accepts = refl; limits = refl; label = refl; number = refl; fault = refl }) refl
          c.requires.fault c.requires.begun c.requires.begun p.2 (c.in-Some.ensures.count ∙ ap (λ (m : ℕ). count_of c.args.self.now.deframe + m) (sym size)) f,
    )

pub returns-clause-framed : goal.returns-clause-framed
returns-clause-framed c =
    let r = c.in_ok-n.ensures.framed in (
      r.0,
      r.1,
      λ accepts limits done label given items f.
          r.2 accepts limits done label given items
          (kept accepts limits c.args.self.now _ done label given items (record { accepts = refl; limits = refl; label = refl; number = refl; fault = refl }) refl (c.in_default.ensures.none refl) refl f),
    )
