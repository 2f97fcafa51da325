use Rattle.std.proofs.Common.{◌≡◌, ℕ, ◌+◌, ◌++◌, length, take, sym, ap, subst, refl, ◌∙◌, length-take-le}
use Rattle.opgp_octets.specs.declared.limits.Limits.{Limits}
use Rattle.opgp_frame.specs.declared.deframe.State.{State}
use Rattle.opgp_frame.specs.Fed.{IsRest}
use Rattle.opgp_frame.specs.Unfinished.{IsWhole}
use Rattle.opgp_frame.proofs.FedLemmas.{Fed-lends}
use Rattle.opgp_frame.proofs.deframe.Deframe.find.Goals as goal

pub returns-clause-fed : goal.returns-clause-fed
returns-clause-fed c =
    let found = c.in_ok-spot.ensures.whole in (
      found.placed,
      found.lies,
      λ limits block given taken f.
          let d = c.args.self.now in
          let piece = take c.in_ok-spot.spot.until c.args.piece.now in
          let at = subst (λ (s : State). IsRest limits s d.exponents.items d.body.items f.rest) c.in-Between.is f.state in
          let size : length piece ≡ c.in_ok-spot.spot.until = length-take-le c.in_ok-spot.spot.until c.args.piece.now found.lies.within in
          let count : d.given + c.in_ok-spot.spot.until ≡ d.given + length piece = ap (λ (k : ℕ). d.given + k) (sym size) in
          let whole : IsWhole limits (f.rest ++ piece) found.placed.packet = rw (at.0) (subst (λ (l : Limits). IsWhole l piece found.placed.packet) f.limits_kept found.whole) in
          Fed-lends limits block d _ given piece taken found.placed f c.requires.free refl refl refl (found.lies.block ∙ c.in_ok-spot.ensures.place.0) (found.lies.pos ∙ c.in_ok-spot.ensures.place.1) whole
          c.in-Between.is at.1 at.2 count count,
    )
