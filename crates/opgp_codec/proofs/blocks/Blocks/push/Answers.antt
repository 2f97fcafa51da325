use Rattle.std.proofs.Common.{◌≡◌, ◌+◌, [], ◌∷◌, take, length, refl, arith, length-take-le}
use Rattle.opgp_frame.specs.Fed.{count_of}
use Rattle.opgp_codec.proofs.Blocking.{added, keeps_next}
use Rattle.opgp_codec.proofs.blocks.Blocks.push.Goals as goal

pub returns-in-Some-clause-framed : goal.returns-in-Some-clause-framed
returns-in-Some-clause-framed c =
    let part = take c.in-Ok.n c.args.octets.now in
    let size : length part ≡ c.in-Ok.n = length-take-le c.in-Ok.n _ c.in-Ok.ensures.within in
    let keeps = keeps_next c.args.self.now.deframe c.push.new.self c.take.new.self part (c.in-Some.packet ∷ []) c.in-Ok.ensures.fed c.in-Some.ensures.fed in
    let count : count_of c.take.new.self ≡ count_of c.args.self.now.deframe + length part = omega (arith, c.take.ensures.count, c.in-Ok.ensures.count, size) in (
      c.in-Some.packet ∷ [],
      refl,
      λ accepts limits done label given items f.
          added accepts limits c.args.self.now _ done label given part items (c.in-Some.packet ∷ []) (record { accepts = refl; limits = refl; label = refl; number = refl; fault = refl }) refl
          c.requires.fault c.requires.begun c.requires.begun keeps count f,
    )

pub returns-in-None-clause-framed : goal.returns-in-None-clause-framed
returns-in-None-clause-framed c =
    let part = take c.in-Ok.n c.args.octets.now in
    let size : length part ≡ c.in-Ok.n = length-take-le c.in-Ok.n _ c.in-Ok.ensures.within in
    let keeps = keeps_next c.args.self.now.deframe c.push.new.self c.take.new.self part [] c.in-Ok.ensures.fed c.in-None.ensures.fed in
    let count : count_of c.take.new.self ≡ count_of c.args.self.now.deframe + length part = omega (arith, c.take.ensures.count, c.in-Ok.ensures.count, size) in (
      [],
      refl,
      λ accepts limits done label given items f.
          added accepts limits c.args.self.now _ done label given part items [] (record { accepts = refl; limits = refl; label = refl; number = refl; fault = refl }) (omega (arith, f.found))
          c.requires.fault c.requires.begun c.requires.begun keeps count f,
    )
