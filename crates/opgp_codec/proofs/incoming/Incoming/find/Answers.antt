use Rattle.std.proofs.Common.{◌-◌, ◌≤◌, List, ℕ, Some, length, take, drop, refl, subst, arith}
use Rattle.opgp_codec.specs.Blocks.{FindsIn}
use Rattle.opgp_codec.specs.Items.{octets_of}
use Rattle.opgp_codec.proofs.Coming.{came_through, rest_behind, rest_none}
use Rattle.opgp_codec.proofs.incoming.Incoming.find.Goals as goal

pub returns-in-Ok-Some-clause-came : goal.returns-in-Ok-Some-clause-came
returns-in-Ok-Some-clause-came c =
    let a = c.args.self.now in
    let n = c.in-Ok-Some.n in
    let octets = c.deref.result.now in
    let r = rw c.in-Ok-Some.field-0-is at c.in-Ok-Some.ensures.fed in
    let size : length (take (a.filled - a.at) (drop a.at octets)) ≤ a.filled - a.at = omega arith in
    let within : n ≤ length (take (a.filled - a.at) (drop a.at octets)) = rw c.in-Ok-Some.field-0-is at c.in-Ok-Some.ensures.within in
    (r.0, subst (λ (o : List ℕ). FindsIn (Some n) c.step.new.self.framer (octets_of c.step.new.self.front (take (a.filled - a.at) (drop a.at o))) r.0) c.deref.ensures.value r.1, came_through a _ (take n (take (a.filled - a.at) (drop a.at octets))) r.0 (rest_behind a.piece.items octets a.at a.filled n c.deref.ensures.value (omega (arith, within, size))) refl refl refl r.2)

pub returns-in-Ok-None-clause-came : goal.returns-in-Ok-None-clause-came
returns-in-Ok-None-clause-came c =
    let a = c.args.self.now in
    let octets = c.deref.result.now in
    let r = rw c.in-Ok-None.field-0-is at c.in-Ok-None.ensures.fed in
    (r.0, r.1, came_through a _ (take (a.filled - a.at) (drop a.at octets)) r.0 (rest_none a.piece.items octets a.at a.filled c.deref.ensures.value) refl refl refl r.2)
