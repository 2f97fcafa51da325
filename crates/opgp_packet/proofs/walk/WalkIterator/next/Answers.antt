use Rattle.std.proofs.Common.{◌≡◌, ◌<◌, ◌∷◌, length, arith, rules, ap}
use Rattle.std.proofs.lemmas.Grind.{common_steps}
use Rattle.opgp_packet.specs.AreaReading.{subs_in}
use Rattle.opgp_packet.specs.Subpacket.{sub_seen}
use Rattle.opgp_packet.proofs.AreaLaws.{next_sub, never_fails, none_left}
use Rattle.opgp_packet.proofs.walk.WalkIterator.next.Goals as goal

pub returns-then-is_empty-clause-steps : goal.returns-then-is_empty-clause-steps
returns-then-is_empty-clause-steps c = let none = none_left c.args.self.now.rest.now (grind (arith, common_steps)) in (none, none)

pub invariant_of-self : goal.invariant_of-self
invariant_of-self c = record { whole = (next_sub c.args.self.now.rest.now (sub_seen c.in-Ok.sub) c.in-Ok.rest.now c.args.self.now.whole (grind (arith, common_steps)) c.in-Ok.ensures.reads).0 }

pub unreachable-requires : goal.unreachable-requires
unreachable-requires c = never_fails c.args.self.now.rest.now c.in-Err.field-0 c.args.self.now.whole (grind (arith, common_steps)) c.in-Err.ensures.reads

pub returns-clause-steps : goal.returns-clause-steps
returns-clause-steps c = (next_sub c.args.self.now.rest.now (sub_seen c.in-Ok.sub) c.in-Ok.rest.now c.args.self.now.whole (grind (arith, common_steps)) c.in-Ok.ensures.reads).1

pub returns-clause-goes : goal.returns-clause-goes
returns-clause-goes c =
    let some : 0 < length c.args.self.now.rest.now = grind (arith, common_steps) in
    let e : length (subs_in c.args.self.now.rest.now) ≡ length (sub_seen c.in-Ok.sub ∷ subs_in c.in-Ok.rest.now) = ap length (next_sub c.args.self.now.rest.now (sub_seen c.in-Ok.sub) c.in-Ok.rest.now c.args.self.now.whole some c.in-Ok.ensures.reads).1 in
    search rules
