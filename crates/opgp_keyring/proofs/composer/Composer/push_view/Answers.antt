use Rattle.std.proofs.Common.{is_some, refl, ap, ◌∙◌, subst}
use Rattle.opgp_octets.specs.declared.malformed.Malformed.{Malformed}
use Rattle.opgp_keyring.specs.Bodies.{HasFault}
use Rattle.opgp_keyring.specs.Composition.{of_packet}
use Rattle.opgp_keyring.specs.declared.ready.Ready.{Ready}
use Rattle.opgp_keyring.proofs.Holding.{held_short, held_none}
use Rattle.opgp_keyring.proofs.Keeping.{kept_one, closed_by, same_stays}
use Rattle.opgp_keyring.proofs.Sorting.{untyped}
use Rattle.opgp_keyring.proofs.Stepping.{spent_is}
use Rattle.opgp_frame.specs.View.{viewed}
use Rattle.opgp_keyring.proofs.composer.Composer.push_view.Goals as goal

pub returns-in-Ok : goal.returns-in-Ok
returns-in-Ok c =
    let old = c.args.self.now in
    let new = c.add.new.self in
    let placed = viewed c.args.placed in
    record {
      fed = kept_one old new (of_packet placed) c.in-Ok.ensures.fed;
      quiet = c.in-Ok.ensures.quiet;
      faulty = λ faulty. (refl, ap (is_some {T = Ready}) (c.in-Ok.ensures.behind (closed_by old.state faulty)).2 ∙ c.requires);
      stays = same_stays old new (λ e. (c.in-Ok.ensures.behind e).1);
      held = λ short. held_short new placed.packet c.kind.ensures.packet short c.in-Ok.ensures.held;
      sound = c.in-Ok.ensures.sound;
      spent = tt;
      was_spent = ((λ e. cc), (λ e. absurd (c.in_default.not-Spent (spent_is old.state e))));
      limits = c.in-Ok.ensures.limits;
    }

pub returns-in-Spent-clause-held : goal.returns-in-Spent-clause-held
returns-in-Spent-clause-held c = λ short. held_none c.args.self.now c.requires

pub returns-in-Some : goal.returns-in-Some
returns-in-Some c =
    let old = c.args.self.now in
    let new = c.break_off.new.self in
    let placed = viewed c.args.placed in
    let free = ap (is_some {T = Ready}) c.break_off.ensures.ready ∙ c.requires in
    record {
      fed = kept_one old new (of_packet placed) (c.break_off.ensures.fed placed.packet c.kind.ensures.packet.octets
          (subst (λ (m : Malformed). HasFault m placed.packet c.in-Some.fault) c.malformed.ensures
          (untyped c.malformed.result placed.packet c.kind.result c.from-kind.result c.body.result.now c.in-Some.fault c.kind.ensures.value c.from-kind.ensures.0 c.body.ensures.value c.in-Some.ensures.fault)));
      quiet = λ faulty. free;
      faulty = λ faulty. (refl, free);
      stays = c.break_off.ensures.stays;
      held = λ short. held_none new free;
      sound = c.break_off.ensures.spent;
      spent = tt;
      was_spent = ((λ e. cc), (λ e. absurd (c.in_default.not-Spent (spent_is old.state e))));
      limits = c.break_off.ensures.limits;
    }
