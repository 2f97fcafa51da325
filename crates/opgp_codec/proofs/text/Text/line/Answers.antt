use Rattle.std.proofs.Common.{◌∙◌, take, ap, subst, arith, append-nil, ◌++◌}
use Rattle.opgp_armor.specs.Events.{events_of}
use Rattle.opgp_armor.specs.Fed.{Fed}
use Rattle.opgp_codec.specs.Text.{events_behind}
use Rattle.opgp_codec.specs.declared.text.Behind.{Behind}
use Rattle.opgp_codec.proofs.TextLines.{kept_line, taken_next}
use Rattle.opgp_codec.proofs.text.Text.line.Goals as goal

pub returns-clause-through : goal.returns-clause-through
returns-clause-through c accepts limits f input items x =
    let k = c.in_ok-keep.ensures in
    let d = c.args.self.now.dearmor in
    let part = take c.in-Ok.n c.args.piece.now in
    let before = subst (Fed d input) (ap (λ (b : Behind). x.before ++ events_behind b) c.requires.nothing ∙ append-nil x.before) x.fed in
    let fed = (k.reader.fed _ _).0 (taken_next d c.push.new.self c.take-event.new.self input part x.before (events_of c.take-event.result) c.in-Ok.ensures.fed c.take-event.ensures.fed before) in
    kept_line accepts limits c.args.self.now c.keep.new.self f (input ++ part) items c.take-event.result x.before c.events_are_in_order.ensures (record {
      quiet = k.reader.ready ∙ c.take-event.ensures.free;
      going = k.reader.ended ∙ c.take-event.ensures.«open» ∙ c.in-Ok.ensures.«open»;
      rule = k.reader.rule ∙ c.take-event.ensures.rule ∙ c.in-Ok.ensures.rule ∙ x.rule;
      few = omega (arith, k.reader.count, c.take-event.ensures.count, c.in-Ok.ensures.count, c.in-Ok.ensures.within, c.requires.room);
    }) k.waits k.at fed x.framed x.inside
