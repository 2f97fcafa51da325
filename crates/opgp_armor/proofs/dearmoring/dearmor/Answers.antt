use Rattle.std.proofs.Common.{◌≡◌, ◌∙◌, ℕ, List, ap, subst, arith, take, drop, length, ◌-◌, ◌++◌}
use Rattle.std.proofs.lemmas.List.{length-take, take_all}
use Rattle.opgp_armor.specs.Rules.{LineRule, line_rule}
use Rattle.opgp_armor.specs.Armored.{Armored, Block, IsArmorFault}
use Rattle.opgp_armor.specs.Blocks.{built_of}
use Rattle.opgp_armor.specs.Events.{events_of, Built, Event, built}
use Rattle.opgp_armor.specs.Fed.{Fed, rule_of}
use Rattle.opgp_armor.proofs.Feeding.{without_octet}
use Rattle.opgp_armor.proofs.Reading.{reads_none, reads_more, built_next}
use Rattle.opgp_armor.proofs.dearmoring.dearmor.Goals as goal

pub pieces-init : goal.pieces-init
pieces-init c =
    let n = c.new-reader.ensures in
    reads_none (line_rule c.args.limits.now) c.new-reader.result c.new-building.result c.args.text.now n.free n.«open» n.count n.rule n.fed c.new-building.ensures

pub pieces-preserved : goal.pieces-preserved
pieces-preserved c =
    let p = c.in-Ok.ensures in
    let t = c.take-event.ensures in
    let s = c.in_ok-absorb_some.ensures.reader in
    reads_more (line_rule c.args.limits.now) c.pieces.reader c.push.new.self c.absorb_some.new.reader c.pieces.building c.absorb_some.new.self c.args.text.now c.pieces.at c.in-Ok.n (events_of c.take-event.result) c.pieces.invariant
    p.within p.fed (λ given taken fed. (s.fed _ _).0 (t.fed given taken fed)) (s.ready ∙ t.free) (s.ended ∙ t.«open» ∙ p.«open») (s.count ∙ t.count ∙ p.count) (s.rule ∙ t.rule ∙ p.rule) c.in_ok-absorb_some.ensures.built

pub returns-in-Ok-finish : goal.returns-in-Ok-finish
returns-in-Ok-finish c =
    let r = c.pieces.invariant in
    let l = c.in-Ok-last.ensures in
    let text : List ℕ = c.args.text.now in
    let more : List Event = events_of c.in-Ok-last.event in
    let s = c.in_ok-absorb_some-2.ensures.reader in
    let fed : Fed c.absorb_some-2.new.reader (take c.pieces.at text) (r.taken ++ more) = (s.fed _ _).0 (without_octet _ _ (r.taken ++ more) (l.fed (take c.pieces.at text) r.taken r.fed)) in
    let whole : take c.pieces.at text ≡ text = take_all c.pieces.at text (omega arith) in
    let armored : Armored (rule_of c.absorb_some-2.new.reader) text (built (r.taken ++ more)).blocks =
    c.in-Ok-finish.ensures.ok text (r.taken ++ more) (subst (λ (v : List ℕ). Fed c.absorb_some-2.new.reader v (r.taken ++ more)) whole fed) in
    let is : built (r.taken ++ more) ≡ built_of c.absorb_some-2.new.self = built_next (built_of c.pieces.building) (built_of c.absorb_some-2.new.self) r.taken more r.built_is c.in_ok-absorb_some-2.ensures.built in
    subst (λ (v : List Block). Armored (line_rule c.args.limits.now) text v) (ap (λ (v : Built). v.blocks) is)
    (subst (λ (v : LineRule). Armored v text (built (r.taken ++ more)).blocks) (s.rule ∙ l.rule ∙ r.rule_is) armored)

pub push-requires : goal.push-requires
push-requires c = let r = c.pieces.invariant in record { free = r.quiet; «open» = r.going; room = omega (arith, r.count, length-take (length c.args.text.now - c.pieces.at) (drop c.pieces.at c.args.text.now)) }

pub last-requires : goal.last-requires
last-requires c = let r = c.pieces.invariant in record { free = r.quiet; «open» = r.going }

pub finish-requires : goal.finish-requires
finish-requires c =
    let l = c.in-Ok-last.ensures in
    let s = c.in_ok-absorb_some-2.ensures.reader in
    record { free = s.ready ∙ l.free; ended = s.ended ∙ l.ended }

pub returns-in-Err : goal.returns-in-Err
returns-in-Err c =
    let r = c.pieces.invariant in
    let l = c.in-Ok-last.ensures in
    let text : List ℕ = c.args.text.now in
    let more : List Event = events_of c.in-Ok-last.event in
    let s = c.in_ok-absorb_some-2.ensures.reader in
    let fed : Fed c.absorb_some-2.new.reader (take c.pieces.at text) (r.taken ++ more) = (s.fed _ _).0 (without_octet _ _ (r.taken ++ more) (l.fed (take c.pieces.at text) r.taken r.fed)) in
    let whole : take c.pieces.at text ≡ text = take_all c.pieces.at text (omega arith) in
    subst (λ (v : LineRule). IsArmorFault v text c.in-Err.fault) (s.rule ∙ l.rule ∙ r.rule_is)
    (c.in-Err.ensures.ok text (r.taken ++ more) (subst (λ (v : List ℕ). Fed c.absorb_some-2.new.reader v (r.taken ++ more)) whole fed))
