use Rattle.std.proofs.Common.{◌≡◌, ◌∙◌, Bool, true, false, cond, not, [], ◌∷◌, ◌++◌, refl, sym, ap, subst}
use Rattle.std.specs.BTreeSet.{contains_by}
use Rattle.std.specs.Bool.{OnFalse}
use Rattle.opgp_keyring.specs.Member.{member_packet}
use Rattle.opgp_difference.specs.Entries.{Name, PlacedValue, packet_name, stands_at}
use Rattle.opgp_difference.specs.Telling.{HasTold}
use Rattle.opgp_difference.specs.Tree.{key_cmp}
use Rattle.opgp_difference.proofs.Noting.{bor, keys_tied}
use Rattle.opgp_difference.proofs.Same.{true_false}
use Rattle.opgp_difference.proofs.Told.{has_it, not_above, not_lacked, told_before, told_now}
use Rattle.opgp_difference.proofs.telling.TellingVisitor.meet.Goals as goal

pub returns-in_default-clause-met : goal.returns-in_default-clause-met
returns-in_default-clause-met c met e has knows =
    not_lacked c.args.self.now.tree c.args.self.now.told c.args.self.now.told c.args.self.now.packets.items met has refl
    (packet_name (member_packet c.args.packet)) e (record { place = c.args.place; packet = member_packet c.args.packet })
    (not_above c.args.self.now.tree (packet_name (member_packet c.args.packet)) e (knows ∙ c.in_default.is))

pub returns-in-Some-find-clause-met : goal.returns-in-Some-find-clause-met
returns-in-Some-find-clause-met c met e has knows =
    let placed : PlacedValue = record { place = c.args.place; packet = member_packet c.args.packet } in
    subst (λ (n : Name). HasTold c.args.self.now.tree c.args.self.now.told c.args.self.now.packets.items (met ++ stands_at (n ∷ e) placed ∷ []))
    (λ i. (c.kind-kind.ensures i, c.body-body.ensures i))
    (not_lacked c.args.self.now.tree c.args.self.now.told c.args.self.now.told c.args.self.now.packets.items met has refl
    (c.kind-kind.result, c.body-body.result.now) e placed
    (has_it c.args.self.now.tree (c.kind-kind.result, c.body-body.result.now) e c.in-Some.above c.in-Some-find.node (knows ∙ c.in-Some.is) (sym c.in-Some-find.ensures)))

was_not : (b f : Bool) → f ≡ not b → f ≡ true → b ≡ false
was_not true f e h = sym (sym e ∙ h)
was_not false f e h = refl

was_there : (b f : Bool) → f ≡ not b → f ≡ false → b ≡ true
was_there true f e h = refl
was_there false f e h = sym (sym e ∙ h)

pub returns-in_ok-push-clause-met : goal.returns-in_ok-push-clause-met
returns-in_ok-push-clause-met c met e has knows =
    let placed : PlacedValue = record { place = c.args.place; packet = member_packet c.args.packet } in
    let raw : Name = (c.kind-kind.result, c.body-body.result.now) in
    subst (λ (n : Name). HasTold c.args.self.now.tree c.insert.new.self c.push.new.self.items (met ++ stands_at (n ∷ e) placed ∷ []))
    (λ i. (c.kind-kind.ensures i, c.body-body.ensures i))
    (told_now c.args.self.now.tree c.args.self.now.told c.insert.new.self c.args.self.now.packets.items c.push.new.self.items met has raw e placed c.in-Some.above
    (knows ∙ c.in-Some.is)
    (sym c.in_default-find.ensures)
    (was_not (contains_by (key_cmp c.in-Some.above raw) c.args.self.now.told) c.in_ok-insert.field-0 c.in_ok-insert.ensures.added c.if-branch.true)
    (c.in_ok-push.ensures.items ∙ ap (λ (x : PlacedValue). c.args.self.now.packets.items ++ x ∷ []) c.new.ensures)
    (λ q m. c.in_ok-insert.ensures.updates.0 (q, m.0, bor m.1)
    ∙ ap (λ (b : Bool). cond b true (contains_by (key_cmp q m) c.args.self.now.told)) (keys_tied c.in-Some.above q raw m)))

on_false : (b : Bool) (P : Type 0) → b ≡ false → OnFalse b P → P
on_false true P e h = true_false e
on_false false P e h = h

pub returns-else-branch-clause-met : goal.returns-else-branch-clause-met
returns-else-branch-clause-met c met e has knows =
    let placed : PlacedValue = record { place = c.args.place; packet = member_packet c.args.packet } in
    let raw : Name = (c.kind-kind.result, c.body-body.result.now) in
    subst (λ (n : Name). HasTold c.args.self.now.tree c.insert.new.self c.args.self.now.packets.items (met ++ stands_at (n ∷ e) placed ∷ []))
    (λ i. (c.kind-kind.ensures i, c.body-body.ensures i))
    (told_before c.args.self.now.tree c.args.self.now.told c.insert.new.self c.args.self.now.packets.items met has
    (on_false c.in_ok-insert.field-0 (c.insert.new.self.keys ≡ c.args.self.now.told.keys) c.if-branch.false c.in_ok-insert.ensures.unchanged)
    raw e placed c.in-Some.above (knows ∙ c.in-Some.is)
    (was_there (contains_by (key_cmp c.in-Some.above raw) c.args.self.now.told) c.in_ok-insert.field-0 c.in_ok-insert.ensures.added c.if-branch.false))
