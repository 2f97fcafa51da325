use Rattle.std.proofs.Common.{◌≡◌, ◌∙◌, ◌++◌, [], List, Ok, refl, ap, sym, arith, append-nil, subst, not}
use Rattle.opgp_frame.specs.declared.packet.Placed.{Placed}
use Rattle.opgp_keyring.specs.Composition.{Item, placed_in}
use Rattle.opgp_codec.specs.SoundPackets.{AreSoFar}
use Rattle.opgp_codec.specs.declared.accepts.Accepts.TheVariants.{Any}
use Rattle.opgp_codec.proofs.Coming.{alone_on}
use Rattle.opgp_codec.proofs.SoundSoFar.{passed_more, so_far_behind, so_far_nil}
use Rattle.opgp_codec.proofs.incoming_packets.IncomingPackets.next.Goals as goal
use Rattle.opgp_codec.proofs.incoming_packets.IncomingPackets.next.Goals.{else-is_none-via-then-is_none+else-passes, else-is_none-via-else-is_none}

pub step-requires-clause-came : goal.step-requires-clause-came
step-requires-clause-came g c =
    let r = c.requires.came in
    let p = c.steps.invariant.came r.0 r.1 r.2 r.3 r.4 in
    (Any, r.0, r.1, r.2, p.items, p.came)

pub returns-then-passes-clause-came : goal.returns-then-passes-clause-came
returns-then-passes-clause-came g c =
    let s = c.in_ok-step.ensures.came in
    let f = rw c.if-branch.true at s.1 in (
      f.0,
      (f.1, λ none. c.passes.ensures.some c.if-passes.true (c.packet.ensures f.0 f.1 ∙ none)),
      λ mode limits before packets p0.
          let p = c.steps.invariant.came mode limits before packets p0 in
          record {
            items = p.items ++ s.0;
            came = s.2 Any mode limits before p.items p.came;
            policy = p.policy;
            so_far = rw c.if-passes.true at (passed_more c.steps.self.malformed packets c.steps.self.fault c.passes.new.fault c.passes.result p.items s.0 _ _ f.0 (c.packet.ensures f.0 f.1) f.2 c.passes.ensures.so_far p.so_far);
          },
    )

pub steps-preserved : goal.steps-preserved
steps-preserved g c =
    let s = c.in_ok-step.ensures.came in
    let f = rw c.if-branch.true at s.1 in
    record {
      sound = c.in_ok-step.ensures.sound;
      left = elim c.else-is_none.branch [
        | else-is_none-via-then-is_none+else-passes w ↦ rw w.self-is (omega (arith, c.in_ok-step.ensures.lessens (ap Ok c.if-branch.true), c.steps.invariant.left))
        | else-is_none-via-else-is_none w ↦ rw w.self-is (omega (arith, c.in_ok-step.ensures.lessens (ap Ok c.if-branch.true), c.steps.invariant.left))
      ];
      alone = elim c.else-is_none.branch [
        | else-is_none-via-then-is_none+else-passes w ↦ rw w.self-is (alone_on c.args.self.now.incoming c.steps.self.incoming c.step.new.self c.args.source.now c.steps.source c.step.new.source c.steps.invariant.alone c.in_ok-step.ensures.alone)
        | else-is_none-via-else-is_none w ↦ rw w.self-is (alone_on c.args.self.now.incoming c.steps.self.incoming c.step.new.self c.args.source.now c.steps.source c.step.new.source c.steps.invariant.alone c.in_ok-step.ensures.alone)
      ];
      came = λ mode limits before packets p0.
          let p = c.steps.invariant.came mode limits before packets p0 in
          elim c.else-is_none.branch [
            | else-is_none-via-then-is_none+else-passes w ↦
                let more = rw w.if-passes.false at (passed_more c.steps.self.malformed packets c.steps.self.fault w.passes.new.fault w.passes.result p.items s.0 _ _ f.0 (w.packet.ensures f.0 f.1) f.2 w.passes.ensures.so_far p.so_far) in
                rw w.self-is (record {
                  items = p.items ++ s.0;
                  came = s.2 Any mode limits before p.items p.came;
                  policy = p.policy;
                  so_far = subst (λ (l : List Placed). AreSoFar c.steps.self.malformed (λ ps. ps ≡ l) w.passes.new.fault (placed_in (p.items ++ s.0))) (append-nil packets) more;
                })
            | else-is_none-via-else-is_none w ↦
                rw w.self-is (record {
                  items = p.items ++ s.0;
                  came = s.2 Any mode limits before p.items p.came;
                  policy = p.policy;
                  so_far = so_far_behind c.steps.self.malformed (λ ps. ps ≡ packets) c.steps.self.fault p.items s.0 (c.is_none.ensures ∙ ap not w.if-is_none.false) p.so_far;
                })
          ];
    }

pub returns-clause-came : goal.returns-clause-came
returns-clause-came g c =
    let s = c.in_ok-step.ensures.came in
    let none : s.0 ≡ [] = rw c.if-branch.false at s.1 in (
      [],
      refl,
      λ mode limits before packets p0.
          let p = c.steps.invariant.came mode limits before packets p0 in
          record {
            items = p.items ++ s.0;
            came = s.2 Any mode limits before p.items p.came;
            policy = p.policy;
            so_far = so_far_nil c.steps.self.malformed packets c.steps.self.fault _ (subst (λ (l : List Item). AreSoFar c.steps.self.malformed (λ ps. ps ≡ packets) c.steps.self.fault (placed_in l)) (sym (append-nil p.items) ∙ ap (λ (l : List Item). p.items ++ l) (sym none)) p.so_far);
          },
    )
