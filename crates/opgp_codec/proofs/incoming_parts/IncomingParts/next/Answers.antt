use Rattle.std.proofs.Common.{◌≡◌, ◌∙◌, ◌++◌, ◌∷◌, [], List, Ok, ap, sym, arith, append-nil, subst}
use Rattle.opgp_keyring.specs.Composition.{Item}
use Rattle.opgp_keyring.specs.Fed.{Fed}
use Rattle.opgp_keyring.specs.Composed.{PartValue}
use Rattle.opgp_keyring.specs.State.{part_of}
use Rattle.opgp_codec.specs.declared.accepts.Accepts.TheVariants.{Keys}
use Rattle.opgp_codec.proofs.Coming.{alone_on}
use Rattle.opgp_codec.proofs.Parting.{composed_found}
use Rattle.opgp_codec.proofs.incoming_parts.IncomingParts.next.Goals as goal

pub step-requires-clause-came : goal.step-requires-clause-came
step-requires-clause-came g c =
    let r = c.requires.came in
    let p = c.steps.invariant.came r.0 r.1 r.2 r.3 r.4 in
    (Keys, r.0, r.1, r.2, p.items, p.came)

pub returns-in-Some-clause-came : goal.returns-in-Some-clause-came
returns-in-Some-clause-came g c mode limits before parts p0 =
    let p = c.steps.invariant.came mode limits before parts p0 in
    let s = c.in_ok-step.ensures.came in
    let f = rw c.if-branch.true at s.1 in
    let composed = composed_found c.steps.self.composer c.open_block.new.composer c.compose.new.composer c.take.new.self s.0 _ c.step.new.self.items.framer.opening _ f.0 (part_of c.in-Some.part ∷ []) c.opening.ensures (c.packet.ensures f.0 f.1) f.2 c.open_block.ensures.fed c.in-Ok.ensures.fed c.in-Some.ensures.fed in
    record { items = p.items ++ s.0; came = s.2 Keys mode limits before p.items p.came; composed = composed limits p.items parts p.composed }

pub steps-preserved : goal.steps-preserved
steps-preserved g c =
    let s = c.in_ok-step.ensures.came in
    let f = rw c.if-branch.true at s.1 in
    let composed = composed_found c.steps.self.composer c.open_block.new.composer c.compose.new.composer c.take.new.self s.0 _ c.step.new.self.items.framer.opening _ f.0 [] c.opening.ensures (c.packet.ensures f.0 f.1) f.2 c.open_block.ensures.fed c.in-Ok.ensures.fed c.in_default.ensures.fed in
    record {
      sound = c.in_ok-step.ensures.sound;
      left = omega (arith, c.in_ok-step.ensures.lessens (ap Ok c.if-branch.true), c.steps.invariant.left);
      alone = alone_on c.args.self.now.incoming c.steps.self.incoming c.step.new.self c.args.source.now c.steps.source c.step.new.source c.steps.invariant.alone c.in_ok-step.ensures.alone;
      came = λ mode limits before parts p0.
          let p = c.steps.invariant.came mode limits before parts p0 in
          record { items = p.items ++ s.0; came = s.2 Keys mode limits before p.items p.came; composed = subst (Fed limits c.take.new.self _) (append-nil parts) (composed limits p.items parts p.composed) };
    }

pub returns-clause-came : goal.returns-clause-came
returns-clause-came g c mode limits before parts p0 =
    let p = c.steps.invariant.came mode limits before parts p0 in
    let s = c.in_ok-step.ensures.came in
    let none : s.0 ≡ [] = rw c.if-branch.false at s.1 in
    record {
      items = p.items ++ s.0;
      came = s.2 Keys mode limits before p.items p.came;
      composed = subst (λ (l : List PartValue). Fed limits c.steps.self.composer (p.items ++ s.0) l) (sym (append-nil parts)) (subst (λ (l : List Item). Fed limits c.steps.self.composer l parts) (sym (append-nil p.items) ∙ ap (λ (l : List Item). p.items ++ l) (sym none)) p.composed);
    }

pub returns-in-Some-clause-whole : goal.returns-in-Some-clause-whole
returns-in-Some-clause-whole g c mode limits before parts p0 =
    let p = returns-in-Some-clause-came g c mode limits before parts p0 in
    c.parts_taken_are_a_keyrings.ensures limits c.take.new.self p.items (parts ++ part_of c.in-Some.part ∷ []) p.composed c.take.ensures.free

pub returns-clause-whole : goal.returns-clause-whole
returns-clause-whole g c mode limits before parts p0 =
    let p = returns-clause-came g c mode limits before parts p0 in
    c.parts_taken_are_a_keyrings.ensures limits c.steps.self.composer p.items (parts ++ []) p.composed c.steps.self.free
