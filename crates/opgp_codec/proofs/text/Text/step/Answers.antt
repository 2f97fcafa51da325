use Rattle.std.proofs.Common.{◌≡◌, ◌++◌, ◌+◌, ◌-◌, ◌≤◌, ℕ, List, [], length, take, drop, sym, ap, subst, refl, ◌∙◌, arith, append_assoc, append-nil}
use Rattle.std.proofs.Math.Seq.{take-add}
use Rattle.std.proofs.lemmas.List.{length-drop, take_all, take_rest}
use Rattle.opgp_keyring.specs.Composition.{Item}
use Rattle.opgp_codec.specs.Text.{Through, lent_octets}
use Rattle.opgp_codec.proofs.Blocking.{finds_not, finds_so}
use Rattle.opgp_codec.proofs.text.Text.step.Goals as goal

-- n octets of the rest of a piece
fits : (piece : List ℕ) (at n : ℕ) → at ≤ length piece → n ≤ length (take (length piece - at) (drop at piece)) → at + n ≤ length piece
fits piece at n within h = omega (arith, rw (take_rest piece at) at h, length-drop at piece)

pub returns-then-branch-clause-through : goal.returns-then-branch-clause-through
returns-then-branch-clause-through c =
    let r = c.in_ok-drain.ensures.through in (
      r.0,
      finds_so c.drain.new.framer c.in_ok-drain.field-0 (lent_octets c.drain.new.self) r.0 c.if-branch.true r.1,
      λ accepts limits input items x.
          subst (λ (l : List ℕ). Through accepts limits c.drain.new.self c.drain.new.framer l (items ++ r.0)) (sym (append-nil input)) (r.2 accepts limits input items x),
    )

pub fills-init : goal.fills-init
fills-init c =
    let r = c.in_ok-drain.ensures.through in
    let none = finds_not c.drain.new.framer c.in_ok-drain.field-0 (lent_octets c.drain.new.self) r.0 c.if-branch.false r.1 in
    record {
      within = omega arith;
      drained = c.in_ok-drain.ensures.drained c.if-branch.false;
      through = λ accepts limits input items x.
          subst (λ (l : List ℕ). Through accepts limits c.drain.new.self c.drain.new.framer l items) (sym (append-nil input))
          (subst (Through accepts limits c.drain.new.self c.drain.new.framer input) (ap (λ (l : List Item). items ++ l) none ∙ append-nil items) (r.2 accepts limits input items x));
      count = omega (arith, c.in_ok-drain.ensures.count);
    }

pub fill-requires-clause-through : goal.fill-requires-clause-through
fill-requires-clause-through c =
    let r = c.requires.through in
    (r.0, r.1, c.fills.framer, _, r.3, c.fills.invariant.through r.0 r.1 r.2 r.3 r.4)

pub drain-requires-in-fills : goal.drain-requires-in-fills
drain-requires-in-fills c =
    let r = c.requires.through in
    (r.0, r.1, _, r.3, c.in_ok-taken.ensures.through r.0 r.1 c.fills.framer _ r.3 (c.fills.invariant.through r.0 r.1 r.2 r.3 r.4))

pub returns-then-branch-2-clause-through : goal.returns-then-branch-2-clause-through
returns-then-branch-2-clause-through c =
    let r = c.in_ok-drain-2.ensures.through in
    let n = c.in_ok-taken.field-0 in
    let piece = c.args.piece.now in (
      r.0,
      finds_so c.drain-in-fills.new.framer c.in_ok-drain-2.field-0 (lent_octets c.drain-in-fills.new.self) r.0 c.if-branch-2.true r.1,
      λ accepts limits input items x.
          let filled = c.in_ok-taken.ensures.through accepts limits c.fills.framer (input ++ take c.fills.taken piece) items (c.fills.invariant.through accepts limits input items x) in
          let next = r.2 accepts limits _ items filled in
          rw (take-add c.fills.taken n piece, ← append_assoc) (rw (take_rest piece c.fills.taken) at next),
    )

pub fills-preserved : goal.fills-preserved
fills-preserved c =
    let r = c.in_ok-drain-2.ensures.through in
    let n = c.in_ok-taken.field-0 in
    let piece = c.args.piece.now in
    let none = finds_not c.drain-in-fills.new.framer c.in_ok-drain-2.field-0 (lent_octets c.drain-in-fills.new.self) r.0 c.if-branch-2.false r.1 in
    let more : c.fills.taken + n ≤ length piece = fits piece c.fills.taken n c.fills.invariant.within c.in_ok-taken.ensures.moves.1 in
    record {
      within = more;
      drained = c.in_ok-drain-2.ensures.drained c.if-branch-2.false;
      through = λ accepts limits input items x.
          let filled = c.in_ok-taken.ensures.through accepts limits c.fills.framer (input ++ take c.fills.taken piece) items (c.fills.invariant.through accepts limits input items x) in
          let next = subst (Through accepts limits c.drain-in-fills.new.self c.drain-in-fills.new.framer _) (ap (λ (l : List Item). items ++ l) none ∙ append-nil items) (r.2 accepts limits _ items filled) in
          rw (take-add c.fills.taken n piece, ← append_assoc) (rw (take_rest piece c.fills.taken) at next);
      count = omega (arith, c.in_ok-drain-2.ensures.count, c.in_ok-taken.ensures.count, c.fills.invariant.count);
    }

pub returns-clause-through : goal.returns-clause-through
returns-clause-through c =
    let all : take c.fills.taken c.args.piece.now ≡ c.args.piece.now = take_all c.fills.taken c.args.piece.now (omega (arith, c.fills-test.false)) in (
      [],
      refl,
      λ accepts limits input items x.
          subst (Through accepts limits c.fills.self c.fills.framer (input ++ c.args.piece.now)) (sym (append-nil items))
          (subst (λ (l : List ℕ). Through accepts limits c.fills.self c.fills.framer (input ++ l) items) all (c.fills.invariant.through accepts limits input items x)),
    )

pub returns-clause-drained : goal.returns-clause-drained
returns-clause-drained c e = c.fills.invariant.drained
