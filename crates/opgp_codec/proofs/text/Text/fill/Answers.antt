use Rattle.std.proofs.Common.{◌++◌, ◌+◌, ◌-◌, ◌≤◌, ℕ, List, length, take, drop, ap, refl, arith, append_assoc}
use Rattle.std.proofs.Math.Seq.{take-add}
use Rattle.std.proofs.Math.ListN.{drop_of_length-le}
use Rattle.std.proofs.lemmas.List.{length-drop, take_rest}
use Rattle.opgp_codec.proofs.TextLines.{through_cleared}
use Rattle.opgp_codec.proofs.text.Text.fill.Goals as goal

-- n octets of the rest of a piece
fits : (piece : List ℕ) (at n : ℕ) → at ≤ length piece → n ≤ length (take (length piece - at) (drop at piece)) → at + n ≤ length piece
fits piece at n within h = omega (arith, rw (take_rest piece at) at h, length-drop at piece)

-- where nothing waits, the vector may be cleared
pub line-requires-clause-through : goal.line-requires-clause-through
line-requires-clause-through c =
    let r = c.requires.through in
    let t = c.args.self.now in
    (r.0, r.1, r.2, r.3, r.4, through_cleared r.0 r.1 t _ r.2 r.3 r.4 refl refl (drop_of_length-le t.octets.items (c.requires.drained.octets)) (ap (λ (l : List ℕ). drop 0 l) c.clear.ensures.items) r.5)

pub line-requires-clause-nothing : goal.line-requires-clause-nothing
line-requires-clause-nothing c = c.requires.drained.behind

pub lines-init : goal.lines-init
lines-init c =
    let t = c.args.self.now in
    record {
      some = c.in_ok-taken.ensures.moves.0;
      within = c.in_ok-taken.ensures.moves.1;
      through = λ accepts limits f input items x.
          c.in_ok-taken.ensures.through accepts limits f input items (through_cleared accepts limits t _ f input items refl refl (drop_of_length-le t.octets.items (c.requires.drained.octets)) (ap (λ (l : List ℕ). drop 0 l) c.clear.ensures.items) x);
      count = c.in_ok-taken.ensures.count;
    }

pub line-requires-in-lines-clause-through : goal.line-requires-in-lines-clause-through
line-requires-in-lines-clause-through c =
    let r = c.requires.through in
    (r.0, r.1, r.2, _, r.4, c.lines.invariant.through r.0 r.1 r.2 r.3 r.4 r.5)

pub lines-preserved : goal.lines-preserved
lines-preserved c =
    let n = c.in_ok-taken-2.field-0 in
    let piece = c.args.piece.now in
    let at = c.lines.taken in
    let more : at + n ≤ length piece = fits piece at n c.lines.invariant.within c.in_ok-taken-2.ensures.moves.1 in
    record {
      some = omega (arith, c.lines.invariant.some);
      within = more;
      through = λ accepts limits f input items x.
          rw (take-add at n piece, ← append_assoc) (rw (take_rest piece at) at (c.in_ok-taken-2.ensures.through accepts limits f (input ++ take at piece) items (c.lines.invariant.through accepts limits f input items x)));
      count = omega (arith, c.in_ok-taken-2.ensures.count, c.lines.invariant.count);
    }
