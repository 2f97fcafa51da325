use Rattle.std.proofs.Common.{[], ◌++◌, append-nil, subst, sym}
use Rattle.opgp_keyring.specs.Parts.{HasParts}
use Rattle.opgp_codec.proofs.reading_keyring.keep_all.Goals as goal

pub each-preserved : goal.each-preserved
each-preserved g c =
    let known = c.each.invariant.came in
    record {
      sound = c.in_ok-part.ensures.sound;
      has = λ mode limits before list came has.
          let all = c.each.invariant.has mode limits before list came has in
          let next = rw c.in-Some.is at (c.in_ok-part.ensures.came mode limits before all.0 all.1) in
          let whole = rw c.in-Some.is at (c.in_ok-part.ensures.whole mode limits before all.0 all.1) in
          (_, next, c.in_ok-keep.ensures all.0 all.2 whole);
      came = (known.0, known.1, known.2, _, c.in_ok-part.ensures.came known.0 known.1 known.2 known.3 known.4);
    }

pub returns-clause-came : goal.returns-clause-came
returns-clause-came g c mode limits before list came has =
    let all = c.each.invariant.has mode limits before list came has in
    let next = rw c.in_default.is at (c.in_ok-part.ensures.came mode limits before all.0 all.1) in
    (all.0 ++ [], next, subst (HasParts c.each.ring) (sym (append-nil all.0)) all.2)
