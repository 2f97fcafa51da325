use Rattle.std.proofs.Common.{◌≡◌, ◌-◌, ◌≤◌, ◌++◌, ◌∷◌, ℕ, List, [], length, take, drop, sym, ap, subst, ◌∙◌, arith, append_assoc, append-nil, length-take-le}
use Rattle.opgp_octets.specs.declared.limits.Limits.{Limits}
use Rattle.opgp_keyring.specs.Composed.{PartValue}
use Rattle.opgp_keyring.specs.State.{part_of}
use Rattle.opgp_codec.specs.PartReader.{given, most_held, waits}
use Rattle.opgp_codec.specs.Parts.{held_of}
use Rattle.opgp_codec.proofs.Stepping.{fits}
use Rattle.opgp_codec.proofs.Readers.{input_all, input_more, used_as}
use Rattle.opgp_codec.proofs.part_reader.PartReader.push.Goals as goal

pub next-requires-clause-used : goal.next-requires-clause-used
next-requires-clause-used c =
    let r = c.requires.used in
    (_, c.parts.invariant.used r.0 r.1)

pub parts-preserved : goal.parts-preserved
parts-preserved c =
    let piece = c.args.piece.now in
    let at = c.parts.at in
    let n = c.in-Some.n in
    let slice : List ℕ = take (length piece - at) (drop at piece) in
    let within : n ≤ length slice = rw c.in-Some.is at c.in_ok-n.ensures.within in
    let size : length (take n slice) ≡ n = length-take-le n slice within in
    let count = rw c.in-Some.is at c.in_ok-n.ensures.count in
    record {
      within = fits piece at n c.parts.invariant.within within;
      used = λ u used.
          let next = rw c.in-Some.is at (c.in_ok-n.ensures.used _ (c.parts.invariant.used u used)) in
          used_as u.mode u.limits _ _ _ _ c.next.new.self (input_more u.input piece at n)
          (append_assoc u.taken (waits c.parts.self) (part_of c.in-Some.part ∷ []) ∙ ap (λ (l : List PartValue). u.taken ++ l) (sym c.in_ok-add.ensures)) next;
      counted = c.parts.invariant.counted;
      count = omega (arith, count, size, c.parts.invariant.count);
    }

pub returns-clause-used : goal.returns-clause-used
returns-clause-used c u used =
    let next = rw c.in_default.is at (c.in_ok-n.ensures.used _ (c.parts.invariant.used u used)) in
    record {
      used = used_as u.mode u.limits _ _ _ _ c.next.new.self (input_all u.input c.args.piece.now c.parts.at) (append-nil (u.taken ++ waits c.parts.self)) next;
      counted = c.parts.invariant.counted ∙ used.counted;
      done = c.in_ok-n.ensures.done c.in_default.is;
    }

pub returns-clause-held : goal.returns-clause-held
returns-clause-held c u used = c.in_ok-n.ensures.held _ (c.parts.invariant.used u used)

pub returns-clause-going : goal.returns-clause-going
returns-clause-going c limits r = record {
  so_far = given r.so_far c.args.piece.now;
  limits_kept = r.limits_kept;
  used = returns-clause-used c r.so_far r.used;
  held = subst (λ (l : Limits). held_of c.next.new.self ≤ most_held l) r.limits_kept (returns-clause-held c r.so_far r.used);
}
