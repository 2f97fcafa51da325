use Rattle.std.proofs.Common.{◌++◌, ◌+◌, ◌-◌, ℕ, List, Bool, take, drop, subst, arith}
use Rattle.opgp_document.specs.Text.{to_text}
use Rattle.opgp_document.proofs.Feeding.{all_fed, line_fed}
use Rattle.opgp_document.proofs.octets_as_text.feed_text.Goals as goal

pub lines-preserved : goal.lines-preserved
lines-preserved g c =
    let o : List ℕ = c.args.octets.now in
    let b : Bool = c.args.after_cr in
    let s : ℕ = c.lines.start in
    let e : ℕ = c.in-Some.end in
    let h = c.in-Some.ensures.some in
    record {
      within = omega (arith, h.1);
      fed = λ m q. subst (λ (x : List ℕ). g.D.Digest.holds c.update-in-Some.new.self x)
          (line_fed m (to_text b (take s o)) (take (e - s) (drop s o)) c.as_slice.result.now (to_text b (take (e + 1) o)) c.as_slice.ensures h.2)
          (c.update-in-Some.ensures ((m ++ to_text b (take s o)) ++ take (e - s) (drop s o)) (c.update.ensures (m ++ to_text b (take s o)) (c.lines.invariant.fed m q)));
    }

pub returns-clause-fed : goal.returns-clause-fed
returns-clause-fed g c =
    let o : List ℕ = c.args.octets.now in
    let b : Bool = c.args.after_cr in
    let s : ℕ = c.lines.start in
    λ m q. subst (λ (x : List ℕ). g.D.Digest.holds c.update-2.new.self x) (all_fed b o s m c.in_default.ensures.none)
    (c.update-2.ensures (m ++ to_text b (take s o)) (c.lines.invariant.fed m q))
