use Rattle.std.proofs.Common.{◌≡◌, ℕ, List, [], ◌∷◌, Bool, take, length, get_or, sym, ◌∙◌, arith, eqb-true}
use Rattle.std.proofs.lemmas.Bool.{eq-eqb}
use Rattle.opgp_document.specs.Text.{ends_cr, octet_as_text}
use Rattle.opgp_document.proofs.Feeding.{IsFed, fresh, kept_behind, last_cut, line_cut, line_end, waits}
use Rattle.opgp_document.proofs.Places.{waits_till}
use Rattle.opgp_document.proofs.octets_as_text.lone_feed.Goals as goal

pub feeds-init : goal.feeds-init
feeds-init c = record {
  within = omega arith;
  inside = c.requires;
  waits = fresh c.args.after_cr c.args.octets.now c.args.start c.requires;
}

pub feeds-preserved : goal.feeds-preserved
feeds-preserved c =
    let o : List ℕ = c.args.octets.now in
    let b : Bool = c.args.after_cr in
    let s : ℕ = c.args.start in
    let p : ℕ = c.in-Some.place in
    let v = c.feeds.invariant in
    let h = c.in-Some.ensures in
    let till : IsFed b o s p = waits_till b o s c.feeds.from p v.within h.0.low (omega (arith, h.0.high)) (λ k l u e. h.0.before k l u (eq-eqb (get_or o k 0) 10 e)) v.waits in
    record {
      within = omega (arith, v.within, h.0.low);
      inside = omega (arith, h.0.high);
      waits = waits b o s p (omega (arith, v.within, h.0.low)) h.0.high till (kept_behind (ends_cr b (take p o)) (get_or o p 0) (sym c.is_behind_cr.ensures ∙ c.if-not-is_behind_cr.false));
    }

pub returns-then-not-is_behind_cr-clause-some : goal.returns-then-not-is_behind_cr-clause-some
returns-then-not-is_behind_cr-clause-some c =
    let o : List ℕ = c.args.octets.now in
    let b : Bool = c.args.after_cr in
    let s : ℕ = c.args.start in
    let p : ℕ = c.in-Some.place in
    let v = c.feeds.invariant in
    let h = c.in-Some.ensures in
    let lf : get_or o p 0 ≡ 10 = eqb-true (get_or o p 0) 10 h.1 in
    let line : octet_as_text (ends_cr b (take p o)) (get_or o p 0) ≡ 13 ∷ 10 ∷ [] = line_end (ends_cr b (take p o)) (get_or o p 0) lf (sym c.is_behind_cr.ensures ∙ c.if-not-is_behind_cr.true) in
    let till : IsFed b o s p = waits_till b o s c.feeds.from p v.within h.0.low (omega (arith, h.0.high)) (λ k l u e. h.0.before k l u (eq-eqb (get_or o k 0) 10 e)) v.waits in
    (omega (arith, v.within, h.0.low), h.0.high, line_cut b o s p (omega (arith, v.within, h.0.low)) h.0.high till line)

pub returns-clause-none : goal.returns-clause-none
returns-clause-none c =
    let o : List ℕ = c.args.octets.now in
    let v = c.feeds.invariant in
    last_cut c.args.after_cr o c.args.start
    (waits_till c.args.after_cr o c.args.start c.feeds.from (length o) v.within v.inside (omega arith) (λ k l u e. c.in_default.ensures k l u (eq-eqb (get_or o k 0) 10 e)) v.waits)
