use Rattle.std.proofs.Common.{◌≡◌, ◌∙◌, ◌+◌, ◌≤◌, nat_le, ℕ, List, true, None, refl, sym, ap, arith}
use Rattle.std.proofs.lemmas.Bool.{le-leb, leb-true}
use Rattle.opgp_valid.specs.Walk.{all_on, in_order}
use Rattle.opgp_valid.specs.declared.facts.Key.TheVariants as key
use Rattle.opgp_valid.specs.declared.statement.Statement.{Statement}
use Rattle.opgp_valid.proofs.Walks.{all_first, from_before, ordered_behind, rest_first, rest_same, run_first, run_same}
use Rattle.opgp_valid.proofs.walk.Walk.next.Goals as goal

same_number : (n : ℕ) → nat_le n n ≡ true
same_number n = le-leb n n (omega arith)

pub returns-then-not-self-clause-enough : goal.returns-then-not-self-clause-enough
returns-then-not-self-clause-enough c = λ ss h.
    let n = c.args.number in
    record {
      same = sym (h.same n (same_number n));
      first = λ created. all_first ss c.args.self.rest.now c.args.self.earlier n created (h.first key.Primary refl) (h.first (key.Subkey n created) (same_number n));
    }

pub returns-clause-enough : goal.returns-clause-enough
returns-clause-enough c = λ ss h.
    let n = c.args.number in
    let rest : List Statement = c.args.self.rest.now in
    let i : in_order None rest ≡ true = h.ordered c.if-not-self.false in
    record {
      same = ap (all_on n) c.split.ensures.before ∙ run_same n rest i ∙ sym (h.same n (same_number n));
      first = λ created. rw c.split.ensures.before (run_first ss rest c.args.self.earlier n created i (h.first key.Primary refl) (h.first (key.Subkey n created) (same_number n)));
    }

pub returns-clause-walk : goal.returns-clause-walk
returns-clause-walk c = λ ss h.
    let n = c.args.number in
    let rest : List Statement = c.args.self.rest.now in
    let i : in_order None rest ≡ true = h.ordered c.if-not-self.false in
    record {
      ordered = λ o. rw c.split.ensures.behind (ordered_behind n rest i);
      same = λ k l.
          let m : n + 1 ≤ k = leb-true (n + 1) k l in
          h.same k (le-leb n k (omega arith)) ∙ sym (rest_same n k rest (omega arith)) ∙ ap (all_on k) (sym c.split.ensures.behind);
      first = λ k l. rw (c.or.ensures, c.first_revocation.ensures, c.split.ensures.before, c.split.ensures.behind) (rest_first ss rest c.args.self.earlier n k l (h.first k (from_before n k l)));
    }
