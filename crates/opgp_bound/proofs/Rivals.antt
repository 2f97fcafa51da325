-- When the newest signatures of each sort on a part were made.
use Rattle.std.proofs.Common.{◌≡◌, ◌∙◌, ℕ, ◌+◌, ◌≤◌, nat_le, List, [], ◌∷◌, Bool, true, false, ◌&&◌, cond, Option, Some, None, if◌then◌else◌, refl, sym, ap, arith}
use Rattle.std.specs.List.{filter}
use Rattle.std.proofs.lemmas.Bool.{le-leb, leb-true}
use Rattle.opgp_octets.specs.declared.signature_type.SignatureType.{SignatureType}
use Rattle.opgp_octets.specs.declared.signature_type.SignatureType.TheVariants as types
use Rattle.opgp_valid.specs.Group.{binds, certifies, is_direct, is_the}
use Rattle.opgp_valid.specs.Speaking.{latest}
use Rattle.opgp_valid.specs.Told.{is_same_number}
use Rattle.opgp_valid.specs.Walk.{all_on, behind, is_on, up_to}
use Rattle.opgp_valid.specs.declared.statement.Statement.{Statement}
use Rattle.opgp_valid.proofs.Parts.{same_kept, then_fails}
use Rattle.opgp_valid.proofs.Walks.{ordered_behind, rest_same, run_same}
use Rattle.opgp_bound.specs.Newest.{counts, is_rival, is_same_sort, newest_made}
use Rattle.opgp_bound.specs.Replacing.{AreAhead, time_of, times_on}
use Rattle.opgp_bound.specs.declared.ahead.Ahead.{Ahead}
use Rattle.opgp_bound.specs.declared.replaced.Times.{Times}

-- ---- those of one sort
none_pass : (p : Statement → Bool) → ((s : Statement) → p s ≡ false) → (ss : List Statement) → filter p ss ≡ []
none_pass p h [] = refl
none_pass p h (s ∷ ss) = ap (λ (t : Bool). cond t (s ∷ filter p ss) (filter p ss)) (h s) ∙ none_pass p h ss

never : (a b : Bool) → (a && (b && false)) ≡ false
never true true = refl
never true false = refl
never false b = refl

-- none is of no sort
pub no_sort : (at : ℕ) (ss : List Statement) (component : Option ℕ) → latest (filter (λ s. counts at s && (is_same_number s.component component && false)) ss) ≡ None
no_sort at ss component = ap latest (none_pass (λ s. counts at s && (is_same_number s.component component && false)) (λ s. never (counts at s) (is_same_number s.component component)) ss)

pub same_time : (at : ℕ) (ss : List Statement) (component : Option ℕ) (t : SignatureType) → time_of (times_on at ss component) t ≡ newest_made at ss component t
same_time at ss component t = go (is_direct t) (certifies t) (binds t) where
  go : (a b c : Bool) → (if a then newest_made at ss component types.DirectKey else (if b then newest_made at ss component types.GenericCertification else (if c then newest_made at ss component types.SubkeyBinding else None)))
      ≡ latest (filter (λ s. counts at s && (is_same_number s.component component && (if a then is_direct s.kind else (if b then certifies s.kind else (c && binds s.kind))))) ss)
  go true b c = refl
  go false true c = refl
  go false false true = refl
  go false false false = sym (no_sort at ss component)

-- ---- those on one component
on_part : (n : ℕ) (o : Option ℕ) → is_same_number o (Some n) ≡ is_the n o
on_part n None = refl
on_part n (Some m) = refl

same_part : (at n : ℕ) (t : SignatureType) (a b : List Statement) → all_on n a ≡ all_on n b → newest_made at a (Some n) t ≡ newest_made at b (Some n) t
same_part at n t a b e = ap latest (same_kept (is_rival at (Some n) t) (is_on n) (λ s f. then_fails (counts at s) (is_same_number s.component (Some n)) (is_same_sort t s.kind) (on_part n s.component ∙ f)) a b e)

pub part_time : (at n : ℕ) (t : SignatureType) (times : Times) (part ss : List Statement) → times ≡ times_on at part (Some n) → all_on n part ≡ all_on n ss → time_of times t ≡ newest_made at ss (Some n) t
part_time at n t times part ss e same = ap (λ (x : Times). time_of x t) e ∙ same_time at part (Some n) t ∙ same_part at n t part ss same

-- ---- the way
same_number : (n : ℕ) → nat_le n n ≡ true
same_number n = le-leb n n (omega arith)

module _ (ss : List Statement) (n : ℕ) (ahead : Ahead) (h : AreAhead ss n ahead) where
  pub all_enough : all_on n ahead.rest.now ≡ all_on n ss
  all_enough = sym (h.same n (same_number n))

  pub run_enough : (part : List Statement) → ahead.is_ordered ≡ true → part ≡ up_to n ahead.rest.now → all_on n part ≡ all_on n ss
  run_enough part o e = ap (all_on n) e ∙ run_same n ahead.rest.now (h.ordered o) ∙ all_enough

  pub ahead_next : (next : Ahead) → ahead.is_ordered ≡ true → next.rest.now ≡ behind n ahead.rest.now → AreAhead ss (n + 1) next
  ahead_next next o e = record {
    ordered = λ p. rw e (ordered_behind n ahead.rest.now (h.ordered o));
    same = λ k l.
        let m : n + 1 ≤ k = leb-true (n + 1) k l in
        h.same k (le-leb n k (omega arith)) ∙ sym (rest_same n k ahead.rest.now (omega arith)) ∙ ap (all_on k) (sym e);
  }

  pub ahead_still : AreAhead ss (n + 1) ahead
  ahead_still = record {
    ordered = h.ordered;
    same = λ k l. let m : n + 1 ≤ k = leb-true (n + 1) k l in h.same k (le-leb n k (omega arith));
  }
