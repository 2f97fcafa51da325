-- A line from its end, and what it says.
use Rattle.std.proofs.Common.{◌≡◌, ℕ, zero, suc, ◌+◌, ◌-◌, ◌<◌, ◌≤◌, true, false, List, [], ◌∷◌, ◌++◌, length, take, slice_index, refl, sym, ap, ◌∙◌, arith}
use Rattle.std.proofs.Common.{◌==◌, ◌⊎◌, inl, inr, true≢false, Some, None}
use Rattle.std.specs.List.{AllByRecursion}
use Rattle.std.proofs.lemmas.Bool.{cases_Bool, cases_eq, eqb-true, ne_eqb}
use Rattle.std.proofs.lemmas.Option.{none-some, same_Some}
use Rattle.std.proofs.lemmas.List.{take_more}
use Rattle.std.proofs.lemmas.List.Folds.{list_any-append}
use Rattle.opgp_cleartext.specs.Line.{without_blanks, strip_blank, is_blank, is_return, has_return, ends_blank, begins_dash}
use Rattle.opgp_cleartext.specs.Line.{SaysLine, unescaped_of, behind_dash}

blank_last : (a : List ℕ) (c : ℕ) → is_blank c ≡ true → without_blanks (a ++ c ∷ []) ≡ without_blanks a
unfolding without_blanks
blank_last [] c h = rw h refl
blank_last (x ∷ a) c h = ap (strip_blank x) (blank_last a c h)

stripped_kept : (x : ℕ) (a : List ℕ) (c : ℕ) → strip_blank x (a ++ c ∷ []) ≡ x ∷ (a ++ c ∷ [])
stripped_kept x [] c = refl
stripped_kept x (y ∷ a) c = refl

kept_last : (a : List ℕ) (c : ℕ) → is_blank c ≡ false → without_blanks (a ++ c ∷ []) ≡ a ++ c ∷ []
unfolding without_blanks
kept_last [] c h = rw h refl
kept_last (x ∷ a) c h = ap (strip_blank x) (kept_last a c h) ∙ stripped_kept x a c

pub front_more : (l : List ℕ) (n : ℕ) → 0 < n → n ≤ length l → take n l ≡ take (n - 1) l ++ slice_index l (n - 1) ∷ []
front_more l zero some h = absurd (omega arith)
front_more l (suc n) some h =
    let e : suc n ≡ n + 1 = omega arith in
    let f : n ≡ suc n - 1 = omega arith in
    ap (λ (v : ℕ). take v l) e ∙ take_more l n 0 (omega arith) ∙ ap (λ (v : ℕ). take v l ++ slice_index l v ∷ []) f

pub blanks_shorter : (l : List ℕ) (n : ℕ) → 0 < n → n ≤ length l → is_blank (slice_index l (n - 1)) ≡ true → without_blanks (take (n - 1) l) ≡ without_blanks (take n l)
blanks_shorter l n some h t = sym (ap without_blanks (front_more l n some h) ∙ blank_last (take (n - 1) l) (slice_index l (n - 1)) t)

pub blanks_done : (l : List ℕ) (n : ℕ) → 0 < n → n ≤ length l → is_blank (slice_index l (n - 1)) ≡ false → without_blanks (take n l) ≡ take n l
blanks_done l n some h t = ap without_blanks (front_more l n some h) ∙ kept_last (take (n - 1) l) (slice_index l (n - 1)) t ∙ sym (front_more l n some h)

pub blanks_none : (l : List ℕ) (n : ℕ) → n ≡ 0 → without_blanks (take n l) ≡ take n l
unfolding without_blanks
blanks_none l n z = rw z refl

-- ---- what a line says
abbrev AreBlanks : List ℕ → Type 0
AreBlanks octets = AllByRecursion (λ c. is_blank c ≡ true) octets

-- blanks alone are nothing
all_blank : (b : List ℕ) → AreBlanks b → without_blanks b ≡ []
unfolding without_blanks
all_blank [] e = refl
all_blank (c ∷ b) e = ap (strip_blank c) (all_blank b e.1) ∙ rw e.0 refl

-- a line that ends in no blank stays, and blanks behind it don't
stays : (s b : List ℕ) → ends_blank s ≡ false → AreBlanks b → without_blanks (s ++ b) ≡ s
unfolding without_blanks
stays [] b n e = all_blank b e
stays (c ∷ []) b n e = ap (strip_blank c) (all_blank b e) ∙ rw n refl
stays (c ∷ d ∷ s) b n e = ap (strip_blank c) (stays (d ∷ s) b n e)

pub record Cut (line : List ℕ) : Type 0 where
  pub blanks : List ℕ
  pub are_blanks : AreBlanks blanks
  pub whole : line ≡ without_blanks line ++ blanks
  pub ends : ends_blank (without_blanks line) ≡ false

cut_more : (c : ℕ) (l r : List ℕ) → without_blanks l ≡ r → Cut l → Cut (c ∷ l)
unfolding without_blanks
cut_more c l [] e k = elim (cases_Bool (is_blank c)) [
  | inl t ↦ record {
    blanks = c ∷ k.blanks;
    are_blanks = (t, k.are_blanks);
    whole = rw (e, t) (ap (λ (x : List ℕ). c ∷ x) (rw e at k.whole));
    ends = rw (e, t) refl;
  }
  | inr f ↦ record {
    blanks = k.blanks;
    are_blanks = k.are_blanks;
    whole = rw (e, f) (ap (λ (x : List ℕ). c ∷ x) (rw e at k.whole));
    ends = rw (e, f) f;
  }
]
cut_more c l (d ∷ r) e k = record {
  blanks = k.blanks;
  are_blanks = k.are_blanks;
  whole = rw e (ap (λ (x : List ℕ). c ∷ x) (rw e at k.whole));
  ends = rw e (rw e at k.ends);
}

pub cut : (line : List ℕ) → Cut line
unfolding without_blanks
cut [] = record { blanks = []; are_blanks = tt; whole = refl; ends = refl }
cut (c ∷ l) = cut_more c l (without_blanks l) refl (cut l)

-- ---- carriage returns
blank_clean : (c : ℕ) → is_blank c ≡ true → is_return c ≡ false
blank_clean c t = elim (cases_Bool (is_return c)) [
  | inl y ↦ absurd (true≢false (sym t ∙ ap is_blank (eqb-true c 13 y)))
  | inr n ↦ n
]

blanks_clean : (b : List ℕ) → AreBlanks b → has_return b ≡ false
blanks_clean [] e = refl
blanks_clean (c ∷ b) e = rw (blank_clean c e.0) (blanks_clean b e.1)

pub clean_front : (a b : List ℕ) → has_return (a ++ b) ≡ false → has_return a ≡ false
clean_front [] b p = refl
clean_front (c ∷ a) b p = elim (cases_Bool (is_return c)) [
  | inl y ↦ cc (rw y at p)
  | inr n ↦ rw n (clean_front a b (rw n at p))
]

pub clean_all : (a b : List ℕ) → has_return a ≡ false → AreBlanks b → has_return (a ++ b) ≡ false
clean_all a b p e = list_any-append is_return a b ∙ rw (p, blanks_clean b e) refl

clean_behind : (c : ℕ) (o : List ℕ) → has_return (c ∷ o) ≡ false → has_return o ≡ false
clean_behind c o p = elim (cases_Bool (is_return c)) [
  | inl y ↦ cc (rw y at p)
  | inr n ↦ rw n at p
]

-- ---- escaping
pub some_one : {x y : List ℕ} → Some x ≡ Some y → x ≡ y
some_one {x} {y} h = same_Some x y h

none_some : {x : List ℕ} → None ≡ Some x → ⊥
none_some {x} h = none-some x h

begins_none : (l : List ℕ) → begins_dash l ≡ false → unescaped_of l ≡ Some l
begins_none [] h = refl
begins_none (c ∷ l) h = rw h refl

-- a line that says something is read so
pub read_back : (line shown : List ℕ) → SaysLine line shown → (o : List ℕ) × (unescaped_of line ≡ Some o) × (has_return o ≡ false) × (without_blanks o ≡ shown)
read_back line shown s = (
  shown ++ s.blanks,
  elim s.spelled [
    | inl p ↦ rw p refl
    | inr p ↦ begins_none line p.1 ∙ ap (λ (x : List ℕ). Some x) p.0
  ],
  clean_all shown s.blanks s.clean s.are_blanks,
  stays shown s.blanks s.no_blank_last s.are_blanks,
)

pub one_line : (line a b : List ℕ) → SaysLine line a → SaysLine line b → a ≡ b
one_line line a b s t =
    let x = read_back line a s in
    let y = read_back line b t in
    sym x.3 ∙ ap without_blanks (some_one (sym x.1 ∙ y.1)) ∙ y.3

-- what is read is said
behind : (line l o : List ℕ) → line ≡ 45 ∷ l → behind_dash l ≡ Some o → line ≡ 45 ∷ 32 ∷ o
behind line [] o e h = absurd (none_some h)
behind line (c ∷ l) o e h = elim (cases_eq c 32) [
  | inl p ↦ e ∙ ap (λ (x : ℕ). 45 ∷ x ∷ l) p ∙ ap (λ (x : List ℕ). 45 ∷ 32 ∷ x) (some_one (rw p at h))
  | inr n ↦
      let f : (c == 32) ≡ false = ne_eqb c 32 n in
      absurd (none_some (rw f at h))
]

pub how : (line o : List ℕ) → unescaped_of line ≡ Some o → (line ≡ 45 ∷ 32 ∷ o) ⊎ ((line ≡ o) × (begins_dash line ≡ false))
how [] o h = inr (some_one h, refl)
how (c ∷ l) o h = elim (cases_eq c 45) [
  | inl p ↦ inl (behind (c ∷ l) l o (ap (λ (x : ℕ). x ∷ l) p) (rw p at h))
  | inr n ↦
      let f : (c == 45) ≡ false = ne_eqb c 45 n in
      inr (some_one (rw f at h), f)
]

pub said : (line o : List ℕ) → unescaped_of line ≡ Some o → has_return o ≡ false → SaysLine line (without_blanks o)
said line o h p =
    let k = cut o in
    record {
      blanks = k.blanks;
      are_blanks = k.are_blanks;
      clean = clean_front (without_blanks o) k.blanks (rw k.whole at p);
      no_blank_last = k.ends;
      spelled = elim (how line o h) [
        | inl e ↦ inl (e ∙ ap (λ (x : List ℕ). 45 ∷ 32 ∷ x) k.whole)
        | inr e ↦ inr (e.0 ∙ k.whole, e.1)
      ];
    }
