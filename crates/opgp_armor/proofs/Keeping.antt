-- What is kept of an unfinished line.
use Rattle.std.proofs.Common.{◌≡◌, ℕ, zero, suc, ◌+◌, ◌-◌, ◌<◌, ◌≤◌, Bool, true, false, cond, not, nat_eq, nat_lt, List, [], ◌∷◌, ◌++◌, length, take, drop, refl, sym, ap, ◌∙◌, arith, inl, inr, Err}
use Rattle.std.proofs.lemmas.List.{append_assoc, append-nil, length-append, take_all, take-take, length-take, take-append-le, take-append-drop}
use Rattle.std.proofs.lemmas.Bool.{cases_Bool, cases_lt, lt-ltb}
use Rattle.std.specs.Cmp.Lexicographic.{pointwise}
use Rattle.std.specs.List.{starts_with}
use Rattle.opgp_armor.specs.declared.section.Section.{Section}
use Rattle.opgp_armor.specs.declared.section.Section.TheVariants.{Outside, Headers, Data, AfterChecksum}
use Rattle.opgp_octets.specs.declared.fault.Reason.TheVariants as reason
use Rattle.opgp_octets.specs.declared.outside.Outside.{Outside as Policy}
use Rattle.opgp_octets.specs.declared.outside.Outside.TheVariants as policy
use Rattle.opgp_armor.specs.Rules.{LineRule}
use Rattle.opgp_armor.specs.Text.{Line, begin_mark}
use Rattle.opgp_armor.specs.Armored.{passes_by}
use Rattle.opgp_armor.specs.Machine.{State, on_outside, step}
use Rattle.opgp_armor.specs.Cuts.{kept, kept_outside}

pub take_seen : (n : ℕ) (a b : List ℕ) → take n (take n a ++ b) ≡ take n (a ++ b)
take_seen zero a b = refl
take_seen (suc n) [] b = refl
take_seen (suc n) (x ∷ a) b = ap (λ (v : List ℕ). x ∷ v) (take_seen n a b)

-- a list, and as much of another as there is room for
pub filled : (n : ℕ) (a b : List ℕ) → length a ≤ n → a ++ take (n - length a) b ≡ take n (a ++ b)
filled n [] b h = ap (λ (v : ℕ). take v b) (less_none n)
  where
    less_none : (m : ℕ) → m - 0 ≡ m
    less_none m = omega arith
filled zero (x ∷ a) b h = absurd (omega arith)
filled (suc n) (x ∷ a) b h = ap (λ (v : List ℕ). x ∷ v) (ap (λ (v : ℕ). a ++ take v b) (less_one n (length a)) ∙ filled n a b (omega arith))
  where
    less_one : (m k : ℕ) → suc m - suc k ≡ m - k
    less_one m k = omega arith

full : (n : ℕ) (a b : List ℕ) → n ≤ length a → a ++ take (n - length a) b ≡ a
full n a b h = ap (λ (v : ℕ). a ++ take v b) (none n (length a) h) ∙ append-nil a
  where
    none : (m k : ℕ) → m ≤ k → m - k ≡ 0
    none m k h = omega arith

-- whether a line begins with the mark is seen in its first octets
pub mark_seen : (n : ℕ) (l : Line) → 15 ≤ n → starts_with nat_eq (take n l) begin_mark ≡ starts_with nat_eq l begin_mark
mark_seen n l large = ap (λ (v : List ℕ). pointwise nat_eq begin_mark v) (take-take 15 n l large)

mark_front : (n : ℕ) (l more : Line) → 15 ≤ length l → starts_with nat_eq (l ++ more) begin_mark ≡ starts_with nat_eq l begin_mark
mark_front n l more large = ap (λ (v : List ℕ). pointwise nat_eq begin_mark v) (take-append-le 15 l more large)

pointwise_short : (a b : List ℕ) → length b < length a → pointwise nat_eq a b ≡ false
pointwise_short [] b h = absurd (omega arith)
pointwise_short (x ∷ a) [] h = refl
pointwise_short (x ∷ a) (y ∷ b) h = elim (cases_Bool (nat_eq x y)) [
  | inl e ↦ rw e (pointwise_short a b (omega arith))
  | inr n ↦ rw n refl
]

-- a line that begins with the mark has its length
mark_long : (l : Line) → starts_with nat_eq l begin_mark ≡ true → 15 ≤ length l
mark_long l h = elim (cases_lt (length l) 15) [
  | inl lt ↦ cc (sym (pointwise_short begin_mark (take 15 l) (omega (arith, length-take 15 l))) ∙ h)
  | inr ge ↦ ge
]

-- lines outside are passed over
abbrev pub skipping : ℕ → LineRule
skipping limit = record { most = limit; outside = policy.Skip }

kept_passing : (limit : ℕ) (l : Line) → starts_with nat_eq l begin_mark ≡ false → kept (skipping limit) Outside l ≡ take 15 l
kept_passing limit l h = ap (λ (v : Bool). take (cond (not v) 15 (limit + 1)) l) h

kept_beginning : (limit : ℕ) (l : Line) → starts_with nat_eq l begin_mark ≡ true → kept (skipping limit) Outside l ≡ take (limit + 1) l
kept_beginning limit l h = ap (λ (v : Bool). take (cond (not v) 15 (limit + 1)) l) h

-- the octets of a line that doesn't begin with the mark
pub keeps_passing : (limit : ℕ) (tail part b : List ℕ) → 128 ≤ limit → b ≡ kept (skipping limit) Outside tail → starts_with nat_eq (b ++ take (15 - length b) part) begin_mark ≡ false
    → b ++ take (15 - length b) part ≡ kept (skipping limit) Outside (tail ++ part)
keeps_passing limit tail part b large is test = elim (cases_Bool (starts_with nat_eq tail begin_mark)) [
  | inl y ↦
      let whole : b ≡ take (limit + 1) tail = is ∙ kept_beginning limit tail y in
      let same : starts_with nat_eq b begin_mark ≡ true = ap (λ (v : List ℕ). starts_with nat_eq v begin_mark) whole ∙ mark_seen (limit + 1) tail (omega arith) ∙ y in
      cc (sym (ap (λ (v : List ℕ). starts_with nat_eq v begin_mark) (full 15 b part (mark_long b same)) ∙ same) ∙ test)
  | inr n ↦
      let whole : b ≡ take 15 tail = is ∙ kept_passing limit tail n in
      let now : b ++ take (15 - length b) part ≡ take 15 (tail ++ part) =
      filled 15 b part (omega (arith, ap length whole, length-take 15 tail)) ∙ ap (λ (v : List ℕ). take 15 (v ++ part)) whole ∙ take_seen 15 tail part in
      let passes : starts_with nat_eq (tail ++ part) begin_mark ≡ false = sym (mark_seen 15 (tail ++ part) (omega arith)) ∙ ap (λ (v : List ℕ). starts_with nat_eq v begin_mark) (sym now) ∙ test in
      now ∙ sym (kept_passing limit (tail ++ part) passes)
]

rest_after : (b part : List ℕ) (n m : ℕ) → take n part ≡ take m part → n ≤ length part → (b ++ take m part) ++ drop n part ≡ b ++ part
rest_after b part n m e h =
    ap (λ (v : List ℕ). (b ++ v) ++ drop n part) (sym e) ∙ append_assoc b (take n part) (drop n part) ∙ ap (λ (v : List ℕ). b ++ v) (take-append-drop n part)

-- the octets of a line that begins with the mark
pub keeps_beginning : (limit n : ℕ) (tail part b rest : List ℕ) → 128 ≤ limit → b ≡ kept (skipping limit) Outside tail → starts_with nat_eq (b ++ take (15 - length b) part) begin_mark ≡ true
    → n ≤ length part → take n part ≡ take (15 - length b) part → rest ≡ drop n part
    → (b ++ take (15 - length b) part) ++ take (limit + 1 - length (b ++ take (15 - length b) part)) rest ≡ kept (skipping limit) Outside (tail ++ part)
keeps_beginning limit n tail part b rest large is test within first rest_is =
    let b1 : List ℕ = b ++ take (15 - length b) part in
    let short : length b ≤ limit + 1 = elim (cases_Bool (starts_with nat_eq tail begin_mark)) [
      | inl y ↦ omega (arith, ap length (is ∙ kept_beginning limit tail y), length-take (limit + 1) tail)
      | inr n ↦ omega (arith, ap length (is ∙ kept_passing limit tail n), length-take 15 tail)
    ] in
    let short1 : length b1 ≤ limit + 1 = omega (arith, length-append b (take (15 - length b) part), length-take (15 - length b) part) in
    let now : b1 ++ take (limit + 1 - length b1) rest ≡ take (limit + 1) (b ++ part) =
    filled (limit + 1) b1 rest short1 ∙ ap (λ (v : List ℕ). take (limit + 1) (b1 ++ v)) rest_is ∙ ap (take (limit + 1)) (rest_after b part n (15 - length b) first within) in
    let end : (starts_with nat_eq (tail ++ part) begin_mark ≡ true) × (take (limit + 1) (b ++ part) ≡ take (limit + 1) (tail ++ part)) = elim (cases_Bool (starts_with nat_eq tail begin_mark)) [
      | inl y ↦ (
        mark_front 15 tail part (mark_long tail y) ∙ y,
        ap (λ (v : List ℕ). take (limit + 1) (v ++ part)) (is ∙ kept_beginning limit tail y) ∙ take_seen (limit + 1) tail part,
      )
      | inr none ↦
          let whole : b ≡ take 15 tail = is ∙ kept_passing limit tail none in
          elim (cases_lt 15 (length tail)) [
            | inl long ↦
                let length_b : length b ≡ 15 = omega (arith, ap length whole, length-take 15 tail) in
                let same : starts_with nat_eq b1 begin_mark ≡ starts_with nat_eq tail begin_mark =
                ap (λ (v : List ℕ). starts_with nat_eq v begin_mark) (full 15 b part (omega arith) ∙ whole) ∙ mark_seen 15 tail (omega arith) in
                cc (sym (same ∙ none) ∙ test)
            | inr few ↦
                let same : b ≡ tail = whole ∙ take_all 15 tail few in
                let seen : b1 ≡ take 15 (tail ++ part) = filled 15 b part (omega (arith, ap length same)) ∙ ap (λ (v : List ℕ). take 15 (v ++ part)) same in (
                  sym (mark_seen 15 (tail ++ part) (omega arith)) ∙ ap (λ (v : List ℕ). starts_with nat_eq v begin_mark) (sym seen) ∙ test,
                  ap (λ (v : List ℕ). take (limit + 1) (v ++ part)) same,
                )
          ]
    ] in
    now ∙ end.1 ∙ sym (kept_beginning limit (tail ++ part) end.0)

-- the first octets of a line that goes on
pub keeps_front : (n : ℕ) (tail part b : List ℕ) → b ≡ take n tail → b ++ take (n - length b) part ≡ take n (tail ++ part)
keeps_front n tail part b is =
    filled n b part (omega (arith, ap length is, length-take n tail)) ∙ ap (λ (v : List ℕ). take n (v ++ part)) is ∙ take_seen n tail part

-- where lines outside are refused, as much is kept of them as of others
kept_refused : (o : Policy) (limit : ℕ) (section : Section) (l : Line) → o ≡ policy.Refuse → kept (record { most = limit; outside = o }) section l ≡ take (limit + 1) l
kept_refused policy.Skip limit section l is = cc
kept_refused policy.Refuse limit section l is = elim (cases_Bool (passes_by section l)) [
  | inl y ↦ ap (λ (v : Bool). take (cond v (limit + 1) (limit + 1)) l) y
  | inr n ↦ ap (λ (v : Bool). take (cond v (limit + 1) (limit + 1)) l) n
]

pub keeps_refused : (o : Policy) (limit : ℕ) (section : Section) (part b new : List ℕ) → o ≡ policy.Refuse → ((tail : List ℕ) → b ≡ take (limit + 1) tail → new ≡ take (limit + 1) (tail ++ part))
    → (tail : List ℕ) → b ≡ kept (record { most = limit; outside = o }) section tail → new ≡ kept (record { most = limit; outside = o }) section (tail ++ part)
keeps_refused o limit section part b new refuses keeps tail is =
    keeps tail (is ∙ kept_refused o limit section tail refuses) ∙ sym (kept_refused o limit section (tail ++ part) refuses)

-- ---- the machine looks at no more of a line
passes_seen : (n : ℕ) (section : Section) (l : Line) → 15 ≤ n → passes_by section (take n l) ≡ passes_by section l
passes_seen n Outside l large = ap not (mark_seen n l large)
passes_seen n (Headers k) l large = refl
passes_seen n (Data k) l large = refl
passes_seen n (AfterChecksum k) l large = refl

mark_kept : (o : Policy) (limit : ℕ) → 128 ≤ limit → 15 ≤ kept_outside o limit
mark_kept policy.Skip limit large = omega arith
mark_kept policy.Refuse limit large = omega arith

long_seen : (limit : ℕ) (l : Line) → nat_lt limit (length (take (limit + 1) l)) ≡ nat_lt limit (length l)
long_seen limit l = elim (cases_lt limit (length l)) [
  | inl lt ↦ lt-ltb limit (length (take (limit + 1) l)) (omega (arith, length-take (limit + 1) l)) ∙ sym (lt-ltb limit (length l) lt)
  | inr ge ↦ ap (λ (v : List ℕ). nat_lt limit (length v)) (take_all (limit + 1) l (omega arith))
]

outside_seen : (o : Policy) (limit : ℕ) (s : State) (l : Line) → on_outside o limit s (take (kept_outside o limit) l) ≡ on_outside o limit s l
outside_seen policy.Skip limit s l = refl
outside_seen policy.Refuse limit s l = rw (take-take (limit + 1) (limit + 1) l (omega arith), long_seen limit l) refl

step_passing : (rule : LineRule) (s : State) (l : Line) → passes_by s.section l ≡ true → step rule s l ≡ on_outside rule.outside rule.most s l
unfolding step
step_passing rule s l h = rw h refl

step_long : (rule : LineRule) (s : State) (l : Line) → passes_by s.section l ≡ false → rule.most < length l → step rule s l ≡ Err reason.LineTooLong
unfolding step
step_long rule s l n h = rw (n, lt-ltb rule.most (length l) h) refl

pub step_seen : (rule : LineRule) (s : State) (l : Line) → 128 ≤ rule.most → step rule s (kept rule s.section l) ≡ step rule s l
step_seen rule s l large =
    let few : ℕ = kept_outside rule.outside rule.most in
    let many : ℕ = rule.most + 1 in
    elim (cases_Bool (passes_by s.section l)) [
      | inl y ↦
          let is : kept rule s.section l ≡ take few l = ap (λ (v : Bool). take (cond v few many) l) y in
          ap (step rule s) is
          ∙ step_passing rule s (take few l) (passes_seen few s.section l (mark_kept rule.outside rule.most large) ∙ y)
          ∙ outside_seen rule.outside rule.most s l
          ∙ sym (step_passing rule s l y)
      | inr n ↦
          let is : kept rule s.section l ≡ take many l = ap (λ (v : Bool). take (cond v few many) l) n in
          elim (cases_lt rule.most (length l)) [
            | inl lt ↦
                ap (step rule s) is
                ∙ step_long rule s (take many l) (passes_seen many s.section l (omega arith) ∙ n) (omega (arith, length-take many l))
                ∙ sym (step_long rule s l n lt)
            | inr ge ↦ ap (step rule s) (is ∙ take_all many l (omega arith))
          ]
    ]

some_kept : (o : Policy) (limit c : ℕ) (l : List ℕ) → take (kept_outside o limit) (c ∷ l) ≡ [] → ⊥
some_kept policy.Skip limit c l h = cc h
some_kept policy.Refuse limit c l h = let e : length (take (limit + 1) (c ∷ l)) ≡ 0 = ap length h in absurd (omega (arith, length-take (limit + 1) (c ∷ l)))

-- nothing is kept of a line exactly where it has no octets
pub kept_none : (rule : LineRule) (section : Section) (l : Line) → kept rule section l ≡ [] → l ≡ []
kept_none rule section [] h = refl
kept_none rule section (c ∷ l) h =
    let few : ℕ = kept_outside rule.outside rule.most in
    let many : ℕ = rule.most + 1 in
    elim (cases_Bool (passes_by section (c ∷ l))) [
      | inl y ↦ absurd (some_kept rule.outside rule.most c l (sym (ap (λ (v : Bool). take (cond v few many) (c ∷ l)) y) ∙ h))
      | inr n ↦ absurd (some_kept policy.Refuse rule.most c l (sym (ap (λ (v : Bool). take (cond v few many) (c ∷ l)) n) ∙ h))
    ]
