-- The octets of all rows, as certificates come.
use Rattle.std.proofs.Common.{◌≡◌, ◌∙◌, ℕ, ◌+◌, List, [], ◌∷◌, ◌++◌, map, length, refl, sym, ap, subst, arith, append-nil, append_assoc, length-append, Ok, Err}
use Rattle.opgp_hash.specs.Hashed.{hashed}
use Rattle.opgp_hash.specs.QuestionValue.{QuestionValue}
use Rattle.opgp_hash.specs.declared.why.Why.{Why}
use Rattle.opgp_report.specs.Asked.{Asked, asked_by}
use Rattle.opgp_report.specs.Standing.{Standing, by_number}
use Rattle.opgp_report.specs.Visitor.{Leaves}
use Rattle.opgp_stack.specs.AllOctets.{AddsRows, HasRows, asked_row, octets_row, octets_rows}

row_push : (n : ℕ) (asked : List Asked) (x : Asked) → by_number asked_row n (asked ++ x ∷ []) ≡ by_number asked_row n asked ++ asked_row (n + length asked) x
row_push n [] x = append-nil (asked_row n x) ∙ ap (λ (m : ℕ). asked_row m x) (omega arith)
row_push n (y ∷ ys) x =
    ap (λ (l : List ℕ). asked_row n y ++ l) (row_push (n + 1) ys x ∙ ap (λ (m : ℕ). by_number asked_row (n + 1) ys ++ asked_row m x) (omega arith))
    ∙ sym (append_assoc (asked_row n y) (by_number asked_row (n + 1) ys) (asked_row (n + length (y ∷ ys)) x))

octets_push : (asked : List Asked) (x : Asked) → octets_rows (asked ++ x ∷ []) ≡ octets_rows asked ++ asked_row (length asked) x
octets_push asked x = row_push 0 asked x ∙ ap (λ (m : ℕ). by_number asked_row 0 asked ++ asked_row m x) (omega arith)

module _ {D : Type 0} (has : D → List ℕ → Type 0) where
  more : (rows : ℕ) (old new : D) (asked : List Asked) (x : Asked) → ((given : List ℕ) → has old given → has new (given ++ asked_row rows x)) → HasRows has rows old asked → HasRows has (rows + 1) new (asked ++ x ∷ [])
  more rows old new asked x adds h = record {
    text = subst (has new) (sym (octets_push asked x)) (subst (λ (n : ℕ). has new (octets_rows asked ++ asked_row n x)) h.count (adds (octets_rows asked) h.text));
    count = omega (arith, h.count, length-append asked (x ∷ []));
  }

  -- a row that is hashed, and one that isn't
  one_hashed : (rows : ℕ) (old new : D) (asked : List Asked) (q : QuestionValue) → ((given : List ℕ) → has old given → has new (given ++ octets_row rows (hashed q))) → HasRows has rows old asked → HasRows has (rows + 1) new (asked ++ Ok q ∷ [])
  one_hashed rows old new asked q adds h = more rows old new asked (Ok q) adds h

  none_hashed : (rows : ℕ) (draft : D) (asked : List Asked) (why : Why) → HasRows has rows draft asked → HasRows has (rows + 1) draft (asked ++ Err why ∷ [])
  none_hashed rows draft asked why h = more rows draft draft asked (Err why) (λ given k. subst (has draft) (sym (append-nil given)) k) h

  -- the same, by steps
  pub row_added : (o m n : ℕ) (old mid new : D) (asked : List Asked) (read : Asked) (q : QuestionValue) → read ≡ Ok q → m ≡ o → n ≡ m + 1 → new ≡ mid → ((given : List ℕ) → has old given → has mid (given ++ octets_row o (hashed q)))
      → HasRows has o old asked → HasRows has n new (asked ++ read ∷ [])
  row_added o m n old mid new asked read q e a b d adds h =
      subst (λ (x : Asked). HasRows has n new (asked ++ x ∷ [])) (sym e)
      (subst (λ (k : ℕ). HasRows has k new (asked ++ Ok q ∷ [])) (sym (b ∙ ap (λ (k : ℕ). k + 1) a))
      (subst (λ (w : D). HasRows has (o + 1) w (asked ++ Ok q ∷ [])) (sym d) (one_hashed o old mid asked q adds h)))

  pub row_passed : (o n : ℕ) (old new : D) (asked : List Asked) (read : Asked) (why : Why) → read ≡ Err why → n ≡ o + 1 → new ≡ old → HasRows has o old asked → HasRows has n new (asked ++ read ∷ [])
  row_passed o n old new asked read why e b d h =
      subst (λ (x : Asked). HasRows has n new (asked ++ x ∷ [])) (sym e)
      (subst (λ (k : ℕ). HasRows has k new (asked ++ Err why ∷ [])) (sym b)
      (subst (λ (w : D). HasRows has (o + 1) w (asked ++ Err why ∷ [])) (sym d) (none_hashed o old asked why h)))

  -- no row yet
  pub no_rows : (draft : D) → has draft [] → HasRows has 0 draft []
  no_rows draft h = record { text = h; count = refl }

module _ {K E : Type 0} (Has : K → List Asked → Type 0) where
  -- a signature more
  pub shown_row : (old new : K) (s : Standing) → ((asked : List Asked) → Has old asked → Has new (asked ++ asked_by s ∷ [])) → Leaves (AddsRows {E = E} Has) old (s ∷ []) new []
  shown_row old new s one rest (Ok last) h = λ asked a. subst (Has last) (append_assoc asked (asked_by s ∷ []) (map asked_by rest)) (h (asked ++ asked_by s ∷ []) (one asked a))
  shown_row old new s one rest (Err e) h = tt

  -- all of a list
  pub all_shown : (old new : K) (list : List Standing) (asked : List Asked) → Leaves (AddsRows {E = E} Has) old list new [] → Has old asked → Has new (asked ++ map asked_by list)
  all_shown old new list asked leaves h =
      subst (λ (l : List Standing). Has new (asked ++ map asked_by l)) (append-nil list)
      (leaves [] (Ok new) (λ a k. subst (Has new) (sym (append-nil a)) k) asked h)
