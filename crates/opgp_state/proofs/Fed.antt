-- Hashers that are fed piece by piece.
use Rattle.std.proofs.Common.{◌≡◌, ◌++◌, ◌∙◌, ℕ, List, [], refl, sym, ap, subst, append_assoc, append-nil}

-- the hasher was fed all of some octets but those that are left
abbrev pub FedAllBut : {S : Type 0} → (S → List ℕ → Type 0) → S → S → List ℕ → List ℕ → Type 0
FedAllBut holds old new left whole = (m : List ℕ) → holds old m → (done : List ℕ) × (whole ≡ done ++ left) × holds new (m ++ done)

module _ {S : Type 0} (holds : S → List ℕ → Type 0) where
  pub fed_nothing : (s : S) (whole : List ℕ) → FedAllBut holds s s whole whole
  fed_nothing s whole m h = ([], refl, subst (λ l. holds s l) (sym (append-nil m)) h)

  pub fed_more : (old mid new : S) (left part rest whole : List ℕ) → FedAllBut holds old mid left whole → left ≡ part ++ rest
      → ((m : List ℕ) → holds mid m → holds new (m ++ part)) → FedAllBut holds old new rest whole
  fed_more old mid new left part rest whole so e h m k =
      let (done, w, f) = so m k in (
        done ++ part,
        w ∙ ap (λ l. done ++ l) e ∙ sym (append_assoc done part rest),
        subst (λ l. holds new l) (append_assoc m done part) (h (m ++ done) f),
      )

  pub fed_all : (old new : S) (left whole : List ℕ) → FedAllBut holds old new left whole → left ≡ [] → (m : List ℕ) → holds old m → holds new (m ++ whole)
  fed_all old new left whole so e m k =
      let (done, w, f) = so m k in
      subst (λ l. holds new (m ++ l)) (sym (w ∙ ap (λ l. done ++ l) e ∙ append-nil done)) f

  -- one piece, and then another
  pub fed_both : (old mid new : S) (first second : List ℕ) → ((m : List ℕ) → holds old m → holds mid (m ++ first)) → ((m : List ℕ) → holds mid m → holds new (m ++ second))
      → (m : List ℕ) → holds old m → holds new (m ++ (first ++ second))
  fed_both old mid new first second h k m f = subst (λ l. holds new l) (append_assoc m first second) (k (m ++ first) (h m f))
