-- Tables that are filled part by part.
use Rattle.std.proofs.Common.{◌≡◌, ◌∙◌, ℕ, ◌+◌, ◌-◌, List, ◌++◌, length, take, drop, sym, ap, arith, append_assoc}
use Rattle.std.proofs.lemmas.List.{drop-drop}
use Rattle.std.proofs.Math.Seq.{drop-append-add, take-append_seam}
use borrow.Rule.Slice.PartMut.{put_mid}

pub put_is : (at : ℕ) (ys xs : List ℕ) → put_mid at (at + length ys - at) xs ys ≡ take at xs ++ (ys ++ drop (at + length ys) xs)
put_is at ys xs =
    let e : at + length ys - at ≡ length ys = omega arith in
    ap (λ k. take at xs ++ (ys ++ drop k (drop at xs))) e ∙ ap (λ l. take at xs ++ (ys ++ l)) (drop-drop (length ys) at xs)

-- octets behind those that were put
pub put_behind : (at n : ℕ) (front ys old xs new : List ℕ) → length front ≡ at → n ≡ at + length ys → xs ≡ front ++ drop at old
    → new ≡ take at xs ++ (ys ++ drop (at + length ys) xs) → new ≡ (front ++ ys) ++ drop n old
put_behind at n front ys old xs new long next is made =
    let t : take at xs ≡ front = ap (λ l. take at l) is ∙ ap (λ k. take k (front ++ drop at old)) (sym long) ∙ take-append_seam front (drop at old) in
    let d : drop (at + length ys) xs ≡ drop n old =
    ap (λ l. drop (at + length ys) l) is ∙ ap (λ k. drop (k + length ys) (front ++ drop at old)) (sym long)
    ∙ drop-append-add front (drop at old) (length ys) ∙ drop-drop (length ys) at old ∙ ap (λ k. drop k old) (sym next) in
    made ∙ ap (λ l. l ++ (ys ++ drop (at + length ys) xs)) t ∙ ap (λ l. front ++ (ys ++ l)) d
    ∙ sym (append_assoc front ys (drop n old))
