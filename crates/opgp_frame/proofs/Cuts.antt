-- Bodies cut by exponents.
use Rattle.std.proofs.Common.{◌≡◌, ℕ, suc, ◌+◌, ◌-◌, ◌≤◌, ◌^◌, All, get_or, subst, List, [], ◌∷◌, ◌++◌, length, take, drop, refl, sym, ap, ◌∙◌, arith, length-append, append_assoc, append-nil}
use Rattle.std.proofs.lemmas.List.{take-append-drop, take-append-le, drop-append-le, length-drop, take_all}
use Rattle.opgp_frame.specs.Packet.{cut_body}
use Rattle.opgp_frame.specs.PiecesValue.{pieces_sum}

-- each piece has an octet of its own, its length
pub cut_body_size : (ks last body : List ℕ) → length (cut_body ks last body) ≡ length ks + length last + length body
cut_body_size [] last body = omega (arith, length-append last body)
cut_body_size (k ∷ ks) last body =
    let piece = take (2 ^ k) body in
    let rest = drop (2 ^ k) body in
    omega (arith, length-append piece (cut_body ks last rest), cut_body_size ks last rest, ap length (take-append-drop (2 ^ k) body), length-append piece rest)

-- what follows is more of the body
pub cut_body-append : (ks last body more : List ℕ) → pieces_sum ks ≤ length body → cut_body ks last body ++ more ≡ cut_body ks last (body ++ more)
cut_body-append [] last body more le = append_assoc last body more
cut_body-append (k ∷ ks) last body more le =
    let room : 2 ^ k ≤ length body = omega (arith, le) in
    let piece : List ℕ = take (2 ^ k) body in
    let rest : List ℕ = drop (2 ^ k) body in
    let again = cut_body-append ks last rest more (omega (arith, le, length-drop (2 ^ k) body)) in
    ap (λ (l : List ℕ). (224 + k) ∷ l) (append_assoc piece (cut_body ks last rest) more ∙ ap (λ (l : List ℕ). piece ++ l) again ∙ rw (take-append-le (2 ^ k) body more room, drop-append-le (2 ^ k) body more room) refl)

-- a partial length is the last one of what came so far, or its piece is one more
pub cut_body-push : (ks body : List ℕ) (k : ℕ) → cut_body ks ((224 + k) ∷ []) body ≡ cut_body (ks ++ k ∷ []) [] body
cut_body-push [] body k = ap (λ (l : List ℕ). (224 + k) ∷ l) (sym (take-append-drop (2 ^ k) body))
cut_body-push (j ∷ ks) body k = ap (λ (l : List ℕ). (224 + j) ∷ (take (2 ^ j) body ++ l)) (cut_body-push ks (drop (2 ^ j) body) k)

pub pieces_sum-push : (ks : List ℕ) (k : ℕ) → pieces_sum (ks ++ k ∷ []) ≡ pieces_sum ks + 2 ^ k
pieces_sum-push [] k = omega arith
pieces_sum-push (j ∷ ks) k = omega (arith, pieces_sum-push ks k)

-- what follows behind whole pieces is more of the last length
pub cut_body-last : (ks last body more : List ℕ) → length body ≡ pieces_sum ks → cut_body ks last body ++ more ≡ cut_body ks (last ++ more) body
cut_body-last [] last [] more whole = ap (λ (l : List ℕ). l ++ more) (append-nil last) ∙ sym (append-nil (last ++ more))
cut_body-last [] last (b ∷ body) more whole = absurd (omega (arith, whole))
cut_body-last (k ∷ ks) last body more whole =
    let piece : List ℕ = take (2 ^ k) body in
    let rest : List ℕ = drop (2 ^ k) body in
    ap (λ (l : List ℕ). (224 + k) ∷ l) (append_assoc piece (cut_body ks last rest) more ∙ ap (λ (l : List ℕ). piece ++ l) (cut_body-last ks last rest more (omega (arith, whole, length-drop (2 ^ k) body))))

-- ---- the pieces behind the first one

rest_is : (k : ℕ) (ks : List ℕ) → take (length (k ∷ ks) - 1) (drop 1 (k ∷ ks)) ≡ ks
rest_is k ks = take_all (length (k ∷ ks) - 1) ks (omega arith)

pub rest_small : (xs : List ℕ) → 1 ≤ length xs → All (λ k. k ≤ 30) xs → All (λ k. k ≤ 30) (take (length xs - 1) (drop 1 xs))
rest_small [] some each = absurd (omega (arith, some))
rest_small (k ∷ ks) some each = subst (All (λ k. k ≤ 30)) (sym (rest_is k ks)) (λ i d lt. each (suc i) d (omega (arith, lt)))

pub rest_room : (xs body : List ℕ) (n : ℕ) → 1 ≤ length xs → pieces_sum xs ≤ length body → n + 2 ^ get_or xs 0 0 ≡ length body → pieces_sum (take (length xs - 1) (drop 1 xs)) ≤ n
rest_room [] body n some room e = absurd (omega (arith, some))
rest_room (k ∷ ks) body n some room e = omega (arith, ap pieces_sum (rest_is k ks), room, e)
