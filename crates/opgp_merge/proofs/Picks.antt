-- Certificates that are picked, one after the other.
use Rattle.std.proofs.Common.{◌≡◌, ◌∙◌, ℕ, suc, ◌+◌, ◌<◌, ◌≤◌, Bool, true, false, List, [], ◌∷◌, ◌++◌, length, map, take, refl, sym, ap, if◌then◌else◌, append-nil, get_or, arith}
use Rattle.std.specs.List.{enumerate_from, filter}
use Rattle.std.proofs.lemmas.List.{length-take-le, map-append, take_more}
use Rattle.std.proofs.lemmas.List.Elements.{filter-append}
use Rattle.opgp_keyring.specs.Keyring.{CertificateValue}
use Rattle.opgp_merge.specs.Picked.{is_picked, picked_of}

-- one more has the next number
numbered_more : {X : Type 0} (n : ℕ) (xs : List X) (y : X) → enumerate_from n (xs ++ y ∷ []) ≡ enumerate_from n xs ++ (n + length xs, y) ∷ []
numbered_more n [] y = let e : n ≡ n + 0 = omega arith in ap (λ (k : ℕ). (k, y) ∷ []) e
numbered_more n (x ∷ xs) y =
    let e : (n + 1) + length xs ≡ n + suc (length xs) = omega arith in
    ap (λ l. (n, x) ∷ l) (numbered_more (n + 1) xs y ∙ ap (λ (k : ℕ). enumerate_from (n + 1) xs ++ (k, y) ∷ []) e)

abbrev if_picked : Bool → CertificateValue → List CertificateValue
if_picked b c = if b then c ∷ [] else []

one_is : (ps : List ℕ) (n : ℕ) (c : CertificateValue) (b : Bool) → is_picked ps n ≡ b → map (λ (p : ℕ × CertificateValue). p.1) (filter (λ (p : ℕ × CertificateValue). is_picked ps p.0) ((n, c) ∷ [])) ≡ if_picked b c
one_is ps n c true e = rw e refl
one_is ps n c false e = rw e refl

picked_more : (ps : List ℕ) (cs : List CertificateValue) (c : CertificateValue) (b : Bool) → is_picked ps (length cs) ≡ b → picked_of ps (cs ++ c ∷ []) ≡ picked_of ps cs ++ if_picked b c
picked_more ps cs c b e =
    let f = λ (p : ℕ × CertificateValue). is_picked ps p.0 in
    let s = λ (p : ℕ × CertificateValue). p.1 in
    let n : 0 + length cs ≡ length cs = omega arith in
    ap (λ (l : List (ℕ × CertificateValue)). map s (filter f l)) (numbered_more 0 cs c)
    ∙ ap (map s) (filter-append f (enumerate_from 0 cs) ((0 + length cs, c) ∷ []))
    ∙ map-append s (filter f (enumerate_from 0 cs)) (filter f ((0 + length cs, c) ∷ []))
    ∙ ap (λ (l : List CertificateValue). picked_of ps cs ++ l) (one_is ps (0 + length cs) c b (ap (is_picked ps) n ∙ e))

next : (ps : List ℕ) (i : ℕ) (cs : List CertificateValue) (c : CertificateValue) (b : Bool) → i < length cs → c ≡ get_or cs i c → is_picked ps i ≡ b → picked_of ps (take (i + 1) cs) ≡ picked_of ps (take i cs) ++ if_picked b c
next ps i cs c b h is e =
    let n : i ≤ length cs = omega (arith, h) in
    ap (picked_of ps) (take_more cs i c h) ∙ ap (λ (d : CertificateValue). picked_of ps (take i cs ++ d ∷ [])) (sym is)
    ∙ picked_more ps (take i cs) c b (ap (is_picked ps) (length-take-le i cs n) ∙ e)

-- the certificate in place i is picked, and added
pub picks : (ps : List ℕ) (i : ℕ) (cs : List CertificateValue) (c : CertificateValue) (done after : List CertificateValue) → i < length cs → c ≡ get_or cs i c → is_picked ps i ≡ true
    → done ≡ picked_of ps (take i cs) → after ≡ done ++ c ∷ [] → after ≡ picked_of ps (take (i + 1) cs)
picks ps i cs c done after h is e so pushed = pushed ∙ ap (λ (l : List CertificateValue). l ++ c ∷ []) so ∙ sym (next ps i cs c true h is e)

-- it isn't, and nothing is added
pub passes : (ps : List ℕ) (i : ℕ) (cs : List CertificateValue) (c : CertificateValue) (done : List CertificateValue) → i < length cs → c ≡ get_or cs i c → is_picked ps i ≡ false
    → done ≡ picked_of ps (take i cs) → done ≡ picked_of ps (take (i + 1) cs)
passes ps i cs c done h is e so = so ∙ sym (next ps i cs c false h is e ∙ append-nil (picked_of ps (take i cs)))
