-- Octets cut out of a list.
use Rattle.std.proofs.Common.{◌≡◌, ◌∙◌, ℕ, ◌+◌, List, [], ◌∷◌, ◌++◌, length, map, refl, sym, ap, append_assoc}
use Rattle.std.specs.Prelude.{take, drop}
use Rattle.std.specs.List.{flat_map}
use Rattle.std.proofs.lemmas.List.{drop-drop}
use Rattle.std.proofs.Math.Seq.{take-append_seam, drop-append_seam}
use Rattle.opgp_tables.specs.Parts.{cuts}

-- those at a place are the first of what is left there
pub here : (bytes : List ℕ) (at : ℕ) (o rest : List ℕ) → drop at bytes ≡ o ++ rest → take (length o) (drop at bytes) ≡ o
here bytes at o rest e = ap (λ (l : List ℕ). take (length o) l) e ∙ take-append_seam o rest

-- and the others come after them
pub next : (bytes : List ℕ) (at : ℕ) (o rest : List ℕ) → drop at bytes ≡ o ++ rest → drop (at + length o) bytes ≡ rest
next bytes at o rest e = sym (drop-drop (length o) at bytes) ∙ ap (λ (l : List ℕ). drop (length o) l) e ∙ drop-append_seam o rest

-- pieces of their sizes, one after the other
pub cut_all : (bytes : List ℕ) (at : ℕ) (parts : List (List ℕ)) (rest : List ℕ) → drop at bytes ≡ flat_map (λ (o : List ℕ). o) parts ++ rest → cuts bytes at (map length parts) ≡ parts
cut_all bytes at [] rest e = refl
cut_all bytes at (o ∷ parts) rest e =
    let more : List ℕ = flat_map (λ (o : List ℕ). o) parts in
    let f : drop at bytes ≡ o ++ (more ++ rest) = e ∙ append_assoc o more rest in
    ap (λ (l : List ℕ). l ∷ cuts bytes (at + length o) (map length parts)) (here bytes at o (more ++ rest) f)
    ∙ ap (λ (l : List (List ℕ)). o ∷ l) (cut_all bytes (at + length o) parts rest (next bytes at o (more ++ rest) f))
