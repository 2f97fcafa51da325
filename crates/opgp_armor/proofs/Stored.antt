-- Lists of stored values, one by one.
use Rattle.std.proofs.Common.{◌≡◌, ℕ, ◌+◌, ◌<◌, List, [], ◌∷◌, ◌++◌, length, take, get_or, sym, ap, ◌∙◌}
use Rattle.std.proofs.lemmas.List.{map-append, take_more}
use Rattle.opgp_armor.specs.Blocks.{StoredHeader, header_of_stored, headers_of}

-- one header more
pub headers_more : (done all : List StoredHeader) (i : ℕ) (x y : StoredHeader) → headers_of done ≡ headers_of (take i all) → i < length all → y ≡ get_or all i y → header_of_stored x ≡ header_of_stored y
    → headers_of (done ++ x ∷ []) ≡ headers_of (take (i + 1) all)
headers_more done all i x y e lt read same =
    map-append header_of_stored done (x ∷ [])
    ∙ ap (λ (v : List (List ℕ × List ℕ)). v ++ header_of_stored x ∷ []) e
    ∙ ap (λ (v : List ℕ × List ℕ). headers_of (take i all) ++ v ∷ []) (same ∙ ap header_of_stored read)
    ∙ sym (map-append header_of_stored (take i all) (get_or all i y ∷ []))
    ∙ ap headers_of (sym (take_more all i y lt))
