-- The table of blocks, row after row.
use Rattle.std.proofs.Common.{◌≡◌, ◌∙◌, ℕ, ◌+◌, ◌<◌, List, [], ◌∷◌, ◌++◌, length, refl, sym, ap, arith, append_assoc, append-nil}
use Rattle.std.proofs.lemmas.List.{length-append}
use Rattle.opgp_blocks.specs.Blocks.{FoundValue, octets_of}
use Rattle.opgp_handles.specs.declared.finding.FoundRow.{FoundRow}
use Rattle.opgp_handles.specs.FoundBlocks.{found_row, found_rows}

pub row_is : (a s o z at : ℕ) (f : FoundValue) → a ≡ f.at → s ≡ f.size → o ≡ at → z ≡ length f.octets
    → (let r : FoundRow = record { at = a; size = s; octets_at = o; octets_size = z } in r) ≡ found_row at f
row_is a s o z at f p q r t = rw (p, q, r, t) refl

pub row_more : (rows new all : List FoundRow) (bytes more : List ℕ) (row : FoundRow) (f : FoundValue) (before fs : List FoundValue) → before ≡ f ∷ fs → rows ++ found_rows (length bytes) before ≡ all
    → new ≡ rows ++ row ∷ [] → row ≡ found_row (length bytes) f → more ≡ bytes ++ f.octets → new ++ found_rows (length more) fs ≡ all
row_more rows new all bytes more row f before fs is h n r m =
    let size : length more ≡ length bytes + length f.octets = ap (length {A = ℕ}) m ∙ length-append bytes f.octets in
    ap (λ (x : List FoundRow). x ++ found_rows (length more) fs) n ∙ append_assoc rows (row ∷ []) (found_rows (length more) fs)
    ∙ ap (λ (x : FoundRow). rows ++ x ∷ found_rows (length more) fs) r ∙ ap (λ (k : ℕ). rows ++ found_row (length bytes) f ∷ found_rows k fs) size
    ∙ ap (λ (x : List FoundValue). rows ++ found_rows (length bytes) x) (sym is) ∙ h

pub bytes_more : (bytes more all : List ℕ) (f : FoundValue) (before fs : List FoundValue) → before ≡ f ∷ fs → bytes ++ octets_of before ≡ all → more ≡ bytes ++ f.octets → more ++ octets_of fs ≡ all
bytes_more bytes more all f before fs is h m =
    ap (λ (o : List ℕ). o ++ octets_of fs) m ∙ append_assoc bytes f.octets (octets_of fs)
    ∙ ap (λ (x : List FoundValue). bytes ++ octets_of x) (sym is) ∙ h

pub fewer : (f : FoundValue) (before fs : List FoundValue) → before ≡ f ∷ fs → length fs < length before
fewer f before fs is = omega (arith, ap (length {A = FoundValue}) is)

pub all_rows : (rows all : List FoundRow) (at : ℕ) (before : List FoundValue) → before ≡ [] → rows ++ found_rows at before ≡ all → rows ≡ all
all_rows rows all at before is h = sym (append-nil rows) ∙ ap (λ (x : List FoundValue). rows ++ found_rows at x) (sym is) ∙ h

pub all_bytes : (bytes all : List ℕ) (before : List FoundValue) → before ≡ [] → bytes ++ octets_of before ≡ all → bytes ≡ all
all_bytes bytes all before is h = sym (append-nil bytes) ∙ ap (λ (x : List FoundValue). bytes ++ octets_of x) (sym is) ∙ h
