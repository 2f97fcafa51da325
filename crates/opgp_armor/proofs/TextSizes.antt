-- A block has no more octets than the text that it stands in.
use Rattle.std.proofs.Common.{◌≡◌, ℕ, ◌+◌, ◌≤◌, ◌==◌, Bool, true, false, if◌then◌else◌, List, [], ◌∷◌, ◌++◌, length, sym, ap, subst, inl, inr, ◌⊎◌, arith}
use Rattle.std.proofs.lemmas.List.{length-append}
use Rattle.std.specs.List.{flat_map, AllByRecursion}
use Rattle.opgp_armor.specs.Rules.{LineRule}
use Rattle.opgp_armor.specs.Armored.{Armored, Block, IsBlock, IsBody, IsChecked, IsPiece, Piece, Other, Whole, blocks_of, lines_of}
use Rattle.opgp_armor.specs.Text.{Line, content, is_trailing, lines, onto, strip}
use Rattle.opgp_armor.proofs.Standard.{base64_size}

-- the octets of lines
total : List Line → ℕ
total [] = 0
total (l ∷ ls) = length l + total ls

total-append : (xs ys : List Line) → total (xs ++ ys) ≡ total xs + total ys
unfolding total
total-append [] ys = omega arith
total-append (l ∷ xs) ys = omega (arith, total-append xs ys)

if_few : (b : Bool) (c : ℕ) → length (if b then [] else c ∷ []) ≤ 1
if_few true c = omega arith
if_few false c = omega arith

strip_few : (c : ℕ) (ds : List ℕ) → length (strip c ds) ≤ 1 + length ds
strip_few c [] = if_few (is_trailing c) c
strip_few c (d ∷ ds) = omega arith

content_few : (l : Line) → length (content l) ≤ length l
unfolding content
content_few [] = omega arith
content_few (c ∷ l) = omega (arith, strip_few c (content l), content_few l)

contents_few : (ls : List Line) → length (flat_map content ls) ≤ total ls
unfolding total
contents_few [] = omega arith
contents_few (l ∷ ls) = omega (arith, length-append (content l) (flat_map content ls), content_few l, contents_few ls)

onto_few : (c : ℕ) (ls : List Line) → total (onto c ls) ≤ 1 + total ls
unfolding total
onto_few c [] = omega arith
onto_few c (l ∷ ls) = omega arith

cut_few : (b : Bool) (c : ℕ) (ls : List Line) → total (if b then [] ∷ ls else onto c ls) ≤ 1 + total ls
unfolding total
cut_few true c ls = omega arith
cut_few false c ls = onto_few c ls

lines_few : (text : List ℕ) → total (lines text) ≤ length text
unfolding lines total
lines_few [] = omega arith
lines_few (c ∷ text) = omega (arith, cut_few (c == 10) c (lines text), lines_few text)

-- ---- blocks

body_few : (limit : ℕ) (b : Block) (letters : List ℕ) (ls : List Line) → IsBody limit b.label b.headers letters ls → length letters ≤ total ls
unfolding total
body_few limit b letters ls is =
    omega (arith, ap (length {A = ℕ}) is.joined, contents_few is.data_lines, ap total is.are, total-append is.head (is.gap ∷ is.data_lines))

front_few : (limit : ℕ) (b : Block) (letters : List ℕ) (ls : List Line) → IsBody limit b.label b.headers letters ls ⊎ IsChecked limit b.label b.headers letters ls → length letters ≤ total ls
front_few limit b letters ls (inl is) = body_few limit b letters ls is
front_few limit b letters ls (inr is) = omega (arith, body_few limit b letters is.body is.is_body, ap total is.are, total-append is.body (is.checksum ∷ is.blanks))

block_few : (limit : ℕ) (b : Block) (ls : List Line) → IsBlock limit b ls → length b.octets ≤ total ls
block_few limit b ls is =
    let size = base64_size b.octets in
    omega (arith, front_few limit b is.letters is.front is.is_front, ap total is.are, total-append is.front (is.last ∷ []), ap (length {A = ℕ}) is.spelled.1, size.1, size.2)

pieces_few : (rule : LineRule) (n : ℕ) (ps : List Piece) → AllByRecursion (IsPiece rule) ps → total (flat_map lines_of ps) ≤ n → AllByRecursion (λ b. length b.octets ≤ n) (flat_map blocks_of ps)
pieces_few rule n [] all h = tt
pieces_few rule n (Other l ∷ ps) all h = pieces_few rule n ps all.1 (omega (arith, total-append (l ∷ []) (flat_map lines_of ps)))
pieces_few rule n (Whole ls b ∷ ps) all h = (
  omega (arith, block_few rule.most b ls all.0, total-append ls (flat_map lines_of ps)),
  pieces_few rule n ps all.1 (omega (arith, total-append ls (flat_map lines_of ps))),
)

pub blocks_few : (rule : LineRule) (text : List ℕ) (blocks : List Block) → Armored rule text blocks → AllByRecursion (λ b. length b.octets ≤ length text) blocks
blocks_few rule text blocks a =
    let w = a.whole in
    subst (λ (bs : List Block). AllByRecursion (λ b. length b.octets ≤ length text) bs) (sym w.blocks_are) (pieces_few rule (length text) w.pieces w.each (omega (arith, ap total w.are, lines_few text)))
