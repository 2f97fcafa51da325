-- A message in the cleartext signature framework (RFC 9580, 7): its document, and where its
-- signatures begin.
use Rattle.std.specs.Prelude.{◌≡◌, ℕ, ◌<◌, ◌≤◌, true, false, List, [], ◌∷◌, ◌++◌, length, drop}
use Rattle.std.specs.Prelude.{codes}
use Rattle.std.specs.List.{AllByRecursion, AllZip, flat_map}
use Rattle.opgp_armor.specs.declared.label.Label.TheVariants as labels
use Rattle.opgp_armor.specs.Text.{Line, begin_line, content, lines, offset}
use Rattle.opgp_cleartext.specs.Hashes.{is_hash_header}
use Rattle.opgp_cleartext.specs.Line.{SaysLine, has_return, without_return}

abbrev pub message_line : List ℕ
message_line = codes "-----BEGIN PGP SIGNED MESSAGE-----"

abbrev pub signature_line : List ℕ
signature_line = begin_line labels.Signature

-- ---- lines of at most this many octets
pub record IsBlank (most : ℕ) (l : Line) : Type 0 where
  pub blank : content l ≡ []
  pub within : length l ≤ most

pub record IsBegin (most : ℕ) (l : Line) : Type 0 where
  pub begins : content l ≡ message_line
  pub within : length l ≤ most

pub record IsHashLine (most : ℕ) (l : Line) : Type 0 where
  pub names : is_hash_header (content l) ≡ true
  pub within : length l ≤ most

pub record Says (most : ℕ) (l : Line) (shown : List ℕ) : Type 0 where
  pub says : SaysLine (without_return l) shown
  pub within : length l ≤ most

-- a carriage return is at its end alone, as in the lines of the text
pub record IsSignatureLine (most : ℕ) (l : Line) : Type 0 where
  pub begins : content l ≡ signature_line
  pub clean : has_return (without_return l) ≡ false
  pub within : length l ≤ most

-- ---- the message
-- Blank lines, the begin line and headers ..
pub record IsHead (most : ℕ) (ls : List Line) : Type 0 where
  pub blanks : List Line
  pub begin : Line
  pub headers : List Line
  pub are : ls ≡ blanks ++ begin ∷ headers
  pub are_blanks : AllByRecursion (IsBlank most) blanks
  pub is_begin : IsBegin most begin
  pub are_headers : AllByRecursion (IsHashLine most) headers

-- .. a blank line, and lines each of which says a line of the document ..
pub record IsText (most : ℕ) (ls : List Line) (document : List (List ℕ)) : Type 0 where
  pub head : List Line
  pub gap : Line
  pub said : List Line
  pub are : ls ≡ head ++ gap ∷ said
  pub is_head : IsHead most head
  pub is_gap : IsBlank most gap
  pub are_said : AllZip (Says most) said document

-- .. of which there is one at least; and the rest, which begins with the line that begins a block
-- of signatures. Of what is behind that line nothing is said here. The end of the text's last line
-- is in neither.
pub record HasCleartext (most : ℕ) (text : List ℕ) (document : List (List ℕ))
    (rest : List ℕ) : Type 0 where
  pub front : List Line
  pub signature : Line
  pub more : List Line
  pub are : lines text ≡ front ++ signature ∷ more
  pub is_text : IsText most front document
  pub some : 0 < length document
  pub is_signature : IsSignatureLine most signature
  pub rest_is : rest ≡ drop (offset front) text

-- ---- the document
-- lines with this between them
abbrev pub joined_by : List ℕ → List (List ℕ) → List ℕ
joined_by between [] = []
joined_by between (l ∷ ls) = l ++ flat_map (λ (m : List ℕ). between ++ m) ls

-- the document that is handed out: its lines with a line feed between them ..
abbrev pub joined : List (List ℕ) → List ℕ
joined ls = joined_by (10 ∷ []) ls

-- .. and what its signatures of type 01 hash: with a carriage return and a line feed between them
abbrev pub joined_canonically : List (List ℕ) → List ℕ
joined_canonically ls = joined_by (13 ∷ 10 ∷ []) ls
