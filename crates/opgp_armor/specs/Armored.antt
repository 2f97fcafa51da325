-- What an armored text is (RFC 9580, 6.2), as a relation between a text and its finished blocks;
-- and what the fault of any other text is.
use Rattle.std.specs.Prelude.{◌≡◌, ℕ, ◌+◌, ◌==◌, ◌<◌, ◌≤◌, nat_eq, nat_lt, Bool, true, false}
use Rattle.std.specs.Prelude.{not, if◌then◌else◌, ◌⊎◌, List, [], ◌∷◌, ◌++◌, length, take}
use Rattle.std.specs.List.{list_any, list_all, flat_map, fold, starts_with, AllByRecursion}
use Rattle.std.specs.Str.{bytes_eq}
use Rattle.std.specs.declared.option.Option.{Option}
use Rattle.std.specs.declared.option.Option.TheVariants.{None, Some}
use Rattle.opgp_armor.specs.declared.label.Label.{Label}
use Rattle.opgp_armor.specs.declared.label.Label.TheVariants as labels
use Rattle.opgp_armor.specs.declared.section.Section.{Section}
use Rattle.opgp_armor.specs.declared.section.Section.TheVariants as sections
use Rattle.opgp_octets.specs.Octets.{IsOctets}
use Rattle.opgp_octets.specs.declared.fault.Fault.{Fault}
use Rattle.opgp_octets.specs.declared.fault.Layer.TheVariants as layer
use Rattle.opgp_octets.specs.declared.fault.Reason.{Reason}
use Rattle.opgp_octets.specs.declared.fault.Reason.TheVariants as reason
use Rattle.opgp_octets.specs.declared.outside.Outside.{Outside}
use Rattle.opgp_octets.specs.declared.outside.Outside.TheVariants as policy
use Rattle.opgp_armor.specs.Letters.{is_equals, may_stand, IsBase64}
use Rattle.opgp_armor.specs.Rules.{LineRule}
use Rattle.opgp_armor.specs.Text.{Line, lines, offset, content, begin_mark, begin_line, end_line}

-- a block, by the contents of its vectors
pub record Block : Type 0 where
  pub label : Label
  pub headers : List (List ℕ × List ℕ)
  pub octets : List ℕ

abbrev pub begins_with : (ℕ → Bool) → List ℕ → Bool
begins_with test [] = false
begins_with test (c ∷ cs) = test c

abbrev pub is_colon : ℕ → Bool
is_colon c = c == 58

abbrev pub is_dash : ℕ → Bool
is_dash c = c == 45

abbrev pub is_space : ℕ → Bool
is_space c = c == 32

-- A key that isn't empty and has no colon, a colon, the value; one space may come before the
-- value, and must where the value begins with a space (6.2.2).
pub record IsHeader (limit : ℕ) (line : Line) (header : List ℕ × List ℕ) : Type 0 where
  pub named : 0 < length header.0
  pub plain : list_any is_colon header.0 ≡ false
  pub spelled :
      ((content line ≡ header.0 ++ 58 ∷ header.1) × (begins_with is_space header.1 ≡ false))
      ⊎ (content line ≡ header.0 ++ 58 ∷ 32 ∷ header.1)
  pub within : length line ≤ limit

abbrev pub AreHeaders : ℕ → List Line → List (List ℕ × List ℕ) → Type 0
AreHeaders limit [] [] = Unit {0}
AreHeaders limit (l ∷ ls) (h ∷ hs) = IsHeader limit l h × AreHeaders limit ls hs
AreHeaders limit [] (h ∷ hs) = ⊥
AreHeaders limit (l ∷ ls) [] = ⊥

pub record IsBlank (limit : ℕ) (line : Line) : Type 0 where
  pub blank : content line ≡ []
  pub within : length line ≤ limit

-- a line that begins with neither `=` nor `-`, perhaps a blank one
pub record IsDataLine (limit : ℕ) (line : Line) : Type 0 where
  pub no_checksum : begins_with is_equals (content line) ≡ false
  pub no_end : begins_with is_dash (content line) ≡ false
  pub within : length line ≤ limit

-- The lines of a block up to its headers ..
pub record IsHead (limit : ℕ) (label : Label) (headers : List (List ℕ × List ℕ))
    (ls : List Line) : Type 0 where
  pub first : Line
  pub rest : List Line
  pub are : ls ≡ first ∷ rest
  pub begins : content first ≡ begin_line label
  pub within : length first ≤ limit
  pub headers_are : AreHeaders limit rest headers

-- .. up to its data lines ..
pub record IsBody (limit : ℕ) (label : Label) (headers : List (List ℕ × List ℕ))
    (letters : List ℕ) (ls : List Line) : Type 0 where
  pub head : List Line
  pub gap : Line
  pub data_lines : List Line
  pub are : ls ≡ head ++ gap ∷ data_lines
  pub is_head : IsHead limit label headers head
  pub is_gap : IsBlank limit gap
  pub are_data_lines : AllByRecursion (IsDataLine limit) data_lines
  pub joined : letters ≡ flat_map content data_lines

-- .. and with its checksum line, where it has one, and blank lines after that.
pub record IsChecked (limit : ℕ) (label : Label) (headers : List (List ℕ × List ℕ))
    (letters : List ℕ) (ls : List Line) : Type 0 where
  pub body : List Line
  pub checksum : Line
  pub blanks : List Line
  pub are : ls ≡ body ++ checksum ∷ blanks
  pub is_body : IsBody limit label headers letters body
  pub is_checksum : begins_with is_equals (content checksum) ≡ true
  pub within : length checksum ≤ limit
  pub are_blanks : AllByRecursion (IsBlank limit) blanks

-- A block: these lines and its end line. The joined letters are the base64 of its octets.
pub record IsBlock (limit : ℕ) (block : Block) (ls : List Line) : Type 0 where
  pub front : List Line
  pub last : Line
  pub letters : List ℕ
  pub are : ls ≡ front ++ last ∷ []
  pub is_front : IsBody limit block.label block.headers letters front
      ⊎ IsChecked limit block.label block.headers letters front
  pub spelled : IsBase64 letters block.octets
  pub ends : content last ≡ end_line block.label
  pub within : length last ≤ limit

-- A piece of a text: a line outside, or the lines of a block.
pub data Piece : Type 0 where
  Other : Line → Piece
  Whole : List Line → Block → Piece

abbrev pub lines_of : Piece → List Line
lines_of (Other l) = l ∷ []
lines_of (Whole ls b) = ls

abbrev pub blocks_of : Piece → List Block
blocks_of (Other l) = []
blocks_of (Whole ls b) = b ∷ []

-- what the policy asks of a line outside: nothing, or to be blank
abbrev pub IsAllowed : Outside → ℕ → Line → Type 0
IsAllowed policy.Skip limit l = Unit {0}
IsAllowed policy.Refuse limit l = IsBlank limit l

abbrev pub IsPiece : LineRule → Piece → Type 0
IsPiece rule (Other l) =
    (starts_with nat_eq l begin_mark ≡ false) × IsAllowed rule.outside rule.most l
IsPiece rule (Whole ls b) = IsBlock rule.most b ls

-- the lines are, in order, outside lines and these blocks
pub record ArePieces (rule : LineRule) (ls : List Line) (blocks : List Block) : Type 0 where
  pub pieces : List Piece
  pub each : AllByRecursion (IsPiece rule) pieces
  pub are : ls ≡ flat_map lines_of pieces
  pub blocks_are : blocks ≡ flat_map blocks_of pieces

-- An armored text: outside lines and at least one block.
pub record Armored (rule : LineRule) (text : List ℕ) (blocks : List Block) : Type 0 where
  pub whole : ArePieces rule (lines text) blocks
  pub some : 0 < length blocks

-- ---- faults

-- these are the first lines of some armored text
pub record Opens (rule : LineRule) (ls : List Line) : Type 0 where
  pub text : List ℕ
  pub blocks : List Block
  pub more : List Line
  pub octets : IsOctets text
  pub armored : Armored rule text blocks
  pub begins : lines text ≡ ls ++ more

-- the label that such a line names, which is a begin line or an end line
abbrev pub label_at : (Label → List ℕ) → List ℕ → Option Label
label_at spelled c =
    if bytes_eq c (spelled labels.Message) then Some labels.Message
    else if bytes_eq c (spelled labels.PublicKeyBlock) then Some labels.PublicKeyBlock
    else if bytes_eq c (spelled labels.PrivateKeyBlock) then Some labels.PrivateKeyBlock
    else if bytes_eq c (spelled labels.Signature) then Some labels.Signature
    else None

-- The section of the next line, and how many blocks are finished: what the lines so far lead to.
pub record Situation : Type 0 where
  pub section : Section
  pub finished : ℕ

abbrev pub opened_by : Option Label → Section
opened_by None = sections.Outside
opened_by (Some label) = sections.Headers label

abbrev pub after_content : Section → List ℕ → Section
after_content sections.Outside c = opened_by (label_at begin_line c)
after_content (sections.Headers label) [] = sections.Data label
after_content (sections.Headers label) (d ∷ c) = sections.Headers label
after_content (sections.Data label) c =
    if begins_with is_equals c then sections.AfterChecksum label
    else if begins_with is_dash c then sections.Outside
    else sections.Data label
after_content (sections.AfterChecksum label) c =
    if begins_with is_dash c then sections.Outside else sections.AfterChecksum label

-- 1 where a block ends
abbrev pub ended_by : Section → List ℕ → ℕ
ended_by sections.Outside c = 0
ended_by (sections.Headers label) c = 0
ended_by (sections.Data label) c = if begins_with is_dash c then 1 else 0
ended_by (sections.AfterChecksum label) c = if begins_with is_dash c then 1 else 0

abbrev pub after_line : Situation → Line → Situation
after_line s l = record {
  section = after_content s.section (content l);
  finished = s.finished + ended_by s.section (content l);
}

unfoldable pub situation : List Line → Situation
situation ls = fold after_line (record { section = sections.Outside; finished = 0 }) ls

-- why a line of this section is refused
abbrev pub short_reason : Section → List ℕ → Reason
short_reason sections.Outside c = reason.Label
short_reason (sections.Headers label) c = reason.Header
short_reason (sections.Data label) c =
    if begins_with is_equals c then reason.Padding
    else if begins_with is_dash c
    then (if bytes_eq c (end_line label) then reason.Padding else reason.EndLabel)
    else if list_all may_stand c then reason.Padding else reason.Letters
short_reason (sections.AfterChecksum label) c =
    if begins_with is_dash c then reason.EndLabel else reason.AfterChecksum

-- the line is outside of all blocks, and doesn't begin one
abbrev pub passes_by : Section → Line → Bool
passes_by sections.Outside l = not (starts_with nat_eq l begin_mark)
passes_by (sections.Headers label) l = false
passes_by (sections.Data label) l = false
passes_by (sections.AfterChecksum label) l = false

-- why a line outside is refused: its first octets, one more than a line may have, aren't blank, or
-- they are, and there are too many
abbrev pub outside_reason : List ℕ → Reason
outside_reason [] = reason.LineTooLong
outside_reason (c ∷ cs) = reason.Outside

abbrev pub reason_of : LineRule → Section → Line → Reason
reason_of rule section l =
    if passes_by section l then outside_reason (content (take (rule.most + 1) l))
    else if nat_lt rule.most (length l) then reason.LineTooLong
    else short_reason section (content l)

-- The first line that no armored text can have there.
pub record LineFault (rule : LineRule) (text : List ℕ) (why : Reason)
    (block pos : ℕ) : Type 0 where
  pub before : List Line
  pub line : Line
  pub after : List Line
  pub are : lines text ≡ before ++ line ∷ after
  pub opens : Opens rule before
  pub refused : Opens rule (before ++ line ∷ []) → ⊥
  pub why_is : why ≡ reason_of rule (situation before).section line
  pub block_is : block ≡ (situation before).finished
  pub pos_is : pos ≡ offset before

abbrev pub end_reason : Section → Reason
end_reason sections.Outside = reason.NoBlock
end_reason (sections.Headers label) = reason.Unfinished
end_reason (sections.Data label) = reason.Unfinished
end_reason (sections.AfterChecksum label) = reason.Unfinished

-- The text ends too early.
pub record EndFault (rule : LineRule) (text : List ℕ) (why : Reason) (block pos : ℕ) : Type 0 where
  pub opens : Opens rule (lines text)
  pub refused : (blocks : List Block) → Armored rule text blocks → ⊥
  pub why_is : why ≡ end_reason (situation (lines text)).section
  pub block_is : block ≡ (situation (lines text)).finished
  pub pos_is : pos ≡ length text

abbrev pub ArmorFault : LineRule → List ℕ → Reason → ℕ → ℕ → Type 0
ArmorFault rule text why block pos =
    LineFault rule text why block pos ⊎ EndFault rule text why block pos

-- The fault of a text, as it is reported.
pub record IsArmorFault (rule : LineRule) (text : List ℕ) (f : Fault) : Type 0 where
  pub layer_is : f.layer ≡ layer.Armor
  pub inner_is : f.inner ≡ 0
  pub found : ArmorFault rule text f.reason f.block f.pos
