-- A file of verdicts on the signatures of a keyring: a line that says which keyring it is of, and
-- the lines of the keyring's report, with the verdicts of a verifier.
use Rattle.std.specs.Prelude.{◌≡◌, ℕ, ◌+◌, ◌<◌, ◌⊎◌, ◌||◌, ◌&&◌, ◌==◌, nat_le, Bool}
use Rattle.std.specs.Prelude.{List, [], ◌∷◌, ◌++◌, codes, length, take}
use Rattle.std.specs.Fmt.{decimal}
use Rattle.std.specs.List.{AllPass}
use Rattle.hex.specs.Hex.{encode_upper}
use Rattle.sha2.specs.Sha256.{sha256}
use Rattle.opgp_frame.specs.Packet.{packets_octets}
use Rattle.opgp_hash.specs.Digest.{digest_octets}
use Rattle.opgp_hash.specs.Why.{why_text}
use Rattle.opgp_report.specs.Left.{says_left}
use Rattle.opgp_report.specs.Report.{report_of}
use Rattle.opgp_report.specs.RowValue.{FindingValue, RowValue, not_asked, asked_with}
use Rattle.opgp_report.specs.declared.verifier.Verdict.{Verdict}
use Rattle.opgp_report.specs.declared.verifier.Verdict.TheVariants.{Good, Bad, Undecided}
use Rattle.opgp_report.specs.Row.{row_value}
use Rattle.opgp_keyring.specs.Keyring.{KeyringValue, flat}
use Rattle.opgp_state.specs.Report.{fields_at, id_or_none, joined, row_fields, verdict_name}
use Rattle.opgp_state.specs.declared.row_front.Front.{Front}
use Rattle.opgp_state.specs.declared.row_front.Front.TheVariants as front

-- ---- a line
-- what is found of a row, with this verdict in place of its own; and the row so
abbrev pub finding_with : Verdict → FindingValue → FindingValue
finding_with verdict (not_asked why) = not_asked why
finding_with verdict (asked_with kind hash signer digest own) =
    asked_with kind hash signer digest verdict

abbrev pub row_with : Verdict → RowValue → RowValue
row_with verdict row = record {
  place = row.place;
  finding = finding_with verdict row.finding;
}

-- a letter from `a` to `z`, or `-`
abbrev pub is_reason_letter : ℕ → Bool
is_reason_letter c = (nat_le 97 c && nat_le c 122) || (c == 45)

-- What may follow a verdict: nothing, and after `undecided` also a word why.
abbrev pub MayFollow : Verdict → List ℕ → Type 0
MayFollow Good text = text ≡ []
MayFollow Bad text = text ≡ []
MayFollow Undecided text = (text ≡ []) ⊎ ((word : List ℕ) × (text ≡ codes " " ++ word)
    × (0 < length word) × AllPass is_reason_letter word)

-- The verdict that a row may have: one whose digest is bad is bad.
abbrev pub Admits : FindingValue → Verdict → Type 0
Admits (not_asked why) verdict = Unit {0}
Admits (asked_with kind hash signer digest Bad) verdict = verdict ≡ Bad
Admits (asked_with kind hash signer digest own) verdict = Unit {0}

-- the word `verdict`, the verdict, and what may follow it
abbrev pub Tells : Verdict → List ℕ → Type 0
Tells verdict text = (behind : List ℕ) × MayFollow verdict behind
    × (text ≡ (codes " verdict " ++ verdict_name verdict) ++ behind)

-- What may follow the row's own line: where that has no verdict, since the signature isn't hashed
-- there, one of a key revocation over the primary key alone (RFC 9580, 5.2.1.11), or nothing.
abbrev pub Follows : FindingValue → Verdict → List ℕ → Type 0
Follows (not_asked why) verdict text = ((verdict ≡ Undecided) × (text ≡ [])) ⊎ Tells verdict text
Follows (asked_with kind hash signer digest own) verdict text = MayFollow verdict text

-- The text is the row's line with the verdict in place of its own.
pub record IsVerdictLine (n : ℕ) (row : RowValue) (verdict : Verdict) (text : List ℕ) : Type 0 where
  pub admits : Admits row.finding verdict
  pub behind : List ℕ
  pub follows : Follows row.finding verdict behind
  pub is : text ≡ row_fields n (row_with verdict row) ++ behind

-- ---- a file
-- a line for each row, numbered from here, each with its end
abbrev pub AreVerdictLines : ℕ → List RowValue → List Verdict → List ℕ → Type 0
AreVerdictLines n [] [] file = file ≡ []
AreVerdictLines n [] (v ∷ vs) file = ⊥
AreVerdictLines n (row ∷ rows) [] file = ⊥
AreVerdictLines n (row ∷ rows) (v ∷ vs) file = (text : List ℕ) × (rest : List ℕ)
    × IsVerdictLine n row v text × (file ≡ text ++ (codes "\n" ++ rest))
    × AreVerdictLines (n + 1) rows vs rest

-- The first line: the digest of a keyring's packets, and how many lines of rows follow. The verdicts
-- are those of arithmetic alone.
abbrev pub head_line : List ℕ → ℕ → List ℕ
head_line digest rows = joined (codes "verdicts by arithmetic of keyring sha256 "
    ∷ encode_upper digest ∷ codes " rows " ∷ decimal rows ∷ codes "\n" ∷ [])

-- the SHA2-256 of the octets of a keyring's packets, in order, as they were read
abbrev pub keyring_digest : KeyringValue → List ℕ
keyring_digest r = sha256 (packets_octets (flat r))

-- The file has these verdicts on the rows of a keyring's report, and says that it is of that
-- keyring.
abbrev pub HasVerdicts : List ℕ → KeyringValue → List Verdict → Type 0
HasVerdicts file r verdicts = (lines : List ℕ)
    × (file ≡ head_line (keyring_digest r) (length (report_of says_left r)) ++ lines)
    × AreVerdictLines 0 (report_of says_left r) verdicts lines

-- ---- reading it
-- a word why nothing is decided, the line's end, and these octets
abbrev pub IsReasonLine : List ℕ → List ℕ → Type 0
IsReasonLine octets rest = (word : List ℕ) × (0 < length word) × AllPass is_reason_letter word
    × (octets ≡ word ++ (codes "\n" ++ rest))

-- nothing, or a blank and such a word; the line's end; and these octets
abbrev pub IsDoubtLine : List ℕ → List ℕ → Type 0
IsDoubtLine octets rest = (octets ≡ codes "\n" ++ rest)
    ⊎ ((more : List ℕ) × (octets ≡ codes " " ++ more) × IsReasonLine more rest)

-- the word `verdict`, a verdict, what may follow it, the line's end, and these octets
abbrev pub Says : List ℕ → Verdict → List ℕ → Type 0
Says octets Good rest = octets ≡ codes " verdict good\n" ++ rest
Says octets Bad rest = octets ≡ codes " verdict bad\n" ++ rest
Says octets Undecided rest = (more : List ℕ) × (octets ≡ codes " verdict undecided" ++ more)
    × IsDoubtLine more rest

-- the words of a row's line in front of its verdict
abbrev pub front_words : FindingValue → List (List ℕ)
front_words (not_asked why) = codes " : none " ∷ why_text why ∷ []
front_words (asked_with kind hash signer digest own) = codes " : asked type "
    ∷ encode_upper (kind ∷ []) ∷ codes " hash " ∷ decimal hash ∷ codes " signer "
    ∷ id_or_none signer ∷ codes " digest " ∷ encode_upper (take 2 (digest_octets digest)) ∷ []

abbrev pub row_front : ℕ → RowValue → List ℕ
row_front n row = fields_at n row.place (front_words row.finding)

-- what a line begins with
abbrev pub front_text : Front → List ℕ
front_text (front.Head digest rows) = head_line digest.now rows
front_text (front.Row n row) = row_front n (row_value row.now)

-- the line of a row is at the front of the octets, and these are behind it
abbrev pub IsLineOf : ℕ → RowValue → Verdict → List ℕ → List ℕ → Type 0
IsLineOf n row verdict octets rest = (text : List ℕ) × IsVerdictLine n row verdict text
    × (octets ≡ text ++ (codes "\n" ++ rest))

-- behind that front stand the verdict, what may follow it, the line's end, and these octets
abbrev pub SaysOf : FindingValue → List ℕ → Verdict → List ℕ → Type 0
SaysOf (not_asked why) octets verdict rest =
    ((verdict ≡ Undecided) × (octets ≡ codes "\n" ++ rest)) ⊎ Says octets verdict rest
SaysOf (asked_with kind hash signer digest own) octets verdict rest =
    Admits (asked_with kind hash signer digest own) verdict × Says octets verdict rest
