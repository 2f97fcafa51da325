-- The pieces of a body under partial lengths (RFC 9580, 4.2.1.4).
use Rattle.std.specs.Prelude.{◌≡◌, ℕ, ◌+◌, ◌<◌, ◌≤◌, ◌^◌, true, List, [], ◌∷◌, length, slice_index}
use Rattle.std.specs.Prelude.{All}
use Rattle.opgp_octets.specs.declared.limits.Limits.{Limits}
use Rattle.opgp_octets.specs.Limits.{body_limit, pieces_limit}
use Rattle.opgp_frame.specs.declared.pieces.LastForm.{LastForm}
use Rattle.opgp_frame.specs.Header.{is_data_kind, kind_in}

-- the exponents of the pieces, and the form of the length after them
pub record PiecesValue : Type 0 where
  pub exponents : List ℕ
  pub last : LastForm

-- there is a piece, the first has at least 512 octets, and none has more than 2^30
pub record ArePieces (exponents : List ℕ) : Type 0 where
  pub some : 0 < length exponents
  pub first : 9 ≤ slice_index exponents 0
  pub each : All (λ k. k ≤ 30) exponents

-- how many octets the pieces have
abbrev pub pieces_sum : List ℕ → ℕ
pieces_sum [] = 0
pieces_sum (k ∷ ks) = 2 ^ k + pieces_sum ks

-- Within the limits, a packet with this first octet may begin with pieces of these exponents (RFC
-- 9580, 4.2.1.4).
pub record GoodPieces (limits : Limits) (header : ℕ) (exponents : List ℕ) : Type 0 where
  pub each : All (λ k. k ≤ 30) exponents
  pub first : 0 < length exponents → 9 ≤ slice_index exponents 0
  pub current : 0 < length exponents → 192 ≤ header
  pub kind : 0 < length exponents → is_data_kind (kind_in header) ≡ true
  pub count : length exponents ≤ pieces_limit limits
  pub sum : pieces_sum exponents ≤ body_limit limits
