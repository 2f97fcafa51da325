-- Letters, and the data lines of one block (RFC 9580, 6 and 6.2; RFC 4648, 4).
use Rattle.std.specs.Prelude.{◌≡◌, ℕ, ◌*◌, ◌/◌, ◌%◌, ◌==◌, nat_le, nat_lt, Bool, false, not}
use Rattle.std.specs.Prelude.{if◌then◌else◌, ◌&&◌, ◌||◌, List, [], ◌++◌, length, take, drop}
use Rattle.std.specs.List.{list_any, list_all}
use Rattle.std.specs.declared.option.Option.{Option}
use Rattle.std.specs.declared.option.Option.TheVariants.{None, Some}
use Rattle.std.specs.declared.result.Result.{Result}
use Rattle.std.specs.declared.result.Result.TheVariants.{Ok, Err}
use Rattle.base64.specs.GeneralPurpose.{encode_of, decoded_of}
use Rattle.base64.specs.Engines.{standard}
use Rattle.opgp_octets.specs.Octets.{IsOctets}
use Rattle.opgp_octets.specs.declared.fault.Reason.{Reason}
use Rattle.opgp_octets.specs.declared.fault.Reason.TheVariants as reason

-- A to Z, a to z, 0 to 9, + and /
abbrev pub is_letter : ℕ → Bool
is_letter c = (nat_le 65 c && nat_le c 90)
    || ((nat_le 97 c && nat_le c 122)
    || ((nat_le 48 c && nat_le c 57) || ((c == 43) || (c == 47))))

-- `=`
abbrev pub is_equals : ℕ → Bool
is_equals c = c == 61

abbrev pub is_octet : ℕ → Bool
is_octet c = nat_lt c 256

abbrev pub may_stand : ℕ → Bool
may_stand c = is_letter c || is_equals c

-- the padded standard base64 of octets
unfoldable pub base64_of : List ℕ → List ℕ
base64_of octets = encode_of standard octets

-- The joined letters are the padded standard base64 of the octets.
abbrev pub IsBase64 : List ℕ → List ℕ → Type 0
IsBase64 letters octets = IsOctets octets × (letters ≡ base64_of octets)

-- The letters left over that don't make a group of four, and whether a group was padded.
pub record Pending : Type 0 where
  pub letters : List ℕ
  pub padded : Bool

-- the letters of whole groups, and those after them
abbrev pub groups_of : List ℕ → List ℕ
groups_of letters = take (4 * (length letters / 4)) letters

abbrev pub rest_of : List ℕ → List ℕ
rest_of letters = drop (4 * (length letters / 4)) letters

-- what follows whole groups is wrong: only letters may, and nothing after padding
abbrev pub spoils : List ℕ → Bool → Bool
spoils rest padded = not (list_all is_letter rest) || (padded && nat_lt 0 (length rest))

-- what whole groups yield, and then the letters left over
abbrev pub after_groups : List ℕ → Option (List ℕ) → Result (Pending × List ℕ) Reason
after_groups rest None = Err reason.Padding
after_groups rest (Some octets) =
    if not (list_all is_octet octets) || list_any is_equals rest
    || (not (length octets % 3 == 0) && nat_lt 0 (length rest))
    then Err reason.Padding
    else Ok (record { letters = rest; padded = not (length octets % 3 == 0) }, octets)

-- a data line that isn't blank: the octets of the groups that it completes
unfoldable pub data_line : Pending → List ℕ → Result (Pending × List ℕ) Reason
data_line p content =
    if not (list_all may_stand content) then Err reason.Letters
    else if p.padded then Err reason.Padding
    else
    after_groups (rest_of (p.letters ++ content))
    (decoded_of standard (groups_of (p.letters ++ content)))

abbrev pub no_letters : Pending
no_letters = record { letters = []; padded = false }
