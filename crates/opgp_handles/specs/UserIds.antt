-- What the octets of a user ID say: usually a name and a mail address in UTF-8 (RFC 9580, 5.11).
use Rattle.std.specs.Prelude.{ℕ, nat_eq, ◌+◌, ◌-◌, ◌==◌, nat_lt, Bool, false, not, ◌&&◌, ◌||◌}
use Rattle.std.specs.Prelude.{if◌then◌else◌, List, [], ◌∷◌, length, take, drop, position}
use Rattle.std.specs.Prelude.{Option, Some, None}
use Rattle.std.specs.List.{ends_with, list_all, list_any, slice_split}
use Rattle.std.specs.Str.{is_utf8}
use Rattle.opgp_handles.specs.declared.user_ids.UserIdFacts.{UserIdFacts}

-- ---- an address: dot-atoms around an `@` (RFC 5322, 3.2.3 and 3.4.1)
abbrev pub is_dot : ℕ → Bool
is_dot c = c == 46

abbrev pub is_at : ℕ → Bool
is_at c = c == 64

-- `()<>[]:;@\,"`
abbrev pub is_special : ℕ → Bool
is_special c = (c == 40) || ((c == 41) || ((c == 60) || ((c == 62) || ((c == 91) || ((c == 93)
    || ((c == 58) || ((c == 59) || ((c == 64) || ((c == 92) || ((c == 44) || (c == 34)))))))))))

-- neither a space, nor a control octet, nor special
abbrev pub is_atext : ℕ → Bool
is_atext c = nat_lt 32 c && (not (c == 127) && not (is_special c))

abbrev pub is_atom : List ℕ → Bool
is_atom [] = false
is_atom (c ∷ o) = is_atext c && list_all is_atext o

-- atoms with dots between them
abbrev pub is_dot_atom : List ℕ → Bool
is_dot_atom o = list_all is_atom (slice_split is_dot o)

abbrev pub is_low_line : ℕ → Bool
is_low_line c = c == 95

abbrev pub is_domain : List ℕ → Bool
is_domain o = is_dot_atom o && not (list_any is_low_line o)

abbrev pub is_split_at : Option ℕ → List ℕ → Bool
is_split_at None o = false
is_split_at (Some i) o = is_dot_atom (take i o) && is_domain (drop (i + 1) o)

abbrev pub is_address : List ℕ → Bool
is_address o = is_split_at (position is_at o) o && is_utf8 o

-- ---- where it stands
abbrev pub is_open : ℕ → Bool
is_open c = c == 60

abbrev pub is_close : ℕ → Bool
is_close c = c == 62

-- what is behind the octet at this place, but for the last octet
abbrev pub inside : ℕ → List ℕ → List ℕ
inside at o = take (length o - (at + 2)) (drop (at + 1) o)

-- from this place on it is an address in `<` and `>`, and no `>` is in front
abbrev pub is_bracketed : ℕ → List ℕ → Bool
is_bracketed at o = is_address (inside at o) && (ends_with nat_eq o (62 ∷ [])
    && not (list_any is_close (take at o)))

abbrev pub behind_open : Option ℕ → List ℕ → Option (ℕ × ℕ)
behind_open None o = None
behind_open (Some at) o =
    if is_bracketed at o then Some (at + 1, length o - (at + 2)) else None

-- where the address of a user ID begins, and how many octets it has: all of the user ID is one; or
-- one stands at its end, in `<` and `>`, of which there are no others
abbrev pub address_in : List ℕ → Option (ℕ × ℕ)
address_in o = if is_address o then Some (0, length o) else behind_open (position is_open o) o

-- ---- for C
abbrev pub number_of : Bool → ℕ
number_of b = if b then 1 else 0

abbrev pub facts_by : Option (ℕ × ℕ) → Bool → UserIdFacts
facts_by (Some place) utf8 = record {
  address_at = place.0;
  address_size = place.1;
  is_utf8 = number_of utf8;
  has_address = 1;
}
facts_by None utf8 = record {
  address_at = 0;
  address_size = 0;
  is_utf8 = number_of utf8;
  has_address = 0;
}

abbrev pub facts_of : List ℕ → UserIdFacts
facts_of o = facts_by (address_in o) (is_utf8 o)
