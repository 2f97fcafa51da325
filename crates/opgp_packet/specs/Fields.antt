-- Bodies as fields, one after the other: what each kind of field is, how fields are encoded, and
-- which fault a body has (RFC 9580, 3.2, 5.2, 5.5, 5.9, 5.11, 5.12).
use Rattle.std.specs.Prelude.{◌≡◌, ℕ, ◌+◌, ◌-◌, ◌^◌, ◌<◌, ◌≤◌, Bool, false, ◌||◌, ◌⊎◌, List, []}
use Rattle.std.specs.Prelude.{◌∷◌, ◌++◌}
use Rattle.std.specs.Prelude.{length, is_ok, nat_lt, ◌==◌, if◌then◌else◌}
use Rattle.std.specs.List.{flat_map}
use Rattle.std.specs.Int.{w16, w32, to_be_bytes}
use Rattle.opgp_octets.specs.declared.fault.Reason.{Reason}
use Rattle.opgp_octets.specs.declared.fault.Reason.TheVariants.{Short, MpiBits, KeyVersion}
use Rattle.opgp_octets.specs.declared.fault.Reason.TheVariants.{KeyTooLong, Count, Trailing}
use Rattle.opgp_octets.specs.declared.fault.Reason.TheVariants.{AreaShort}
use Rattle.opgp_octets.specs.declared.fault.BodyFault.{BodyFault}
use Rattle.opgp_octets.specs.Octets.{IsOctets}
use Rattle.opgp_octets.specs.Mpi.{MpiValue, mpi_octets, IsMpi, MayStand, mpi_at}
use Rattle.opgp_octets.specs.declared.mpi_view.MpiView.{MpiView}
use Rattle.opgp_octets.specs.MpiView.{mpi_seen}
use Rattle.opgp_packet.specs.Subpackets.{Sub, subs_octets, AreSubs, AreaFault}

-- the kinds of fields
pub data Kind : Type 0 where
  -- the version of a key
  version : Kind
  -- one octet; the given octet, or else the reason; four octets
  octet : Kind
  exact : Reason → ℕ → Kind
  four : Kind
  -- four octets that count those after them
  count : Kind
  -- a multiprecision integer, strict or not
  mpi : Bool → Kind
  -- a size octet and as many octets as it says; a size below the least or above the most is refused
  -- with the reason
  sized : Reason → ℕ → ℕ → Kind
  -- the given number of octets; all the rest
  fixed : ℕ → Kind
  whole : Kind
  -- no octets at all match this one
  never : Kind

-- how an area of subpackets is delimited: it goes to the body's end, or follows a length of two or
-- four octets
pub data Extent : Type 0 where
  to_end : Extent
  behind_two : Extent
  behind_four : Extent

-- a field's value, which shows how it is encoded
pub data Field : Type 0 where
  small : ℕ → Field
  wide : ℕ → Field
  integer : MpiValue → Field
  named : List ℕ → Field
  bare : List ℕ → Field
  subpackets : Extent → List Sub → Field

-- the octets of an area, with its length
abbrev pub framed : Extent → List ℕ → List ℕ
framed to_end o = o
framed behind_two o = to_be_bytes w16 (length o) ++ o
framed behind_four o = to_be_bytes w32 (length o) ++ o

-- the octets of a field
abbrev pub field_octets : Field → List ℕ
field_octets (small n) = n ∷ []
field_octets (wide n) = to_be_bytes w32 n
field_octets (integer m) = mpi_octets m
field_octets (named o) = length o ∷ o
field_octets (bare o) = o
field_octets (subpackets extent subs) = framed extent (subs_octets subs)

-- the octets of fields, one after the other
abbrev pub octets_of : List Field → List ℕ
octets_of fields = flat_map field_octets fields

-- the field is allowed as one of this kind, with this many octets after it
abbrev pub Stands : Kind → Field → ℕ → Type 0
-- a body of version 4 has at most 65,535 octets, which its fingerprint counts in two (5.5.4.2)
Stands version (small n) after = ((n ≡ 4) × (after ≤ 65534)) ⊎ (n ≡ 6)
Stands octet (small n) after = n < 2 ^ 8
Stands (exact reason wanted) (small n) after = (n < 2 ^ 8) × (n ≡ wanted)
Stands four (wide n) after = n < 2 ^ 32
Stands count (wide n) after = (n < 2 ^ 32) × (n ≡ after)
Stands (mpi strict) (integer m) after = IsMpi m × MayStand strict m
Stands (sized reason least most) (named o) after =
    (length o < 2 ^ 8) × (least ≤ length o) × (length o ≤ most) × IsOctets o
Stands (fixed n) (bare o) after = (length o ≡ n) × IsOctets o
Stands whole (bare o) after = (after ≡ 0) × IsOctets o
Stands kind field after = ⊥

-- the octets are allowed as an area, with this many octets after it
abbrev pub Extends : Extent → List ℕ → ℕ → Type 0
Extends to_end o after = after ≡ 0
Extends behind_two o after = length o < 2 ^ 16
Extends behind_four o after = length o < 2 ^ 32

-- the field is allowed as such an area
abbrev pub StandsAsArea : Extent → Field → ℕ → Type 0
StandsAsArea extent (subpackets e subs) after =
    (e ≡ extent) × AreSubs subs × Extends extent (subs_octets subs) after
StandsAsArea extent field after = ⊥

-- a body: fields in order, where the next field may depend on those before it
pub data Grammar : Type 0 where
  done : Grammar
  field : Kind → (Field → Grammar) → Grammar
  area : Extent → Grammar → Grammar

-- the fields are those of the grammar, with this many octets after them
abbrev pub Follows : Grammar → List Field → ℕ → Type 0
Follows done [] after = Unit {0}
Follows (field kind next) (x ∷ xs) after =
    Stands kind x (length (octets_of xs) + after) × Follows (next x) xs after
Follows (area extent next) (x ∷ xs) after =
    StandsAsArea extent x (length (octets_of xs) + after) × Follows next xs after
Follows grammar fields after = ⊥

-- fields of these kinds, one after the other
abbrev pub sequence : List Kind → Grammar
sequence [] = done
sequence (kind ∷ kinds) = field kind (λ _. sequence kinds)

-- the number that a field of one or four octets shows
abbrev pub amount : Field → ℕ
amount (small n) = n
amount (wide n) = n
amount other = 0

-- a multiprecision integer as a field
abbrev pub integer_of : MpiView → Field
integer_of v = integer (mpi_seen v)

-- the octets are those of the fields, one after the other, and nothing more
pub record Body (grammar : Grammar) (fields : List Field) (o : List ℕ) : Type 0 where
  pub spelled : o ≡ octets_of fields
  pub follows : Follows grammar fields 0

-- ---- the first fault

-- a fault at the point where this many of all octets are left
abbrev pub fault_at : ℕ → ℕ → Reason → BodyFault
fault_at total left reason = record { reason = reason; inner = total - left }

-- no field of the kind begins the octets
abbrev pub HasNone : Kind → List ℕ → Type 0
HasNone kind o =
    (x : Field) (rest : List ℕ) → Stands kind x (length rest) → o ≡ field_octets x ++ rest → ⊥

-- the reason then: the first one that is true of the octets
abbrev pub reason_of : Kind → List ℕ → Reason
reason_of version (n ∷ o) = if n == 4 then KeyTooLong else KeyVersion
reason_of (exact reason wanted) (n ∷ o) = reason
reason_of count o = if nat_lt (length o) 4 then Short else Count
reason_of (mpi strict) o = if is_ok (mpi_at false o) then MpiBits else Short
reason_of (sized reason least most) (n ∷ o) =
    if nat_lt n least || nat_lt most n then reason else Short
reason_of kind o = Short

-- no area of this extent begins the octets, whatever is in it
abbrev pub HasNoArea : Extent → List ℕ → Type 0
HasNoArea extent o =
    (a rest : List ℕ) → Extends extent a (length rest) → o ≡ framed extent a ++ rest → ⊥

-- the reason then: the length is incomplete, or the area is
abbrev pub area_reason : Extent → List ℕ → Reason
area_reason to_end o = Short
area_reason behind_two o = if nat_lt (length o) 2 then Short else AreaShort
area_reason behind_four o = if nat_lt (length o) 4 then Short else AreaShort

-- Some fields begin the octets, and the next one can't be read there: not at all, or, in an area,
-- after some of its subpackets. Or octets follow the last field.
abbrev pub FirstFault : ℕ → Grammar → List ℕ → BodyFault → Type 0
FirstFault total done o f = (0 < length o) × (f ≡ fault_at total (length o) Trailing)
FirstFault total (field kind next) o f =
    (HasNone kind o × (f ≡ fault_at total (length o) (reason_of kind o)))
    ⊎ ((x : Field) × (rest : List ℕ) × Stands kind x (length rest) × (o ≡ field_octets x ++ rest)
    × FirstFault total (next x) rest f)
FirstFault total (area extent next) o f =
    (HasNoArea extent o × (f ≡ fault_at total (length o) (area_reason extent o)))
    ⊎ ((a : List ℕ) × (rest : List ℕ) × Extends extent a (length rest)
    × (o ≡ framed extent a ++ rest)
    × (AreaFault (total - length rest) a f
    ⊎ ((subs : List Sub) × (AreSubs subs × (a ≡ subs_octets subs) × FirstFault total next rest f))))
