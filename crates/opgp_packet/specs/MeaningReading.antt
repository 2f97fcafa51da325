-- Reading the meaning of a subpacket's data, from left to right.
use Rattle.std.specs.Prelude.{ℕ, ◌+◌, ◌-◌, ◌%◌, ◌&&◌, ◌||◌, List, [], ◌∷◌, length, take, drop}
use Rattle.std.specs.Prelude.{slice_index, is_ok, nat_lt, ◌==◌, if◌then◌else◌}
use Rattle.std.specs.Prelude.{Option, Some, None}
use Rattle.std.specs.Option.{option_and_then}
use Rattle.std.specs.Int.{w16, w32, from_be_bytes}
use Rattle.opgp_octets.specs.declared.subpacket_kind.SubpacketKind.{SubpacketKind}
use Rattle.opgp_octets.specs.Reading.{number_at}
use Rattle.opgp_packet.specs.Forms.{Form, Fields}
use Rattle.opgp_packet.specs.Forms as form
use Rattle.opgp_packet.specs.Meaning.{Meaning, typed, unfit, unknown, form_of}
use Rattle.opgp_packet.specs.SignatureBody.{signature_at}

infixl 10 ◌and_then◌
abbrev pub ◌and_then◌ : {A B : Type 0} → Option A → (A → Option B) → Option B
o and_then f = option_and_then f o

-- a number of four octets
abbrev pub number_in : List ℕ → Option ℕ
number_in o = if length o == 4 then Some (from_be_bytes w32 o) else None

abbrev pub one_in : List ℕ → Option ℕ
one_in (n ∷ []) = Some n
one_in o = None

abbrev pub two_in : List ℕ → Option (ℕ × ℕ)
two_in (n ∷ m ∷ []) = Some (n, m)
two_in o = None

-- what comes before an octet 0 at the end
abbrev pub ended_in : List ℕ → Option (List ℕ)
ended_in o =
    if nat_lt 0 (length o) && (slice_index o (length o - 1) == 0) then Some
    (take (length o - 1) o) else None

abbrev pub behind_one_in : List ℕ → Option (ℕ × List ℕ)
behind_one_in (n ∷ o) = Some (n, o)
behind_one_in o = None

abbrev pub behind_two_in : List ℕ → Option (ℕ × ℕ × List ℕ)
behind_two_in (n ∷ m ∷ o) = Some (n, m, o)
behind_two_in o = None

-- a class, an algorithm, and a fingerprint of 20 octets
abbrev pub revoker_in : List ℕ → Option (ℕ × ℕ × List ℕ)
revoker_in o = behind_two_in o and_then λ x. if length x.2 == 20 then Some x else None

abbrev pub eight_in : List ℕ → Option (List ℕ)
eight_in o = if length o == 8 then Some o else None

-- flags, two lengths, and as many octets as they say together
abbrev pub notation_cut : ℕ → ℕ → ℕ × List ℕ → Option (ℕ × List ℕ × List ℕ)
notation_cut flags n x =
    if length x.1 == n + x.0 then Some (flags, take n x.1, drop n x.1) else None

abbrev pub notation_in : List ℕ → Option (ℕ × List ℕ × List ℕ)
notation_in o =
    number_at w32 o and_then λ f. number_at w16 f.1 and_then λ n. number_at w16 n.1
    and_then notation_cut f.0 n.0

-- the body of a signature
abbrev pub embedded_in : List ℕ → Option (List ℕ)
embedded_in o = if is_ok (signature_at o) then Some o else None

-- a version, and a fingerprint of its size
abbrev pub named_in : List ℕ → Option (ℕ × List ℕ)
named_in o = behind_one_in o and_then λ x. if ((x.0 == 4) && (length x.1 == 20))
    || ((x.0 == 6) && (length x.1 == 32)) then Some x else None

abbrev pub pairs_in : List ℕ → Option (List ℕ)
pairs_in o = if length o % 2 == 0 then Some o else None

-- the fields of data of a form
abbrev pub fields_in : (f : Form) → List ℕ → Option (Fields f)
fields_in form.number o = number_in o
fields_in form.octet o = one_in o
fields_in form.two_octets o = two_in o
fields_in form.ended_text o = ended_in o
fields_in form.octets o = Some o
fields_in form.revoker o = revoker_in o
fields_in form.key_id o = eight_in o
fields_in form.notation o = notation_in o
fields_in form.code_and_text o = behind_one_in o
fields_in form.target o = behind_two_in o
fields_in form.signature o = embedded_in o
fields_in form.fingerprint o = named_in o
fields_in form.pairs o = pairs_in o

abbrev pub or_unfit : {A : Type 0} → (A → Meaning) → Option A → Meaning
or_unfit f None = unfit
or_unfit f (Some x) = f x

abbrev pub meaning_by : SubpacketKind → List ℕ → Option Form → Meaning
meaning_by k o None = unknown
meaning_by k o (Some f) = or_unfit (typed k f) (fields_in f o)

-- the meaning of data of this kind
unfoldable pub meaning_of : SubpacketKind → List ℕ → Meaning
meaning_of k o = meaning_by k o (form_of k)
