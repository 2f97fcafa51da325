-- Reading an area of subpackets from left to right, with the first fault.
use Rattle.std.specs.Prelude.{ℕ, zero, suc, List, [], ◌∷◌, length, take, drop, Option, Some, None}
use Rattle.std.specs.Prelude.{Result, Ok, Err, nat_lt, if◌then◌else◌}
use Rattle.std.specs.Result.{result_unwrap_or}
use Rattle.opgp_octets.specs.declared.fault.Reason.{Reason}
use Rattle.opgp_octets.specs.declared.fault.Reason.TheVariants.{SubEmpty, SubShort}
use Rattle.opgp_octets.specs.declared.fault.BodyFault.{BodyFault}
use Rattle.opgp_octets.specs.declared.sub_len.SubLen.{SubLen}
use Rattle.opgp_octets.specs.Reading.{◌>>=◌}
use Rattle.opgp_octets.specs.SubLen.{sub_len_amount, sub_len_at}
use Rattle.opgp_packet.specs.Subpackets.{Sub}
use Rattle.opgp_packet.specs.Fields.{fault_at}

-- a value, or a fault at the point where this many octets are left
abbrev pub placed : {A : Type 0} → ℕ → ℕ → Result A Reason → Result A BodyFault
placed total left (Ok x) = Ok x
placed total left (Err reason) = Err (fault_at total left reason)

abbrev pub or_sub_short : {A : Type 0} → Option A → Result A Reason
or_sub_short None = Err SubShort
or_sub_short (Some x) = Ok x

-- a type octet and data, this many octets together
abbrev pub inside_at : SubLen → ℕ → List ℕ → Result (Sub × List ℕ) Reason
inside_at len zero o = Err SubEmpty
inside_at len (suc n) [] = Err SubShort
inside_at len (suc n) (kind ∷ o) = if nat_lt (length o) n then Err SubShort
    else Ok (record { len = len; kind = kind; octets = take n o }, drop n o)

-- the subpacket that begins a list and what follows it, or why there is none
unfoldable pub sub_at : List ℕ → Result (Sub × List ℕ) Reason
sub_at o = or_sub_short (sub_len_at o) >>= λ x. inside_at x.0 (sub_len_amount x.0) (drop x.1 o)

-- the subpackets of an area that ends at this offset of its body, at most the given number
abbrev pub subs_at : ℕ → ℕ → List ℕ → Result (List Sub) BodyFault
subs_at end n [] = Ok []
subs_at end zero (x ∷ o) = Ok []
subs_at end (suc n) (x ∷ o) =
    placed end (length (x ∷ o)) (sub_at (x ∷ o)) >>= λ y. subs_at end n y.1 >>= λ z. Ok (y.0 ∷ z)

-- all of them: each takes at least one octet
unfoldable pub area_at : ℕ → List ℕ → Result (List Sub) BodyFault
area_at end o = subs_at end (length o) o

-- the first fault, if there is one
abbrev pub fault_of : {A : Type 0} → Result A BodyFault → Option BodyFault
fault_of (Ok x) = None
fault_of (Err f) = Some f

abbrev pub fault_in : ℕ → List ℕ → Option BodyFault
fault_in end o = fault_of (area_at end o)

-- the subpackets of an area that has no fault
abbrev pub subs_in : List ℕ → List Sub
subs_in o = result_unwrap_or (area_at (length o) o) []
