-- A user attribute is its area of subpackets.
use Rattle.std.proofs.Common.{◌≡◌, ℕ, ◌-◌, List, [], ◌∷◌, length, Some, None, Result, Ok, Err, refl, ap, ◌∙◌, arith}
use Rattle.opgp_octets.specs.declared.fault.BodyFault.{BodyFault}
use Rattle.opgp_octets.specs.Reading.{◌>>=◌}
use Rattle.opgp_packet.specs.Subpackets.{Sub}
use Rattle.opgp_packet.specs.Fields.{Field, subpackets, to_end}
use Rattle.opgp_packet.specs.AreaReading.{area_at, fault_of, fault_in, subs_in}
use Rattle.opgp_packet.specs.FieldReading.{body_at, ended, area_step_at, extent_at}
use Rattle.opgp_packet.specs.AttributeBody.{attribute}
use Rattle.opgp_packet.proofs.AreaLaws.{whole_of}

abbrev listed : Result (List Sub) BodyFault → Result (List Field) BodyFault
listed r = r >>= λ z. Ok (subpackets to_end z ∷ [])

abbrev one : {A : Type 0} → A → List ℕ → Result (A × List ℕ) BodyFault
one x rest = Ok (x, rest)

joined : (total : ℕ) (r : Result (List Sub) BodyFault) → (((r >>= λ z. one (subpackets to_end z) []) >>= λ x. one (x.0 ∷ []) x.1) >>= ended total) ≡ listed r
joined total (Ok z) = refl
joined total (Err f) = refl

attribute_is : (o : List ℕ) → body_at attribute o ≡ listed (area_at (length o) o)
unfolding body_at area_step_at extent_at
attribute_is o =
    let all : length o - 0 ≡ length o = omega arith in
    ap (λ (end : ℕ). ((area_at end o >>= λ z. one (subpackets to_end z) []) >>= λ x. one (x.0 ∷ []) x.1) >>= ended (length o)) all ∙ joined (length o) (area_at (length o) o)

pub attribute_ok : (o : List ℕ) → fault_in (length o) o ≡ None → body_at attribute o ≡ Ok (subpackets to_end (subs_in o) ∷ [])
attribute_ok o e = attribute_is o ∙ ap listed (whole_of (area_at (length o) o) e)

fault_is : (r : Result (List Sub) BodyFault) (f : BodyFault) → fault_of r ≡ Some f → listed r ≡ Err f
fault_is (Ok z) f e = absurd cc
fault_is (Err g) f e = cc

pub attribute_err : (o : List ℕ) (f : BodyFault) → fault_in (length o) o ≡ Some f → body_at attribute o ≡ Err f
attribute_err o f e = attribute_is o ∙ fault_is (area_at (length o) o) f e
