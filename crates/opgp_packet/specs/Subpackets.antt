-- Subpackets and areas of them (RFC 9580, 5.2.3.7, 5.12): a length, which includes the type octet,
-- the type octet, data.
use Rattle.std.specs.Prelude.{◌≡◌, ℕ, suc, ◌-◌, ◌^◌, ◌<◌, List, ◌∷◌, ◌++◌, length, Option, Some}
use Rattle.std.specs.Prelude.{None, ◌==◌, if◌then◌else◌}
use Rattle.std.specs.List.{AllByRecursion, flat_map}
use Rattle.opgp_octets.specs.declared.fault.Reason.{Reason}
use Rattle.opgp_octets.specs.declared.fault.Reason.TheVariants.{SubEmpty, SubShort}
use Rattle.opgp_octets.specs.declared.fault.BodyFault.{BodyFault}
use Rattle.opgp_octets.specs.declared.sub_len.SubLen.{SubLen}
use Rattle.opgp_octets.specs.Octets.{IsOctets}
use Rattle.opgp_octets.specs.SubLen.{SubLenFits, sub_len_octets, sub_len_amount, sub_len_at}

-- a subpacket: the form of its length, its whole type octet, and its data
pub record Sub : Type 0 where
  pub len : SubLen
  pub kind : ℕ
  pub octets : List ℕ

-- the encoding
abbrev pub sub_octets : Sub → List ℕ
sub_octets s = sub_len_octets s.len ++ s.kind ∷ s.octets

-- what can be encoded
pub record IsSub (s : Sub) : Type 0 where
  pub len : SubLenFits s.len
  pub kind : s.kind < 2 ^ 8
  pub amount : sub_len_amount s.len ≡ suc (length s.octets)
  pub each : IsOctets s.octets

-- subpackets, one after the other
abbrev pub subs_octets : List Sub → List ℕ
subs_octets subs = flat_map sub_octets subs

abbrev pub AreSubs : List Sub → Type 0
AreSubs subs = AllByRecursion IsSub subs

-- the octets are those of the subpackets, and nothing more
pub record Area (subs : List Sub) (o : List ℕ) : Type 0 where
  pub spelled : o ≡ subs_octets subs
  pub each : AreSubs subs

-- no subpacket begins the octets
abbrev pub HasNoSub : List ℕ → Type 0
HasNoSub o = (s : Sub) (rest : List ℕ) → IsSub s → o ≡ sub_octets s ++ rest → ⊥

-- the reason then: a length of 0, or octets that are incomplete
abbrev pub reason_by : Option (SubLen × ℕ) → Reason
reason_by None = SubShort
reason_by (Some x) = if sub_len_amount x.0 == 0 then SubEmpty else SubShort

abbrev pub sub_reason : List ℕ → Reason
sub_reason o = reason_by (sub_len_at o)

-- Some subpackets begin the area, which ends at this offset of its body, and the next one can't be
-- read there.
pub record AreaFault (end : ℕ) (o : List ℕ) (f : BodyFault) : Type 0 where
  pub before : List Sub
  pub rest : List ℕ
  pub each : AreSubs before
  pub spelled : o ≡ subs_octets before ++ rest
  pub some : 0 < length rest
  pub none : HasNoSub rest
  pub fault : f ≡ record { reason = sub_reason rest; inner = end - length rest }
