-- What the subpackets of an area say (RFC 9580, 5.2.3).
use Rattle.std.specs.Prelude.{ℕ, nat_le, min, Bool, true, false, not, ◌&&◌, ◌||◌, ◌==◌}
use Rattle.std.specs.Prelude.{if◌then◌else◌, List, [], ◌∷◌, Option, Some, None, is_some}
use Rattle.std.specs.List.{flat_map, list_any}
use Rattle.std.specs.Option.{option_map, option_and_then}
use Rattle.opgp_octets.specs.SubpacketKind.{subpacket_kind_of}
use Rattle.opgp_octets.specs.declared.subpacket_kind.SubpacketKind.{SubpacketKind}
use Rattle.opgp_octets.specs.declared.subpacket_kind.SubpacketKind.TheVariants as kind
use Rattle.opgp_packet.specs.Forms as form
use Rattle.opgp_packet.specs.Meaning.{Meaning, typed, unfit, unknown}
use Rattle.opgp_packet.specs.MeaningReading.{meaning_of}
use Rattle.opgp_packet.specs.Subpackets.{Sub}
use Rattle.opgp_packet.specs.SubView.{fields_of, is_critical, kind_shown}
use Rattle.opgp_report.specs.Signer.{first_some}
use Rattle.opgp_valid.specs.declared.uses.Uses.{Uses}
use Rattle.opgp_valid.specs.Uses.{all_of, uses_of}

abbrev pub at_most_one : {A : Type 0} → Option A → List A
at_most_one (Some x) = x ∷ []
at_most_one None = []

-- the numbers of seconds that subpackets of this kind state
abbrev pub numbers_in : SubpacketKind → List Sub → List ℕ
numbers_in k subs = flat_map (λ s. at_most_one (fields_of k form.number s)) subs

-- ---- when it was made
-- the one in the list, if there is one and no other
abbrev pub the_one : List ℕ → Option ℕ
the_one (n ∷ []) = Some n
the_one list = None

-- the one time that they state (5.2.3.11)
abbrev pub made_in : List Sub → Option ℕ
made_in subs = the_one (numbers_in kind.Created subs)

-- they state some
abbrev pub states_time : List Sub → Bool
states_time subs = list_any (λ s. is_some (fields_of kind.Created form.number s)) subs

-- ---- how long it lasts
-- the shorter of two lengths of time, where 0 is for ever
abbrev pub shorter : ℕ → ℕ → ℕ
shorter a b = if a == 0 then b else (if b == 0 then a else min a b)

abbrev pub shortest : List ℕ → ℕ
shortest [] = 0
shortest (n ∷ ns) = shorter n (shortest ns)

-- the shortest that they state: of the signature (5.2.3.18), or of the key (5.2.3.13)
abbrev pub lasts_in : SubpacketKind → List Sub → ℕ
lasts_in k subs = shortest (numbers_in k subs)

-- ---- what the key is for
abbrev pub first_octet : List ℕ → ℕ
first_octet [] = 0
first_octet (n ∷ o) = n

-- what one of them lets a key be used for (5.2.3.29)
abbrev pub uses_stated : Sub → Option Uses
uses_stated s = option_map (λ o. uses_of (first_octet o)) (fields_of kind.KeyFlags form.octets s)

-- what all of them allow; without any, everything
abbrev pub uses_in_area : List Sub → Uses
uses_in_area subs = all_of (flat_map (λ s. at_most_one (uses_stated s)) subs)

-- there are some
abbrev pub has_flags : List Sub → Bool
has_flags subs = list_any (λ s. is_some (uses_stated s)) subs

-- ---- which user ID is the primary one (5.2.3.27)
abbrev pub is_nonzero : Option ℕ → Bool
is_nonzero None = false
is_nonzero (Some n) = not (n == 0)

abbrev pub is_main_in : List Sub → Bool
is_main_in subs = list_any (λ s. is_nonzero (fields_of kind.PrimaryUserId form.octet s)) subs

-- ---- revocations
-- the fingerprint of a key that may revoke; bit 7 of the class is set (5.2.3.23)
abbrev pub revoker_by : ℕ × ℕ × List ℕ → Option (List ℕ)
revoker_by x = if nat_le 128 x.0 then Some x.2 else None

abbrev pub revoker_stated : Sub → Option (List ℕ)
revoker_stated s = option_and_then revoker_by (fields_of kind.RevocationKey form.revoker s)

abbrev pub revokers_in : List Sub → List (List ℕ)
revokers_in subs = flat_map (λ s. at_most_one (revoker_stated s)) subs

-- the code of the reason for a revocation (5.2.3.31)
abbrev pub reason_stated : Sub → Option ℕ
reason_stated s = option_map (λ x. x.0) (fields_of kind.RevocationReason form.code_and_text s)

abbrev pub reason_in : List Sub → Option ℕ
reason_in subs = first_some reason_stated subs

-- ---- what isn't well-formed
abbrev pub is_unfit : Meaning → Bool
is_unfit unfit = true
is_unfit (typed k f fields) = false
is_unfit unknown = false

-- the data of one hasn't the form of its kind
abbrev pub has_unfit : List Sub → Bool
has_unfit subs =
    list_any (λ s. is_unfit (meaning_of (subpacket_kind_of (kind_shown s.kind)) s.octets)) subs

-- ---- what is critical
abbrev pub is_known : Meaning → Bool
is_known (typed k f fields) = true
is_known unfit = false
is_known unknown = false

abbrev pub is_notation : SubpacketKind → Bool
is_notation kind.Notation = true
is_notation other = false

-- a critical subpacket whose kind is unknown, whose data hasn't the form of its kind, or that is a
-- notation, of which none is known here (5.2.3.7, 5.2.3.24)
abbrev pub is_unknown_critical : Sub → Bool
is_unknown_critical s = let k = subpacket_kind_of (kind_shown s.kind) in
    is_critical s.kind && (is_notation k || not (is_known (meaning_of k s.octets)))

abbrev pub has_unknown_critical : List Sub → Bool
has_unknown_critical subs = list_any is_unknown_critical subs
