-- What changed between two keyrings, as a run writes it.
use Rattle.std.specs.Prelude.{◌≡◌, ℕ, List, [], ◌∷◌, ◌++◌, Option, Some, None, codes, slice_get, map}
use Rattle.std.specs.Fmt.{decimal}
use Rattle.std.specs.List.{flat_map}
use Rattle.std.specs.Option.{option_map}
use Rattle.hex.specs.Hex.{encode_upper}
use Rattle.opgp_hash.specs.Fingerprint.{print_octets}
use Rattle.opgp_hash.specs.declared.fingerprints.Fingerprint.{Fingerprint}
use Rattle.opgp_octets.specs.declared.limits.Limits.{Limits}
use Rattle.opgp_keyring.specs.Keyring.{KeyringValue}
use Rattle.opgp_report.specs.First.{print_of}
use Rattle.opgp_difference.specs.Difference.{told}
use Rattle.opgp_difference.specs.Entries.{PlacedValue}
use Rattle.opgp_difference.specs.declared.place.PacketPlace.{PacketPlace}
use Rattle.opgp_state.specs.Report.{joined, number_or_none}
use Rattle.opgp_codec.specs.Keyrings.{ComposesTo, key_label}
use Rattle.opgp_codec.specs.Reading.{AnswerOf, Outcome}
use Rattle.opgp_codec.specs.declared.mode.Mode.{Mode}
use Rattle.opgp_stack.specs.Running.{Made, Text, on_value}
use Rattle.opgp_stack.specs.ValuedListing.{valued_packet_line}

-- the fingerprint of the certificate of this number
abbrev pub print_at : KeyringValue → ℕ → Option Fingerprint
print_at r n = option_map (λ c. print_of c.primary.body) (slice_get r.certificates n)

abbrev pub octets_of : Option Fingerprint → List ℕ
octets_of (Some print) = print_octets print
octets_of None = []

-- `<word> <fingerprint> cert <n> part <n or -> hang <n or -> : `
abbrev pub place_words : List ℕ → List ℕ → PacketPlace → List ℕ
place_words word print place = joined (word ∷ encode_upper print ∷ codes " cert "
    ∷ decimal place.certificate ∷ codes " part " ∷ number_or_none place.component
    ∷ codes " hang " ∷ number_or_none place.hang ∷ codes " : " ∷ [])

-- the line of a packet: its certificate's fingerprint, its place, and what a listing with values
-- says of it
abbrev pub changed_line : List ℕ → KeyringValue → PlacedValue → List ℕ
changed_line word r p =
    place_words word (octets_of (print_at r p.place.certificate)) p.place
    ++ valued_packet_line p.packet

-- a line for each packet that is gone, then one for each that is new
abbrev pub difference_lines : KeyringValue → KeyringValue → List ℕ
difference_lines old new =
    flat_map (changed_line (codes "gone ") old) (map (λ s. s.placed) (told new old))
    ++ flat_map (changed_line (codes "new ") new) (map (λ s. s.placed) (told old new))

-- what is made of the octets of the new keyring: a refusal stays one
abbrev pub OfDifference : KeyringValue → Mode → Limits → List ℕ → Made → Type 0
OfDifference old mode limits octets made = (answer : Outcome KeyringValue)
    × AnswerOf key_label (ComposesTo limits) mode limits octets answer
    × (made ≡ on_value (λ new. Text (difference_lines old new)) answer)
