-- The places of a keyring's rows, found as its parts come.
use Rattle.std.specs.Prelude.{◌≡◌, ⊤, ℕ, ◌+◌, if◌then◌else◌, List, [], ◌∷◌, ◌++◌, length, map}
use Rattle.std.specs.Prelude.{Option, Some, None, Result, Ok, Err}
use Rattle.std.specs.List.{flat_map}
use Rattle.opgp_keyring.specs.Composed.{PartValue, of_certificate, of_lead}
use Rattle.opgp_keyring.specs.Keyring.{CertificateValue, ComponentValue}
use Rattle.opgp_keyring.specs.Keyring.{certificate_packets, component_packets}
use Rattle.opgp_keyring.specs.Parts.{part_packets}
use Rattle.opgp_report.specs.Standing.{Standing, certificate_standing}
use Rattle.opgp_state.specs.Places.{is_user_id, placed, start_of, user_id_of}
use Rattle.opgp_state.specs.declared.place_maker.PlaceMaker.{PlaceMaker}
use Rattle.opgp_state.specs.declared.placing.Placing.{Placing}
use Rattle.opgp_state.specs.declared.row_place.RowPlace.{RowPlace}

-- ---- the packets that components begin with
-- before this one are so many packets, and so many user IDs
abbrev pub head_place : ℕ → ℕ → ComponentValue → RowPlace
head_place packets user_ids c = record {
  packet = packets;
  user_id = if is_user_id c then Some user_ids else None;
}

abbrev pub user_ids_behind : ℕ → ComponentValue → ℕ
user_ids_behind user_ids c = if is_user_id c then user_ids + 1 else user_ids

abbrev pub heads_from : ℕ → ℕ → List ComponentValue → List RowPlace
heads_from packets user_ids [] = []
heads_from packets user_ids (c ∷ cs) = head_place packets user_ids c
    ∷ heads_from (packets + length (component_packets c)) (user_ids_behind user_ids c) cs

-- ---- the signatures of a certificate
-- these are those of its components
abbrev pub HasHeads : PlaceMaker → CertificateValue → Type 0
HasHeads m c = m.heads.items ≡ heads_from (m.first + 1 + length c.hangs) 0 c.components

-- where the primary key of a certificate is, or where a component begins, behind this many packets
abbrev pub IsHead : ℕ → CertificateValue → Option ℕ → RowPlace → Type 0
IsHead first c component h = (h.packet ≡ first + start_of c component)
    × (h.user_id ≡ user_id_of c component)

-- their places are added for each signature of the certificate, unless memory runs out
abbrev pub AddsPlaces : {E : Type 0} → PlaceMaker → List Standing → Result PlaceMaker E → Type 0
AddsPlaces a list (Ok b) = (c : CertificateValue) → HasHeads a c
    → b.places.items ≡ a.places.items ++ map (λ s. placed a.first c s.place) list
AddsPlaces a list (Err refusal) = ⊤

-- ---- the parts that came so far
-- the places of the rows of parts, before which this many packets are
abbrev pub places_among : ℕ → List PartValue → List RowPlace
places_among first [] = []
places_among first (of_lead ps ∷ parts) = places_among (first + length ps) parts
places_among first (of_certificate c ∷ parts) =
    map (λ s. placed first c s.place) (certificate_standing 0 c)
    ++ places_among (first + length (certificate_packets c)) parts

pub record HasPlaces (p : Placing) (parts : List PartValue) : Type 0 where
  pub packets_are : p.packets ≡ length (flat_map part_packets parts)
  pub places_are : p.places.items ≡ places_among 0 parts
