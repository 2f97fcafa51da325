-- Rows of subpackets say where the data of what they are of lies.
use Rattle.std.proofs.Common.{◌≡◌, ◌∙◌, ℕ, ◌+◌, List, [], ◌∷◌, ◌++◌, length, map, Result, Ok, Err, refl, sym, ap, append_assoc, append-nil}
use Rattle.std.specs.Prelude.{drop}
use Rattle.std.specs.List.{flat_map}
use Rattle.std.proofs.lemmas.List.{map-append}
use Rattle.opgp_octets.specs.declared.fault.BodyFault.{BodyFault}
use Rattle.opgp_packet.specs.Areas.{hashed_subs, unhashed_subs}
use Rattle.opgp_packet.specs.SignatureBody.{SignatureValue, signature_at}
use Rattle.opgp_packet.specs.Subpackets.{Sub}
use Rattle.opgp_report.specs.declared.place.Place.{Place}
use Rattle.opgp_report.specs.Standing.{Standing, standing_in}
use Rattle.opgp_keyring.specs.Keyring.{KeyringValue}
use Rattle.opgp_tables.specs.declared.subpacket_row.SubpacketRow.{SubpacketRow}
use Rattle.opgp_tables.specs.Subpackets.{area_octets, area_rows, areas_octets, areas_rows, octets_read, rows_read, sub_shown, subpacket_bytes, subpacket_octets, subpacket_row, subpacket_rows, subpacket_shown, subpackets_from, subs_of, subs_read}
use Rattle.opgp_tables.proofs.Cutting.{here, next}

module _ (bytes : List ℕ) where
  -- what a row shows, and what it is of
  abbrev shown : List SubpacketRow → List (ℕ × List ℕ)
  shown rows = map (subpacket_shown bytes) rows

  abbrev wanted : List Sub → List (ℕ × List ℕ)
  wanted subs = map sub_shown subs

  both : (rows more : List SubpacketRow) (subs others : List Sub) → shown rows ≡ wanted subs → shown more ≡ wanted others → shown (rows ++ more) ≡ wanted (subs ++ others)
  both rows more subs others e f = map-append (subpacket_shown bytes) rows more
      ∙ ap (λ (l : List (ℕ × List ℕ)). l ++ shown more) e ∙ ap (λ (l : List (ℕ × List ℕ)). wanted subs ++ l) f
      ∙ sym (map-append sub_shown subs others)

  area : (place : Place) (is_hashed at : ℕ) (subs : List Sub) (rest : List ℕ) → drop at bytes ≡ area_octets subs ++ rest → shown (area_rows place is_hashed at subs) ≡ wanted subs
  area place is_hashed at [] rest e = refl
  area place is_hashed at (s ∷ subs) rest e =
      let more : List ℕ = area_octets subs in
      let f : drop at bytes ≡ s.octets ++ (more ++ rest) = e ∙ append_assoc s.octets more rest in
      both (subpacket_row place is_hashed at s ∷ []) (area_rows place is_hashed (at + length s.octets) subs) (s ∷ []) subs
      (ap (λ (o : List ℕ). ((sub_shown s).0, o) ∷ []) (here bytes at s.octets (more ++ rest) f))
      (area place is_hashed (at + length s.octets) subs rest (next bytes at s.octets (more ++ rest) f))

  areas : (place : Place) (at : ℕ) (hashed unhashed : List Sub) (rest : List ℕ) → drop at bytes ≡ areas_octets hashed unhashed ++ rest → shown (areas_rows place at hashed unhashed) ≡ wanted (hashed ++ unhashed)
  areas place at hashed unhashed rest e =
      let f : drop at bytes ≡ area_octets hashed ++ (area_octets unhashed ++ rest) = e ∙ append_assoc (area_octets hashed) (area_octets unhashed) rest in
      both (area_rows place 1 at hashed) (area_rows place 0 (at + length (area_octets hashed)) unhashed) hashed unhashed
      (area place 1 at hashed (area_octets unhashed ++ rest) f)
      (area place 0 (at + length (area_octets hashed)) unhashed rest (next bytes at (area_octets hashed) (area_octets unhashed ++ rest) f))

  of_one : (place : Place) (at : ℕ) (read : Result SignatureValue BodyFault) (rest : List ℕ) → drop at bytes ≡ octets_read read ++ rest → shown (rows_read place at read) ≡ wanted (subs_read read)
  of_one place at (Ok v) rest e = areas place at (hashed_subs v) (unhashed_subs v) rest e
  of_one place at (Err fault) rest e = refl

  of_each : (at : ℕ) (list : List Standing) (rest : List ℕ) → drop at bytes ≡ flat_map subpacket_octets list ++ rest → shown (subpackets_from at list) ≡ wanted (flat_map subs_of list)
  of_each at [] rest e = refl
  of_each at (s ∷ list) rest e =
      let more : List ℕ = flat_map subpacket_octets list in
      let f : drop at bytes ≡ subpacket_octets s ++ (more ++ rest) = e ∙ append_assoc (subpacket_octets s) more rest in
      both (rows_read s.place at (signature_at s.body)) (subpackets_from (at + length (subpacket_octets s)) list) (subs_of s) (flat_map subs_of list)
      (of_one s.place at (signature_at s.body) (more ++ rest) f)
      (of_each (at + length (subpacket_octets s)) list rest (next bytes at (subpacket_octets s) (more ++ rest) f))

pub data_lies : (r : KeyringValue) → map (subpacket_shown (subpacket_bytes r)) (subpacket_rows r) ≡ map sub_shown (flat_map subs_of (standing_in r))
data_lies r = of_each (subpacket_bytes r) 0 (standing_in r) [] (sym (append-nil (subpacket_bytes r)))
