-- The rows of keys are in the order of the keys that signatures name, and say where their material lies.
use Rattle.std.proofs.Common.{◌≡◌, ◌∙◌, ℕ, ◌+◌, Bool, true, false, List, [], ◌∷◌, ◌++◌, length, map, refl, sym, ap, append_assoc, append-nil}
use Rattle.std.specs.Prelude.{if◌then◌else◌, drop}
use Rattle.std.specs.List.{flat_map}
use Rattle.std.proofs.lemmas.List.{map-append}
use Rattle.opgp_octets.specs.declared.packet_type.PacketType.TheVariants as packet
use Rattle.opgp_frame.specs.Header.{is_type}
use Rattle.opgp_hash.specs.Fingerprint.{print_octets}
use Rattle.opgp_report.specs.First.{print_of}
use Rattle.opgp_report.specs.Report.{certificate_keys, keys_in, subkey_bodies}
use Rattle.opgp_keyring.specs.Keyring.{CertificateValue, ComponentValue, KeyringValue}
use Rattle.opgp_tables.specs.declared.key_row.KeyRow.{KeyRow}
use Rattle.opgp_tables.specs.Keys.{key_bytes, key_parts, key_row, key_rows, component_keys, component_material, components_keys, certificate_material, certificate_rows, certificates_rows, key_material}
use Rattle.opgp_tables.specs.Parts.{cuts}
use Rattle.opgp_tables.specs.Room.{none, padded}
use Rattle.opgp_tables.proofs.Cutting.{cut_all, next}

abbrev named : List KeyRow → List (List ℕ)
named rows = map (λ row. row.print) rows

abbrev wanted : List (List ℕ) → List (List ℕ)
wanted keys = map (λ body. padded 32 (print_octets (print_of body))) keys

both : (rows more : List KeyRow) (ks ls : List (List ℕ)) → named rows ≡ wanted ks → named more ≡ wanted ls → named (rows ++ more) ≡ wanted (ks ++ ls)
both rows more ks ls e f = map-append (λ row. row.print) rows more
    ∙ ap (λ (l : List (List ℕ)). l ++ named more) e ∙ ap (λ (l : List (List ℕ)). wanted ks ++ l) f
    ∙ sym (map-append (λ (body : List ℕ). padded 32 (print_octets (print_of body))) ks ls)

by_test : (b : Bool) (row : KeyRow) (key : List ℕ) → named (row ∷ []) ≡ wanted (key ∷ []) → named (if b then row ∷ [] else []) ≡ wanted (if b then key ∷ [] else [])
by_test true row key e = e
by_test false row key e = refl

components : (c n at : ℕ) (ks : List ComponentValue) → named (components_keys c n at ks) ≡ wanted (flat_map subkey_bodies ks)
components c n at [] = refl
components c n at (k ∷ ks) =
    both (component_keys c n at k) (components_keys c (n + 1) (at + length (component_material k)) ks) (subkey_bodies k) (flat_map subkey_bodies ks)
    (by_test (is_type packet.PublicSubkey k.head.kind) (key_row c n at k.head.body) k.head.body refl) (components c (n + 1) (at + length (component_material k)) ks)

certificates : (n at : ℕ) (cs : List CertificateValue) → named (certificates_rows n at cs) ≡ wanted (flat_map certificate_keys cs)
certificates n at [] = refl
certificates n at (c ∷ cs) =
    both (certificate_rows n at c) (certificates_rows (n + 1) (at + length (certificate_material c)) cs) (certificate_keys c) (flat_map certificate_keys cs)
    (ap (λ (l : List (List ℕ)). padded 32 (print_octets (print_of c.primary.body)) ∷ l) (components n 0 (at + length (key_material c.primary.body)) c.components))
    (certificates (n + 1) (at + length (certificate_material c)) cs)

pub rows_are_keys : (r : KeyringValue) → map (λ row. row.print) (key_rows r) ≡ map (λ body. padded 32 (print_octets (print_of body))) (keys_in r)
rows_are_keys r = certificates 0 0 r.certificates

-- ---- material
module _ (bytes : List ℕ) where
  abbrev cut : List KeyRow → List (List (List ℕ))
  cut rows = map (λ row. cuts bytes row.at row.sizes) rows

  abbrev parts : List (List ℕ) → List (List (List ℕ))
  parts keys = map key_parts keys

  joined : (rows more : List KeyRow) (ks ls : List (List ℕ)) → cut rows ≡ parts ks → cut more ≡ parts ls → cut (rows ++ more) ≡ parts (ks ++ ls)
  joined rows more ks ls e f = map-append (λ row. cuts bytes row.at row.sizes) rows more
      ∙ ap (λ (l : List (List (List ℕ))). l ++ cut more) e ∙ ap (λ (l : List (List (List ℕ))). parts ks ++ l) f ∙ sym (map-append key_parts ks ls)

  lies : (c k at : ℕ) (body rest : List ℕ) → drop at bytes ≡ key_material body ++ rest → cut (key_row c k at body ∷ []) ≡ parts (body ∷ [])
  lies c k at body rest e = ap (λ (l : List (List ℕ)). l ∷ []) (cut_all bytes at (key_parts body) rest e)

  chosen : (b : Bool) (c k at : ℕ) (body rest : List ℕ) → drop at bytes ≡ (if b then key_material body else []) ++ rest → cut (if b then key_row c k at body ∷ [] else []) ≡ parts (if b then body ∷ [] else [])
  chosen true c k at body rest e = lies c k at body rest e
  chosen false c k at body rest e = refl

  cut_components : (c n at : ℕ) (ks : List ComponentValue) (rest : List ℕ) → drop at bytes ≡ flat_map component_material ks ++ rest → cut (components_keys c n at ks) ≡ parts (flat_map subkey_bodies ks)
  cut_components c n at [] rest e = refl
  cut_components c n at (k ∷ ks) rest e =
      let more : List ℕ = flat_map component_material ks in
      let f : drop at bytes ≡ component_material k ++ (more ++ rest) = e ∙ append_assoc (component_material k) more rest in
      joined (component_keys c n at k) (components_keys c (n + 1) (at + length (component_material k)) ks) (subkey_bodies k) (flat_map subkey_bodies ks)
      (chosen (is_type packet.PublicSubkey k.head.kind) c n at k.head.body (more ++ rest) f)
      (cut_components c (n + 1) (at + length (component_material k)) ks rest (next bytes at (component_material k) (more ++ rest) f))

  cut_certificate : (n at : ℕ) (c : CertificateValue) (rest : List ℕ) → drop at bytes ≡ certificate_material c ++ rest → cut (certificate_rows n at c) ≡ parts (certificate_keys c)
  cut_certificate n at c rest e =
      let more : List ℕ = flat_map component_material c.components in
      let f : drop at bytes ≡ key_material c.primary.body ++ (more ++ rest) = e ∙ append_assoc (key_material c.primary.body) more rest in
      joined (key_row n none at c.primary.body ∷ []) (components_keys n 0 (at + length (key_material c.primary.body)) c.components) (c.primary.body ∷ []) (flat_map subkey_bodies c.components)
      (lies n none at c.primary.body (more ++ rest) f)
      (cut_components n 0 (at + length (key_material c.primary.body)) c.components rest (next bytes at (key_material c.primary.body) (more ++ rest) f))

  cut_certificates : (n at : ℕ) (cs : List CertificateValue) (rest : List ℕ) → drop at bytes ≡ flat_map certificate_material cs ++ rest → cut (certificates_rows n at cs) ≡ parts (flat_map certificate_keys cs)
  cut_certificates n at [] rest e = refl
  cut_certificates n at (c ∷ cs) rest e =
      let more : List ℕ = flat_map certificate_material cs in
      let f : drop at bytes ≡ certificate_material c ++ (more ++ rest) = e ∙ append_assoc (certificate_material c) more rest in
      joined (certificate_rows n at c) (certificates_rows (n + 1) (at + length (certificate_material c)) cs) (certificate_keys c) (flat_map certificate_keys cs)
      (cut_certificate n at c (more ++ rest) f)
      (cut_certificates (n + 1) (at + length (certificate_material c)) cs rest (next bytes at (certificate_material c) (more ++ rest) f))

pub material_lies : (r : KeyringValue) → map (λ row. cuts (key_bytes r) row.at row.sizes) (key_rows r) ≡ map key_parts (keys_in r)
material_lies r = cut_certificates (key_bytes r) 0 0 r.certificates [] (sym (append-nil (key_bytes r)))
