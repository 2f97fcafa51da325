-- Rows say where the octets of what they are of lie.
use Rattle.std.proofs.Common.{◌≡◌, ◌∙◌, ℕ, ◌+◌, List, [], ◌∷◌, ◌++◌, length, map, refl, sym, ap, append_assoc, append-nil}
use Rattle.std.specs.Prelude.{drop}
use Rattle.std.specs.List.{flat_map}
use Rattle.std.proofs.lemmas.List.{map-append}
use Rattle.std.proofs.lemmas.Grind.{flat_map-append}
use Rattle.std.proofs.Math.Seq.{drop-append_seam}
use Rattle.opgp_frame.specs.Packet.{PacketValue}
use Rattle.opgp_keyring.specs.Keyring.{CertificateValue, ComponentValue, KeyringValue, certificate_packets, component_packets, flat}
use Rattle.opgp_tables.specs.declared.packet_row.PacketRow.{PacketRow}
use Rattle.opgp_tables.specs.Packets.{bodies, packet_row, hangs_packets, component_rows, components_rows, certificate_rows, certificates_rows, packet_rows, packet_bytes, packet_shown, row_shown}
use Rattle.opgp_tables.specs.Room.{none}
use Rattle.opgp_tables.proofs.Cutting.{here, next}

bodies-append : (ps qs : List PacketValue) → bodies (ps ++ qs) ≡ bodies ps ++ bodies qs
bodies-append ps qs = flat_map-append (λ (p : PacketValue). p.body) ps qs

-- ---- the packets of a keyring
module _ (bytes : List ℕ) where
  -- what a row shows, and what it is of
  abbrev shown : List PacketRow → List (ℕ × List ℕ)
  shown rows = map (row_shown bytes) rows

  abbrev wanted : List PacketValue → List (ℕ × List ℕ)
  wanted ps = map packet_shown ps

  both : (rows more : List PacketRow) (ps qs : List PacketValue) → shown rows ≡ wanted ps → shown more ≡ wanted qs → shown (rows ++ more) ≡ wanted (ps ++ qs)
  both rows more ps qs e f = map-append (row_shown bytes) rows more
      ∙ ap (λ (l : List (ℕ × List ℕ)). l ++ shown more) e ∙ ap (λ (l : List (ℕ × List ℕ)). wanted ps ++ l) f
      ∙ sym (map-append packet_shown ps qs)

  one : (c k n at : ℕ) (p : PacketValue) (rest : List ℕ) → drop at bytes ≡ p.body ++ rest → shown (packet_row c k n at p ∷ []) ≡ wanted (p ∷ [])
  one c k n at p rest e = ap (λ (o : List ℕ). (p.kind, o) ∷ []) (here bytes at p.body rest e)

  hangs : (c k n at : ℕ) (ps : List PacketValue) (rest : List ℕ) → drop at bytes ≡ bodies ps ++ rest → shown (hangs_packets c k n at ps) ≡ wanted ps
  hangs c k n at [] rest e = refl
  hangs c k n at (p ∷ ps) rest e =
      let f : drop at bytes ≡ p.body ++ (bodies ps ++ rest) = e ∙ append_assoc p.body (bodies ps) rest in
      both (packet_row c k n at p ∷ []) (hangs_packets c k (n + 1) (at + length p.body) ps) (p ∷ []) ps (one c k n at p (bodies ps ++ rest) f)
      (hangs c k (n + 1) (at + length p.body) ps rest (next bytes at p.body (bodies ps ++ rest) f))

  component : (c n at : ℕ) (k : ComponentValue) (rest : List ℕ) → drop at bytes ≡ bodies (component_packets k) ++ rest → shown (component_rows c n at k) ≡ wanted (component_packets k)
  component c n at k rest e =
      let f : drop at bytes ≡ k.head.body ++ (bodies k.hangs ++ rest) = e ∙ append_assoc k.head.body (bodies k.hangs) rest in
      both (packet_row c n none at k.head ∷ []) (hangs_packets c n 0 (at + length k.head.body) k.hangs) (k.head ∷ []) k.hangs (one c n none at k.head (bodies k.hangs ++ rest) f)
      (hangs c n 0 (at + length k.head.body) k.hangs rest (next bytes at k.head.body (bodies k.hangs ++ rest) f))

  components : (c n at : ℕ) (ks : List ComponentValue) (rest : List ℕ) → drop at bytes ≡ bodies (flat_map component_packets ks) ++ rest → shown (components_rows c n at ks) ≡ wanted (flat_map component_packets ks)
  components c n at [] rest e = refl
  components c n at (k ∷ ks) rest e =
      let more : List PacketValue = flat_map component_packets ks in
      let f : drop at bytes ≡ bodies (component_packets k) ++ (bodies more ++ rest) = e ∙ ap (λ (l : List ℕ). l ++ rest) (bodies-append (component_packets k) more) ∙ append_assoc (bodies (component_packets k)) (bodies more) rest in
      both (component_rows c n at k) (components_rows c (n + 1) (at + length (bodies (component_packets k))) ks) (component_packets k) more (component c n at k (bodies more ++ rest) f)
      (components c (n + 1) (at + length (bodies (component_packets k))) ks rest (next bytes at (bodies (component_packets k)) (bodies more ++ rest) f))

  certificate : (n at : ℕ) (c : CertificateValue) (rest : List ℕ) → drop at bytes ≡ bodies (certificate_packets c) ++ rest → shown (certificate_rows n at c) ≡ wanted (certificate_packets c)
  certificate n at c rest e =
      let more : List PacketValue = flat_map component_packets c.components in
      let f : drop at bytes ≡ c.primary.body ++ (bodies (c.hangs ++ more) ++ rest) = e ∙ append_assoc c.primary.body (bodies (c.hangs ++ more)) rest in
      let g : drop (at + length c.primary.body) bytes ≡ bodies c.hangs ++ (bodies more ++ rest) = next bytes at c.primary.body (bodies (c.hangs ++ more) ++ rest) f
      ∙ ap (λ (l : List ℕ). l ++ rest) (bodies-append c.hangs more) ∙ append_assoc (bodies c.hangs) (bodies more) rest in
      both (packet_row n none none at c.primary ∷ []) (hangs_packets n none 0 (at + length c.primary.body) c.hangs ++ components_rows n 0 (at + length c.primary.body + length (bodies c.hangs)) c.components)
      (c.primary ∷ []) (c.hangs ++ more) (one n none none at c.primary (bodies (c.hangs ++ more) ++ rest) f)
      (both (hangs_packets n none 0 (at + length c.primary.body) c.hangs) (components_rows n 0 (at + length c.primary.body + length (bodies c.hangs)) c.components) c.hangs more
      (hangs n none 0 (at + length c.primary.body) c.hangs (bodies more ++ rest) g)
      (components n 0 (at + length c.primary.body + length (bodies c.hangs)) c.components rest (next bytes (at + length c.primary.body) (bodies c.hangs) (bodies more ++ rest) g)))

  certificates : (n at : ℕ) (cs : List CertificateValue) (rest : List ℕ) → drop at bytes ≡ bodies (flat_map certificate_packets cs) ++ rest → shown (certificates_rows n at cs) ≡ wanted (flat_map certificate_packets cs)
  certificates n at [] rest e = refl
  certificates n at (c ∷ cs) rest e =
      let more : List PacketValue = flat_map certificate_packets cs in
      let f : drop at bytes ≡ bodies (certificate_packets c) ++ (bodies more ++ rest) = e ∙ ap (λ (l : List ℕ). l ++ rest) (bodies-append (certificate_packets c) more) ∙ append_assoc (bodies (certificate_packets c)) (bodies more) rest in
      both (certificate_rows n at c) (certificates_rows (n + 1) (at + length (bodies (certificate_packets c))) cs) (certificate_packets c) more (certificate n at c (bodies more ++ rest) f)
      (certificates (n + 1) (at + length (bodies (certificate_packets c))) cs rest (next bytes at (bodies (certificate_packets c)) (bodies more ++ rest) f))

pub packets_lie : (r : KeyringValue) → map (row_shown (packet_bytes r)) (packet_rows r) ≡ map packet_shown (flat r)
packets_lie r =
    let bytes : List ℕ = packet_bytes r in
    let more : List PacketValue = flat_map certificate_packets r.certificates in
    let f : drop 0 bytes ≡ bodies r.lead ++ bodies more = bodies-append r.lead more in
    let g : drop (length (bodies r.lead)) bytes ≡ bodies more ++ [] = ap (λ (l : List ℕ). drop (length (bodies r.lead)) l) f ∙ drop-append_seam (bodies r.lead) (bodies more) ∙ sym (append-nil (bodies more)) in
    both bytes (hangs_packets none none 0 0 r.lead) (certificates_rows 0 (length (bodies r.lead)) r.certificates) r.lead more (hangs bytes none none 0 0 r.lead (bodies more) f)
    (certificates bytes 0 (length (bodies r.lead)) r.certificates [] g)
