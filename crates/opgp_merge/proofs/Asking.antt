-- What stands in a merged keyring stood in the keyring, and the other way round.
use Rattle.std.proofs.Common.{◌≡◌, ◌∙◌, ℕ, List, [], sym, ap, subst, inl, inr, ⊎_elim}
use Rattle.std.specs.List.{flat_map}
use Rattle.opgp_frame.specs.Packet.{PacketValue}
use Rattle.opgp_keyring.specs.Keyring.{CertificateValue, ComponentValue, KeyringValue}
use Rattle.opgp_hash.specs.SubjectValue.{SubjectValue, one}
use Rattle.opgp_report.specs.Asked.{Asked, asked_of}
use Rattle.opgp_report.specs.Report.{certificate_keys, keys_in, subkey_bodies}
use Rattle.opgp_report.specs.Standing.{on_head}
use Rattle.opgp_report.proofs.Asking.{certificate_asked, component_asked, components_asked, hang_asked, hangs_asked, ring_asks}
use Rattle.opgp_merge.specs.Merged.{firsts, like, merged_of, same_head, same_packet, same_primary, united_certificate, united_component, united_components}
use Rattle.opgp_merge.proofs.Firsts.{from_filter, from_firsts, has_first, in_filter}
use Rattle.opgp_merge.proofs.Twice.{decides_head, decides_packet, decides_primary, head_key, packet_key, primary_key}
use Rattle.opgp_merge.proofs.Within.{Within, from_append, from_flat, from_map, in_append_left, in_append_right, in_flat, in_map}

-- ---- what hangs in a place, by any question of it that is about types and bodies
abbrev of_key : SubjectValue → ℕ × List ℕ → PacketValue → List Asked
of_key subject k p = hang_asked subject (record { form = p.form; kind = k.0; body = k.1 })

same_asks : (subject : SubjectValue) (p q : PacketValue) → packet_key p ≡ packet_key q → hang_asked subject p ≡ hang_asked subject q
same_asks subject p q e = ap (λ (k : ℕ × List ℕ). of_key subject k p) e

hangs_only : (subject : SubjectValue) (ps : List PacketValue) (a : Asked) → Within (hangs_asked subject (firsts same_packet ps)) a → Within (hangs_asked subject ps) a
hangs_only subject ps a w =
    let at = from_flat (hang_asked subject) (firsts same_packet ps) a w in
    in_flat (hang_asked subject) ps at.0 a (from_firsts same_packet packet_key decides_packet at.0 ps at.1) at.2

hangs_all : (subject : SubjectValue) (ps : List PacketValue) (p : PacketValue) (a : Asked) → Within ps p → Within (hang_asked subject p) a → Within (hangs_asked subject (firsts same_packet ps)) a
hangs_all subject ps p a v w =
    let first = has_first same_packet packet_key decides_packet p ps v in
    in_flat (hang_asked subject) (firsts same_packet ps) first.0 a first.1
    (subst (λ l. Within l a) (sym (same_asks subject first.0 p ((decides_packet first.0 p).0 first.2))) w)

-- ---- components
same_subject : (primary : List ℕ) (c d : ComponentValue) → head_key c ≡ head_key d → on_head primary c.head ≡ on_head primary d.head
same_subject primary c d e = ap (λ (k : ℕ × List ℕ). on_head primary (record { form = c.head.form; kind = k.0; body = k.1 })) e

components_only : (primary : List ℕ) (cs : List ComponentValue) (a : Asked) → Within (components_asked primary (united_components cs)) a → Within (components_asked primary cs) a
components_only primary cs a w =
    let at = from_flat (component_asked primary) (united_components cs) a w in
    let made = from_map (united_component cs) (firsts same_head cs) at.0 at.1 in
    let c : ComponentValue = made.0 in
    let hung = hangs_only (on_head primary c.head) (flat_map (λ d. d.hangs) (like same_head c cs)) a (subst (λ d. Within (component_asked primary d) a) (sym made.2) at.2) in
    let hang = from_flat (hang_asked (on_head primary c.head)) (flat_map (λ d. d.hangs) (like same_head c cs)) a hung in
    let member = from_flat (λ d. d.hangs) (like same_head c cs) hang.0 hang.1 in
    let found = from_filter (same_head c) member.0 cs member.1 in
    let about = same_subject primary c member.0 ((decides_head c member.0).0 found.1) in
    in_flat (component_asked primary) cs member.0 a found.0
    (in_flat (hang_asked (on_head primary member.0.head)) member.0.hangs hang.0 a member.2
    (subst (λ s. Within (hang_asked s hang.0) a) about hang.2))

components_all : (primary : List ℕ) (cs : List ComponentValue) (a : Asked) → Within (components_asked primary cs) a → Within (components_asked primary (united_components cs)) a
components_all primary cs a w =
    let at = from_flat (component_asked primary) cs a w in
    let d : ComponentValue = at.0 in
    let hang = from_flat (hang_asked (on_head primary d.head)) d.hangs a at.2 in
    let first = has_first same_head head_key decides_head d cs at.1 in
    let c : ComponentValue = first.0 in
    let about = same_subject primary c d ((decides_head c d).0 first.2) in
    in_flat (component_asked primary) (united_components cs) (united_component cs c) a
    (in_map (united_component cs) (firsts same_head cs) c first.1)
    (hangs_all (on_head primary c.head) (flat_map (λ e. e.hangs) (like same_head c cs)) hang.0 a
    (in_flat (λ e. e.hangs) (like same_head c cs) d hang.0 (in_filter (same_head c) d cs at.1 first.2) hang.1)
    (subst (λ s. Within (hang_asked s hang.0) a) (sym about) hang.2))

-- ---- certificates
abbrev gathered : List CertificateValue → CertificateValue → List ComponentValue
gathered cs c = flat_map (λ d. d.components) (like same_primary c cs)

certificates_only : (r : KeyringValue) (a : Asked) → Within (flat_map certificate_asked (merged_of r).certificates) a → Within (flat_map certificate_asked r.certificates) a
certificates_only r a w =
    let cs : List CertificateValue = r.certificates in
    let at = from_flat certificate_asked (merged_of r).certificates a w in
    let made = from_map (united_certificate cs) (firsts same_primary cs) at.0 at.1 in
    let c : CertificateValue = made.0 in
    let body : List ℕ = c.primary.body in
    let hangs : List PacketValue = flat_map (λ d. d.hangs) (like same_primary c cs) in
    let asked : Within (certificate_asked (united_certificate cs c)) a = subst (λ d. Within (certificate_asked d) a) (sym made.2) at.2 in
    ⊎_elim
    (λ (v : Within (hangs_asked (one body) (firsts same_packet hangs)) a).
    let hang = from_flat (hang_asked (one body)) hangs a (hangs_only (one body) hangs a v) in
    let member = from_flat (λ d. d.hangs) (like same_primary c cs) hang.0 hang.1 in
    let found = from_filter (same_primary c) member.0 cs member.1 in
    let own = (decides_primary c member.0).0 found.1 in
    in_flat certificate_asked cs member.0 a found.0
    (in_append_left (hangs_asked (one member.0.primary.body) member.0.hangs) (components_asked member.0.primary.body member.0.components) a
    (in_flat (hang_asked (one member.0.primary.body)) member.0.hangs hang.0 a member.2
    (subst (λ b. Within (hang_asked (one b) hang.0) a) own hang.2))))
    (λ (v : Within (components_asked body (united_components (gathered cs c))) a).
    let part = from_flat (component_asked body) (gathered cs c) a (components_only body (gathered cs c) a v) in
    let member = from_flat (λ d. d.components) (like same_primary c cs) part.0 part.1 in
    let found = from_filter (same_primary c) member.0 cs member.1 in
    let own = (decides_primary c member.0).0 found.1 in
    in_flat certificate_asked cs member.0 a found.0
    (in_append_right (hangs_asked (one member.0.primary.body) member.0.hangs) (components_asked member.0.primary.body member.0.components) a
    (in_flat (component_asked member.0.primary.body) member.0.components part.0 a member.2
    (subst (λ b. Within (component_asked b part.0) a) own part.2))))
    (from_append (hangs_asked (one body) (firsts same_packet hangs)) (components_asked body (united_components (gathered cs c))) a asked)

certificates_all : (r : KeyringValue) (a : Asked) → Within (flat_map certificate_asked r.certificates) a → Within (flat_map certificate_asked (merged_of r).certificates) a
certificates_all r a w =
    let cs : List CertificateValue = r.certificates in
    let at = from_flat certificate_asked cs a w in
    let d : CertificateValue = at.0 in
    let first = has_first same_primary primary_key decides_primary d cs at.1 in
    let c : CertificateValue = first.0 in
    let body : List ℕ = c.primary.body in
    let own = (decides_primary c d).0 first.2 in
    let hangs : List PacketValue = flat_map (λ e. e.hangs) (like same_primary c cs) in
    let member : Within (like same_primary c cs) d = in_filter (same_primary c) d cs at.1 first.2 in
    in_flat certificate_asked (merged_of r).certificates (united_certificate cs c) a
    (in_map (united_certificate cs) (firsts same_primary cs) c first.1)
    (⊎_elim
    (λ (v : Within (hangs_asked (one d.primary.body) d.hangs) a).
    let hang = from_flat (hang_asked (one d.primary.body)) d.hangs a v in
    in_append_left (hangs_asked (one body) (firsts same_packet hangs)) (components_asked body (united_components (gathered cs c))) a
    (hangs_all (one body) hangs hang.0 a
    (in_flat (λ e. e.hangs) (like same_primary c cs) d hang.0 member hang.1)
    (subst (λ b. Within (hang_asked (one b) hang.0) a) (sym own) hang.2)))
    (λ (v : Within (components_asked d.primary.body d.components) a).
    let part = from_flat (component_asked d.primary.body) d.components a v in
    in_append_right (hangs_asked (one body) (firsts same_packet hangs)) (components_asked body (united_components (gathered cs c))) a
    (components_all body (gathered cs c) a
    (in_flat (component_asked body) (gathered cs c) part.0 a
    (in_flat (λ e. e.components) (like same_primary c cs) d part.0 member part.1)
    (subst (λ b. Within (component_asked b part.0) a) (sym own) part.2))))
    (from_append (hangs_asked (one d.primary.body) d.hangs) (components_asked d.primary.body d.components) a at.2))

pub asked_only : (r : KeyringValue) (a : Asked) → Within (asked_of (merged_of r)) a → Within (asked_of r) a
asked_only r a w = subst (λ l. Within l a) (sym (ring_asks r)) (certificates_only r a (subst (λ l. Within l a) (ring_asks (merged_of r)) w))

pub asked_all : (r : KeyringValue) (a : Asked) → Within (asked_of r) a → Within (asked_of (merged_of r)) a
asked_all r a w = subst (λ l. Within l a) (sym (ring_asks (merged_of r))) (certificates_all r a (subst (λ l. Within l a) (ring_asks r) w))

-- ---- keys
same_subkeys : (c d : ComponentValue) → head_key c ≡ head_key d → subkey_bodies c ≡ subkey_bodies d
same_subkeys c d e = ap (λ (k : ℕ × List ℕ). subkey_bodies (record { head = record { form = c.head.form; kind = k.0; body = k.1 }; hangs = [] })) e

subkeys_only : (cs : List ComponentValue) (body : List ℕ) → Within (flat_map subkey_bodies (united_components cs)) body → Within (flat_map subkey_bodies cs) body
subkeys_only cs body w =
    let at = from_flat subkey_bodies (united_components cs) body w in
    let made = from_map (united_component cs) (firsts same_head cs) at.0 at.1 in
    in_flat subkey_bodies cs made.0 body (from_firsts same_head head_key decides_head made.0 cs made.1)
    (subst (λ d. Within (subkey_bodies d) body) (sym made.2) at.2)

subkeys_all : (cs : List ComponentValue) (d : ComponentValue) (body : List ℕ) → Within cs d → Within (subkey_bodies d) body → Within (flat_map subkey_bodies (united_components cs)) body
subkeys_all cs d body v w =
    let first = has_first same_head head_key decides_head d cs v in
    in_flat subkey_bodies (united_components cs) (united_component cs first.0) body
    (in_map (united_component cs) (firsts same_head cs) first.0 first.1)
    (subst (λ l. Within l body) (sym (same_subkeys first.0 d ((decides_head first.0 d).0 first.2))) w)

pub keys_only : (r : KeyringValue) (body : List ℕ) → Within (keys_in (merged_of r)) body → Within (keys_in r) body
keys_only r body w =
    let cs : List CertificateValue = r.certificates in
    let at = from_flat certificate_keys (merged_of r).certificates body w in
    let made = from_map (united_certificate cs) (firsts same_primary cs) at.0 at.1 in
    let c : CertificateValue = made.0 in
    let has : Within (certificate_keys (united_certificate cs c)) body = subst (λ d. Within (certificate_keys d) body) (sym made.2) at.2 in
    ⊎_elim
    (λ (e : c.primary.body ≡ body). in_flat certificate_keys cs c body (from_firsts same_primary primary_key decides_primary c cs made.1) (inl e))
    (λ (v : Within (flat_map subkey_bodies (united_components (gathered cs c))) body).
    let part = from_flat subkey_bodies (gathered cs c) body (subkeys_only (gathered cs c) body v) in
    let member = from_flat (λ d. d.components) (like same_primary c cs) part.0 part.1 in
    let found = from_filter (same_primary c) member.0 cs member.1 in
    in_flat certificate_keys cs member.0 body found.0 (inr (in_flat subkey_bodies member.0.components part.0 body member.2 part.2)))
    has

pub keys_all : (r : KeyringValue) (body : List ℕ) → Within (keys_in r) body → Within (keys_in (merged_of r)) body
keys_all r body w =
    let cs : List CertificateValue = r.certificates in
    let at = from_flat certificate_keys cs body w in
    let d : CertificateValue = at.0 in
    let first = has_first same_primary primary_key decides_primary d cs at.1 in
    let c : CertificateValue = first.0 in
    let own = (decides_primary c d).0 first.2 in
    let member : Within (like same_primary c cs) d = in_filter (same_primary c) d cs at.1 first.2 in
    let has : Within (certificate_keys d) body = at.2 in
    in_flat certificate_keys (merged_of r).certificates (united_certificate cs c) body
    (in_map (united_certificate cs) (firsts same_primary cs) c first.1)
    (⊎_elim
    (λ (e : d.primary.body ≡ body). inl (own ∙ e))
    (λ (v : Within (flat_map subkey_bodies d.components) body).
    let part = from_flat subkey_bodies d.components body v in
    inr (subkeys_all (gathered cs c) part.0 body (in_flat (λ e. e.components) (like same_primary c cs) d part.0 member part.1) part.2))
    has)
