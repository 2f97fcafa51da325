-- Tables that are filled part by part.
use Rattle.std.proofs.Common.{◌≡◌, ◌∙◌, ℕ, ◌+◌, ◌≤◌, List, [], ◌∷◌, ◌++◌, length, take, drop, refl, sym, ap, subst, arith, append_assoc, length-append, length-take-le, add-zero, add-one, append-nil, zero-add, suc, ◌<◌, ◌-◌, get_or, set}
use Rattle.std.specs.List.{flat_map}
use Rattle.std.proofs.lemmas.Grind.{flat_map-append}
use Rattle.std.proofs.lemmas.List.{drop-drop, take-append-drop}
use Rattle.std.proofs.Math.Seq.{drop-append-add, set-append_seam, split_at, take-append_seam}
use borrow.Rule.Slice.PartMut.{put_mid}
use Rattle.opgp_frame.specs.Packet.{PacketValue}
use Rattle.opgp_keyring.specs.Keyring.{CertificateValue, ComponentValue, certificate_packets, component_packets, KeyringValue}
use Rattle.opgp_tables.specs.declared.packet_row.PacketRow.{PacketRow}
use Rattle.opgp_tables.specs.declared.table_sizes.TableSizes.{TableSizes}
use Rattle.opgp_tables.specs.Filling.{Fills, put}
use Rattle.opgp_tables.specs.Packets.{bodies, certificate_rows, certificates_rows, component_rows, components_rows, hangs_packets, packet_bytes, packet_row, packet_rows}
use Rattle.opgp_tables.specs.Room.{none}

-- an item, and octets
pub item_put : {A : Type 0} (at : ℕ) (x : A) (xs : List A) → at < length xs → set xs at x ≡ put at (x ∷ []) xs
item_put {A} at x xs h =
    let front : List A = take at xs in
    let rest : List A = drop (suc at) xs in
    let within : at ≤ length xs = omega arith in
    let long : length front ≡ at = length-take-le at xs within in
    ap (λ l. set l at x) (split_at xs at x h) ∙ ap (λ n. set (front ++ get_or xs at x ∷ rest) n x) (sym long)
    ∙ set-append_seam front (get_or xs at x) rest x ∙ ap (λ n. front ++ x ∷ drop n xs) (sym (add-one at))

pub octets_put : (at : ℕ) (ys xs : List ℕ) → put_mid at (at + length ys - at) xs ys ≡ put at ys xs
octets_put at ys xs =
    let e : at + length ys - at ≡ length ys = omega arith in
    ap (λ k. take at xs ++ (ys ++ drop k (drop at xs))) e ∙ ap (λ l. take at xs ++ (ys ++ l)) (drop-drop (length ys) at xs)

-- items that are put behind others
put_twice : {A : Type 0} (at n : ℕ) (xs ys list : List A) → at ≤ length list → n ≡ at + length xs → put n ys (put at xs list) ≡ put at (xs ++ ys) list
put_twice {A} at n xs ys list within is =
    let front : List A = take at list ++ xs in
    let rest : List A = drop (at + length xs) list in
    let long : length front ≡ n = length-append (take at list) xs ∙ ap (λ k. k + length xs) (length-take-le at list within) ∙ sym is in
    let e : put at xs list ≡ front ++ rest = sym (append_assoc (take at list) xs rest) in
    let t : take n (put at xs list) ≡ front = ap (λ l. take n l) e ∙ ap (λ k. take k (front ++ rest)) (sym long) ∙ take-append_seam front rest in
    let d : drop (n + length ys) (put at xs list) ≡ drop (at + length (xs ++ ys)) list =
    ap (λ l. drop (n + length ys) l) e ∙ ap (λ k. drop (k + length ys) (front ++ rest)) (sym long) ∙ drop-append-add front rest (length ys)
    ∙ drop-drop (length ys) (at + length xs) list ∙ ap (λ k. drop k list) (omega (arith, length-append xs ys)) in
    ap (λ l. l ++ (ys ++ drop (n + length ys) (put at xs list))) t ∙ ap (λ l. front ++ (ys ++ l)) d
    ∙ append_assoc (take at list) xs (ys ++ drop (at + length (xs ++ ys)) list)
    ∙ ap (λ l. take at list ++ l) (sym (append_assoc xs ys (drop (at + length (xs ++ ys)) list)))

pub three_put : (at n m : ℕ) (a b c xs ys zs ws : List ℕ) → at ≤ length xs → n ≡ at + length a → m ≡ n + length b
    → ys ≡ put at a xs → zs ≡ put n b ys → ws ≡ put m c zs → ws ≡ put at (flat_map (λ (o : List ℕ). o) (a ∷ b ∷ c ∷ [])) xs
three_put at n m a b c xs ys zs ws within e f y z w =
    let two : zs ≡ put at (a ++ b) xs = z ∙ ap (λ l. put n b l) y ∙ put_twice at n a b xs within e in
    let three : ws ≡ put at ((a ++ b) ++ c) xs = w ∙ ap (λ l. put m c l) two ∙ put_twice at m (a ++ b) c xs within (omega (arith, e, f, length-append a b)) in
    three ∙ ap (λ l. put at l xs) (append_assoc a b c ∙ ap (λ l. a ++ (b ++ l)) (sym (append-nil c)))

put_nothing : {A : Type 0} (at : ℕ) (list : List A) → list ≡ put at [] list
put_nothing at list = sym (ap (λ n. take at list ++ drop n list) (add-zero at) ∙ take-append-drop at list)

pub nothing : {A : Type 0} (here : TableSizes) (rows : List A) (bytes : List ℕ) → here.rows ≤ length rows → here.bytes ≤ length bytes → Fills {A = A} [] [] here here rows rows bytes bytes
nothing here rows bytes h k = record {
  rows_put = put_nothing here.rows rows;
  bytes_put = put_nothing here.bytes bytes;
  rows_there = sym (add-zero here.rows);
  bytes_there = sym (add-zero here.bytes);
  rows_here = h;
  bytes_here = k;
}

-- one part behind the other
pub both : {A : Type 0} (xs ys : List A) (os ps : List ℕ) (here mid there : TableSizes) (a b c : List A) (x y z : List ℕ) → Fills xs os here mid a b x y → Fills ys ps mid there b c y z → Fills (xs ++ ys) (os ++ ps) here there a c x z
both xs ys os ps here mid there a b c x y z f g = record {
  rows_put = g.rows_put ∙ ap (λ l. put mid.rows ys l) f.rows_put ∙ put_twice here.rows mid.rows xs ys a f.rows_here f.rows_there;
  bytes_put = g.bytes_put ∙ ap (λ l. put mid.bytes ps l) f.bytes_put ∙ put_twice here.bytes mid.bytes os ps x f.bytes_here f.bytes_there;
  rows_there = omega (arith, g.rows_there, f.rows_there, length-append xs ys);
  bytes_there = omega (arith, g.bytes_there, f.bytes_there, length-append os ps);
  rows_here = f.rows_here;
  bytes_here = f.bytes_here;
}

bodies-append : (ps qs : List PacketValue) → bodies ps ++ bodies qs ≡ bodies (ps ++ qs)
bodies-append ps qs = sym (flat_map-append (λ (p : PacketValue). p.body) ps qs)

-- ---- the parts of the table of packets
pub hangs_end : (c k n : ℕ) (all : List PacketValue) (here : TableSizes) (rows : List PacketRow) (bytes : List ℕ) → all ≡ [] → here.rows ≤ length rows → here.bytes ≤ length bytes → Fills (hangs_packets c k n here.bytes all) (bodies all) here here rows rows bytes bytes
hangs_end c k n [] here rows bytes e h i = nothing here rows bytes h i
hangs_end c k n (p ∷ ps) here rows bytes e h i = cc

pub hangs_step : (c k n : ℕ) (p : PacketValue) (all ps : List PacketValue) (here mid there : TableSizes) (rows mid_rows rows' : List PacketRow) (bytes mid_bytes bytes' : List ℕ) → all ≡ p ∷ ps
    → Fills (packet_row c k n here.bytes p ∷ []) p.body here mid rows mid_rows bytes mid_bytes
    → Fills (hangs_packets c k (n + 1) mid.bytes ps) (bodies ps) mid there mid_rows rows' mid_bytes bytes'
    → Fills (hangs_packets c k n here.bytes all) (bodies all) here there rows rows' bytes bytes'
hangs_step c k n p all ps here mid there rows mid_rows rows' bytes mid_bytes bytes' e f g =
    let h : Fills (hangs_packets c k (n + 1) (here.bytes + length p.body) ps) (bodies ps) mid there mid_rows rows' mid_bytes bytes' =
    subst (λ (at : ℕ). Fills (hangs_packets c k (n + 1) at ps) (bodies ps) mid there mid_rows rows' mid_bytes bytes') f.bytes_there g in
    subst (λ (l : List PacketValue). Fills (hangs_packets c k n here.bytes l) (bodies l) here there rows rows' bytes bytes') (sym e)
    (both (packet_row c k n here.bytes p ∷ []) (hangs_packets c k (n + 1) (here.bytes + length p.body) ps) p.body (bodies ps) here mid there rows mid_rows rows' bytes mid_bytes bytes' f h)

pub component_both : (c n : ℕ) (k : ComponentValue) (here mid there : TableSizes) (rows mid_rows rows' : List PacketRow) (bytes mid_bytes bytes' : List ℕ)
    → Fills (packet_row c n none here.bytes k.head ∷ []) k.head.body here mid rows mid_rows bytes mid_bytes
    → Fills (hangs_packets c n 0 mid.bytes k.hangs) (bodies k.hangs) mid there mid_rows rows' mid_bytes bytes'
    → Fills (component_rows c n here.bytes k) (bodies (component_packets k)) here there rows rows' bytes bytes'
component_both c n k here mid there rows mid_rows rows' bytes mid_bytes bytes' f g =
    let h : Fills (hangs_packets c n 0 (here.bytes + length k.head.body) k.hangs) (bodies k.hangs) mid there mid_rows rows' mid_bytes bytes' =
    subst (λ (at : ℕ). Fills (hangs_packets c n 0 at k.hangs) (bodies k.hangs) mid there mid_rows rows' mid_bytes bytes') f.bytes_there g in
    both (packet_row c n none here.bytes k.head ∷ []) (hangs_packets c n 0 (here.bytes + length k.head.body) k.hangs) k.head.body (bodies k.hangs) here mid there rows mid_rows rows' bytes mid_bytes bytes' f h

pub components_end : (c n : ℕ) (all : List ComponentValue) (here : TableSizes) (rows : List PacketRow) (bytes : List ℕ) → all ≡ [] → here.rows ≤ length rows → here.bytes ≤ length bytes → Fills (components_rows c n here.bytes all) (bodies (flat_map component_packets all)) here here rows rows bytes bytes
components_end c n [] here rows bytes e h i = nothing here rows bytes h i
components_end c n (k ∷ ks) here rows bytes e h i = cc

pub components_step : (c n : ℕ) (k : ComponentValue) (all ks : List ComponentValue) (here mid there : TableSizes) (rows mid_rows rows' : List PacketRow) (bytes mid_bytes bytes' : List ℕ) → all ≡ k ∷ ks
    → Fills (component_rows c n here.bytes k) (bodies (component_packets k)) here mid rows mid_rows bytes mid_bytes
    → Fills (components_rows c (n + 1) mid.bytes ks) (bodies (flat_map component_packets ks)) mid there mid_rows rows' mid_bytes bytes'
    → Fills (components_rows c n here.bytes all) (bodies (flat_map component_packets all)) here there rows rows' bytes bytes'
components_step c n k all ks here mid there rows mid_rows rows' bytes mid_bytes bytes' e f g =
    let at : ℕ = here.bytes + length (bodies (component_packets k)) in
    let h : Fills (components_rows c (n + 1) at ks) (bodies (flat_map component_packets ks)) mid there mid_rows rows' mid_bytes bytes' =
    subst (λ (at : ℕ). Fills (components_rows c (n + 1) at ks) (bodies (flat_map component_packets ks)) mid there mid_rows rows' mid_bytes bytes') f.bytes_there g in
    subst (λ (l : List ComponentValue). Fills (components_rows c n here.bytes l) (bodies (flat_map component_packets l)) here there rows rows' bytes bytes') (sym e)
    (subst (λ (o : List ℕ). Fills (components_rows c n here.bytes (k ∷ ks)) o here there rows rows' bytes bytes') (bodies-append (component_packets k) (flat_map component_packets ks))
    (both (component_rows c n here.bytes k) (components_rows c (n + 1) at ks) (bodies (component_packets k)) (bodies (flat_map component_packets ks)) here mid there rows mid_rows rows' bytes mid_bytes bytes' f h))

pub certificate_all : (n : ℕ) (c : CertificateValue) (here mid mid2 there : TableSizes) (rows rows1 rows2 rows' : List PacketRow) (bytes bytes1 bytes2 bytes' : List ℕ)
    → Fills (packet_row n none none here.bytes c.primary ∷ []) c.primary.body here mid rows rows1 bytes bytes1
    → Fills (hangs_packets n none 0 mid.bytes c.hangs) (bodies c.hangs) mid mid2 rows1 rows2 bytes1 bytes2
    → Fills (components_rows n 0 mid2.bytes c.components) (bodies (flat_map component_packets c.components)) mid2 there rows2 rows' bytes2 bytes'
    → Fills (certificate_rows n here.bytes c) (bodies (certificate_packets c)) here there rows rows' bytes bytes'
certificate_all n c here mid mid2 there rows rows1 rows2 rows' bytes bytes1 bytes2 bytes' f g h =
    let more : List PacketValue = flat_map component_packets c.components in
    let at : ℕ = here.bytes + length c.primary.body in
    let g' : Fills (hangs_packets n none 0 at c.hangs) (bodies c.hangs) mid mid2 rows1 rows2 bytes1 bytes2 =
    subst (λ (at : ℕ). Fills (hangs_packets n none 0 at c.hangs) (bodies c.hangs) mid mid2 rows1 rows2 bytes1 bytes2) f.bytes_there g in
    let h' : Fills (components_rows n 0 (at + length (bodies c.hangs)) c.components) (bodies more) mid2 there rows2 rows' bytes2 bytes' =
    subst (λ (at : ℕ). Fills (components_rows n 0 at c.components) (bodies more) mid2 there rows2 rows' bytes2 bytes') (g.bytes_there ∙ ap (λ k. k + length (bodies c.hangs)) f.bytes_there) h in
    let hung : List PacketRow = hangs_packets n none 0 at c.hangs in
    let comps : List PacketRow = components_rows n 0 (at + length (bodies c.hangs)) c.components in
    let behind : Fills (hung ++ comps) (bodies (c.hangs ++ more)) mid there rows1 rows' bytes1 bytes' =
    subst (λ (o : List ℕ). Fills (hung ++ comps) o mid there rows1 rows' bytes1 bytes') (bodies-append c.hangs more)
    (both hung comps (bodies c.hangs) (bodies more) mid mid2 there rows1 rows2 rows' bytes1 bytes2 bytes' g' h') in
    both (packet_row n none none here.bytes c.primary ∷ []) (hung ++ comps) c.primary.body (bodies (c.hangs ++ more)) here mid there rows rows1 rows' bytes bytes1 bytes' f behind

pub certificates_end : (n : ℕ) (all : List CertificateValue) (here : TableSizes) (rows : List PacketRow) (bytes : List ℕ) → all ≡ [] → here.rows ≤ length rows → here.bytes ≤ length bytes → Fills (certificates_rows n here.bytes all) (bodies (flat_map certificate_packets all)) here here rows rows bytes bytes
certificates_end n [] here rows bytes e h i = nothing here rows bytes h i
certificates_end n (k ∷ ks) here rows bytes e h i = cc

pub certificates_step : (n : ℕ) (k : CertificateValue) (all ks : List CertificateValue) (here mid there : TableSizes) (rows mid_rows rows' : List PacketRow) (bytes mid_bytes bytes' : List ℕ) → all ≡ k ∷ ks
    → Fills (certificate_rows n here.bytes k) (bodies (certificate_packets k)) here mid rows mid_rows bytes mid_bytes
    → Fills (certificates_rows (n + 1) mid.bytes ks) (bodies (flat_map certificate_packets ks)) mid there mid_rows rows' mid_bytes bytes'
    → Fills (certificates_rows n here.bytes all) (bodies (flat_map certificate_packets all)) here there rows rows' bytes bytes'
certificates_step n k all ks here mid there rows mid_rows rows' bytes mid_bytes bytes' e f g =
    let at : ℕ = here.bytes + length (bodies (certificate_packets k)) in
    let h : Fills (certificates_rows (n + 1) at ks) (bodies (flat_map certificate_packets ks)) mid there mid_rows rows' mid_bytes bytes' =
    subst (λ (at : ℕ). Fills (certificates_rows (n + 1) at ks) (bodies (flat_map certificate_packets ks)) mid there mid_rows rows' mid_bytes bytes') f.bytes_there g in
    subst (λ (l : List CertificateValue). Fills (certificates_rows n here.bytes l) (bodies (flat_map certificate_packets l)) here there rows rows' bytes bytes') (sym e)
    (subst (λ (o : List ℕ). Fills (certificates_rows n here.bytes (k ∷ ks)) o here there rows rows' bytes bytes') (bodies-append (certificate_packets k) (flat_map certificate_packets ks))
    (both (certificate_rows n here.bytes k) (certificates_rows (n + 1) at ks) (bodies (certificate_packets k)) (bodies (flat_map certificate_packets ks)) here mid there rows mid_rows rows' bytes mid_bytes bytes' f h))

-- ---- how many rows and octets are left
pub empty : {A : Type 0} (xs : List A) → length xs < 1 → xs ≡ []
empty [] h = refl
empty (x ∷ xs) h = absurd (omega arith)

pub pieces : {A B : Type 0} (f : A → List B) (x : A) (all xs : List A) → all ≡ x ∷ xs → length (flat_map f all) ≡ length (f x) + length (flat_map f xs)
pieces f x all xs e = ap (λ l. length (flat_map f l)) e ∙ length-append (f x) (flat_map f xs)

bodies_both : (ps qs : List PacketValue) → length (bodies (ps ++ qs)) ≡ length (bodies ps) + length (bodies qs)
bodies_both ps qs = ap (λ l. length l) (sym (bodies-append ps qs)) ∙ length-append (bodies ps) (bodies qs)

pub piece_bodies : {A : Type 0} (f : A → List PacketValue) (x : A) (all xs : List A) → all ≡ x ∷ xs → length (bodies (flat_map f all)) ≡ length (bodies (f x)) + length (bodies (flat_map f xs))
piece_bodies f x all xs e = ap (λ l. length (bodies (flat_map f l))) e ∙ bodies_both (f x) (flat_map f xs)

pub hangs_many : (c k n at : ℕ) (ps : List PacketValue) → length (hangs_packets c k n at ps) ≡ length ps
hangs_many c k n at [] = refl
hangs_many c k n at (p ∷ ps) = ap (λ m. suc m) (hangs_many c k (n + 1) (at + length p.body) ps)

pub component_many : (c n at : ℕ) (k : ComponentValue) → length (component_rows c n at k) ≡ length (component_packets k)
component_many c n at k = ap (λ m. suc m) (hangs_many c n 0 (at + length k.head.body) k.hangs)

components_many : (c n at : ℕ) (ks : List ComponentValue) → length (components_rows c n at ks) ≡ length (flat_map component_packets ks)
components_many c n at [] = refl
components_many c n at (k ∷ ks) =
    let next : ℕ = at + length (bodies (component_packets k)) in
    omega (arith, length-append (component_rows c n at k) (components_rows c (n + 1) next ks), component_many c n at k, components_many c (n + 1) next ks, length-append (component_packets k) (flat_map component_packets ks))

pub certificate_length : (c : CertificateValue) → length (certificate_packets c) ≡ 1 + length c.hangs + length (flat_map component_packets c.components)
certificate_length c = omega (arith, length-append c.hangs (flat_map component_packets c.components))

pub certificate_octets : (c : CertificateValue) → length (bodies (certificate_packets c)) ≡ length c.primary.body + length (bodies c.hangs) + length (bodies (flat_map component_packets c.components))
certificate_octets c = omega (arith, bodies_both c.hangs (flat_map component_packets c.components), length-append c.primary.body (bodies (c.hangs ++ flat_map component_packets c.components)))

pub certificate_many : (n at : ℕ) (c : CertificateValue) → length (certificate_rows n at c) ≡ length (certificate_packets c)
certificate_many n at c =
    let hung : List PacketRow = hangs_packets n none 0 (at + length c.primary.body) c.hangs in
    let comps : List PacketRow = components_rows n 0 (at + length c.primary.body + length (bodies c.hangs)) c.components in
    omega (arith, certificate_length c, length-append hung comps, hangs_many n none 0 (at + length c.primary.body) c.hangs, components_many n 0 (at + length c.primary.body + length (bodies c.hangs)) c.components)

-- ---- all of a keyring
pub keyring_all : (r : KeyringValue) (mid there : TableSizes) (rows rows1 rows' : List PacketRow) (bytes bytes1 bytes' : List ℕ)
    → Fills (hangs_packets none none 0 0 r.lead) (bodies r.lead) (record { rows = 0; bytes = 0 }) mid rows rows1 bytes bytes1
    → Fills (certificates_rows 0 mid.bytes r.certificates) (bodies (flat_map certificate_packets r.certificates)) mid there rows1 rows' bytes1 bytes'
    → (rows' ≡ packet_rows r ++ drop (length (packet_rows r)) rows) × (bytes' ≡ packet_bytes r ++ drop (length (packet_bytes r)) bytes)
keyring_all r mid there rows rows1 rows' bytes bytes1 bytes' f g =
    let more : List PacketValue = flat_map certificate_packets r.certificates in
    let zero_sizes : TableSizes = record { rows = 0; bytes = 0 } in
    let h : Fills (certificates_rows 0 (length (bodies r.lead)) r.certificates) (bodies more) mid there rows1 rows' bytes1 bytes' =
    subst (λ (at : ℕ). Fills (certificates_rows 0 at r.certificates) (bodies more) mid there rows1 rows' bytes1 bytes') (f.bytes_there ∙ zero-add (length (bodies r.lead))) g in
    let all : Fills (packet_rows r) (packet_bytes r) zero_sizes there rows rows' bytes bytes' =
    subst (λ (o : List ℕ). Fills (packet_rows r) o zero_sizes there rows rows' bytes bytes') (bodies-append r.lead more)
    (both (hangs_packets none none 0 0 r.lead) (certificates_rows 0 (length (bodies r.lead)) r.certificates) (bodies r.lead) (bodies more) zero_sizes mid there rows rows1 rows' bytes bytes1 bytes' f h) in
    (all.rows_put ∙ ap (λ n. packet_rows r ++ drop n rows) (zero-add (length (packet_rows r))), all.bytes_put ∙ ap (λ n. packet_bytes r ++ drop n bytes) (zero-add (length (packet_bytes r))))

-- an item alone
pub item_fills : {A : Type 0} (x : A) (here there : TableSizes) (rows rows' : List A) (bytes : List ℕ) → rows' ≡ put here.rows (x ∷ []) rows → there.rows ≡ here.rows + 1 → there.bytes ≡ here.bytes
    → here.rows ≤ length rows → here.bytes ≤ length bytes → Fills {A = A} (x ∷ []) [] here there rows rows' bytes bytes
item_fills x here there rows rows' bytes e r b h k = record {
  rows_put = e;
  bytes_put = put_nothing here.bytes bytes;
  rows_there = r;
  bytes_there = b ∙ sym (add-zero here.bytes);
  rows_here = h;
  bytes_here = k;
}
