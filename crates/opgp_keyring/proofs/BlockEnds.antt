-- Where blocks of packets end.
use Rattle.std.proofs.Common.{◌≡◌, ℕ, suc, ◌+◌, ◌-◌, ◌<◌, List, [], ◌∷◌, ◌++◌, length, map, take, drop, get_or, refl, sym, ap, ◌∙◌, append-nil, arith, None, Some, slice_get}
use Rattle.std.proofs.lemmas.List.{map-append}
use Rattle.std.proofs.lemmas.List.Concat.{flat_map-append}
use Rattle.std.proofs.lemmas.Option.{get_or_from_slice_get, slice_get-get_or, slice_get_within}
use Rattle.std.proofs.Math.Seq.{drop-length}
use Rattle.opgp_frame.specs.declared.packet.Placed.{Placed}
use Rattle.opgp_frame.specs.Packet.{spelling}
use Rattle.opgp_keyring.specs.declared.block_of.BlockOf.{BlockOf}
use Rattle.opgp_keyring.specs.Block.{block_items, items_of}
use Rattle.opgp_keyring.specs.Composition.{Item, of_packet}
use Rattle.opgp_keyring.specs.Signed.{end_of, end_pos, last_of}
use Rattle.opgp_keyring.proofs.FirstBodyFaults.{at_place}

last_of-behind : (other : ℕ) (ns ms : List ℕ) (n : ℕ) → last_of other (ns ++ n ∷ ms) ≡ last_of n ms
last_of-behind other [] ms n = refl
last_of-behind other (m ∷ ns) ms n = last_of-behind m ns ms n

-- a list with a last element
last_is : {X : Type 0} (xs : List X) (i : ℕ) (x : X) → i + 1 ≡ length xs → x ≡ get_or xs i x → xs ≡ take i xs ++ x ∷ []
last_is {X} xs i x at e =
    let all : suc i ≡ length xs = omega arith in
    at_place xs i x (omega arith) e ∙ ap (λ (n : ℕ). take i xs ++ x ∷ drop n xs) all ∙ ap (λ (l : List X). take i xs ++ x ∷ l) (drop-length xs)

ends_at : List Placed → ℕ
ends_at ps = last_of 0 (map end_of (map of_packet ps))

in_last_block : (bs : List BlockOf) (i : ℕ) (b : BlockOf) → i + 1 ≡ length bs → b ≡ get_or bs i b → end_pos (items_of bs) ≡ ends_at b.packets.items
unfolding ends_at
in_last_block bs i b at e =
    let before : List Item = items_of (take i bs) in
    let split : items_of bs ≡ before ++ block_items b = ap items_of (last_is bs i b at e) ∙ flat_map-append block_items (take i bs) (b ∷ []) ∙ ap (λ (l : List Item). before ++ l) (append-nil (block_items b)) in
    ap end_pos split ∙ ap (last_of 0) (map-append end_of before (block_items b)) ∙ last_of-behind 0 (map end_of before) (map end_of (map of_packet b.packets.items)) 0

no_packets : (ps : List Placed) → length ps ≡ 0 → ends_at ps ≡ 0
unfolding ends_at
no_packets [] e = refl
no_packets (p ∷ ps) e = absurd (omega arith)

behind_last : (ps : List Placed) (i : ℕ) (p : Placed) → i + 1 ≡ length ps → p ≡ get_or ps i p → ends_at ps ≡ p.pos + length (spelling p.packet)
unfolding ends_at
behind_last ps i p at e =
    let before : List Placed = take i ps in
    ap ends_at (last_is ps i p at e) ∙ ap (λ (l : List Item). last_of 0 (map end_of l)) (map-append of_packet before (p ∷ []))
    ∙ ap (last_of 0) (map-append end_of (map of_packet before) (of_packet p ∷ [])) ∙ last_of-behind 0 (map end_of (map of_packet before)) [] (end_of (of_packet p))

-- the last element, as it is had
record Last {X : Type 0} (xs : List X) (x : X) : Type 0 where
  pub at : (length xs - 1) + 1 ≡ length xs
  pub is : x ≡ get_or xs (length xs - 1) x

had : {X : Type 0} (xs : List X) (x : X) → Some x ≡ slice_get xs (length xs - 1) → Last xs x
had xs x e =
    let within : length xs - 1 < length xs = slice_get_within xs (length xs - 1) x (sym e) in
    record { at = omega arith; is = sym (get_or_from_slice_get xs (length xs - 1) x x (sym e)) }

none_had : {X : Type 0} (xs : List X) → None ≡ slice_get xs (length xs - 1) → length xs ≡ 0
none_had [] e = refl
none_had {X} (x ∷ xs) e =
    let within : length xs < suc (length xs) = omega arith in
    absurd (let some : None ≡ Some (get_or (x ∷ xs) (length (x ∷ xs) - 1) x) = e ∙ slice_get-get_or (x ∷ xs) (length (x ∷ xs) - 1) x (omega arith) in cc)

pub empty_end : (bs : List BlockOf) (b : BlockOf) (ps : List Placed) → Some b ≡ slice_get bs (length bs - 1) → ps ≡ b.packets.items → None ≡ slice_get ps (length ps - 1) → end_pos (items_of bs) ≡ 0
empty_end bs b ps e same none =
    let last = had bs b e in
    in_last_block bs (length bs - 1) b last.at last.is ∙ ap ends_at (sym same) ∙ no_packets ps (none_had ps none)

pub packet_end : (bs : List BlockOf) (b : BlockOf) (ps : List Placed) (p : Placed) → Some b ≡ slice_get bs (length bs - 1) → ps ≡ b.packets.items → Some p ≡ slice_get ps (length ps - 1)
    → end_pos (items_of bs) ≡ p.pos + length (spelling p.packet)
packet_end bs b ps p e same h =
    let last = had bs b e in
    let own = had ps p h in
    in_last_block bs (length bs - 1) b last.at last.is ∙ ap ends_at (sym same) ∙ behind_last ps (length ps - 1) p own.at own.is
