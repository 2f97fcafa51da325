-- Labels and packets, in order.
use Rattle.std.proofs.Common.{◌≡◌, ℕ, zero, suc, ◌+◌, ◌<◌, arith, get_or, set, append-nil, Bool, true, false, List, [], ◌∷◌, ◌++◌, length, map, refl, sym, ap, ◌∙◌, append_assoc}
use Rattle.opgp_frame.specs.declared.packet.Placed.{Placed}
use Rattle.opgp_keyring.specs.declared.block_of.BlockOf.{BlockOf}
use Rattle.std.proofs.lemmas.List.{map-append}
use Rattle.std.proofs.lemmas.List.Concat.{flat_map-append}
use Rattle.opgp_keyring.specs.Block.{block_items, items_of, placed_of}
use Rattle.opgp_keyring.specs.Composition.{Item, of_label, of_packet, placed_in}
use Rattle.opgp_codec.specs.Packets.{block_value, items_in}
use Rattle.opgp_codec.specs.Labelled.{from_label}

pub from_label-label : (items : List Item) (n : ℕ) (fits : Bool) → from_label (items ++ of_label n fits ∷ []) ≡ from_label items ++ of_label n fits ∷ []
from_label-label [] n fits = refl
from_label-label (of_label m f ∷ items) n fits = refl
from_label-label (of_packet p ∷ items) n fits = from_label-label items n fits

-- a packet before any label is none of a block's
pub from_label-stray : (items : List Item) (p : Placed) → from_label items ≡ [] → from_label (items ++ of_packet p ∷ []) ≡ []
from_label-stray [] p e = refl
from_label-stray (of_label n fits ∷ items) p e = cc
from_label-stray (of_packet q ∷ items) p e = from_label-stray items p e

pub from_label-packet : (items : List Item) (p : Placed) (i : Item) (rest : List Item) → from_label items ≡ i ∷ rest → from_label (items ++ of_packet p ∷ []) ≡ from_label items ++ of_packet p ∷ []
from_label-packet [] p i rest e = cc
from_label-packet (of_label n fits ∷ items) p i rest e = refl
from_label-packet (of_packet q ∷ items) p i rest e = from_label-packet items p i rest e

-- ---- blocks as values
pub items_values : (bs : List BlockOf) → items_in (map block_value bs) ≡ items_of bs
items_values [] = refl
items_values (b ∷ bs) = ap (λ (l : List Item). block_items b ++ l) (items_values bs)

pub placed_packets : (ps : List Placed) (items : List Item) → placed_in (map of_packet ps ++ items) ≡ ps ++ placed_in items
placed_packets [] items = refl
placed_packets (p ∷ ps) items = ap (λ (l : List Placed). p ∷ l) (placed_packets ps items)

pub placed_items : (bs : List BlockOf) → placed_in (items_of bs) ≡ placed_of bs
placed_items [] = refl
placed_items (b ∷ bs) = placed_packets b.packets.items (items_of bs) ∙ ap (λ (l : List Placed). b.packets.items ++ l) (placed_items bs)

-- ---- blocks that grow
pub items_push : (bs : List BlockOf) (b : BlockOf) → items_of (bs ++ b ∷ []) ≡ items_of bs ++ block_items b
items_push bs b = flat_map-append block_items bs (b ∷ []) ∙ ap (λ (l : List Item). items_of bs ++ l) (append-nil (block_items b))

-- a packet more in the last block
pub pushed_last : (bs : List BlockOf) (i : ℕ) (b d : BlockOf) (p : Placed) → i + 1 ≡ length bs → b ≡ get_or bs i b → d.block ≡ b.block → d.label_fits ≡ b.label_fits → d.packets.items ≡ b.packets.items ++ p ∷ []
    → items_of (set bs i d) ≡ items_of bs ++ of_packet p ∷ []
pushed_last [] i b d p last at number fits packets = absurd (omega arith)
pushed_last (x ∷ []) zero b d p last at number fits packets =
    let same : block_items d ≡ block_items x ++ of_packet p ∷ [] =
    ap (λ (n : ℕ). of_label n d.label_fits ∷ map of_packet d.packets.items) (number ∙ ap (λ (y : BlockOf). y.block) at)
    ∙ ap (λ (f : Bool). of_label x.block f ∷ map of_packet d.packets.items) (fits ∙ ap (λ (y : BlockOf). y.label_fits) at)
    ∙ ap (λ (l : List Placed). of_label x.block x.label_fits ∷ map of_packet l) (packets ∙ ap (λ (y : BlockOf). y.packets.items ++ p ∷ []) at)
    ∙ ap (λ (l : List Item). of_label x.block x.label_fits ∷ l) (map-append of_packet x.packets.items (p ∷ [])) in
    append-nil (block_items d) ∙ same ∙ ap (λ (l : List Item). l ++ of_packet p ∷ []) (sym (append-nil (block_items x)))
pushed_last (x ∷ []) (suc i) b d p last at number fits packets = absurd (omega arith)
pushed_last (x ∷ y ∷ bs) zero b d p last at number fits packets = absurd (omega arith)
pushed_last (x ∷ y ∷ bs) (suc i) b d p last at number fits packets =
    ap (λ (l : List Item). block_items x ++ l) (pushed_last (y ∷ bs) i b d p (omega arith) at number fits packets)
    ∙ sym (append_assoc (block_items x) (items_of (y ∷ bs)) (of_packet p ∷ []))

pub some_label : (bs : List BlockOf) (given : List Item) (p : Placed) → 0 < length bs → items_of bs ≡ from_label given → from_label (given ++ of_packet p ∷ []) ≡ from_label given ++ of_packet p ∷ []
some_label [] given p some f = absurd (omega arith)
some_label (b ∷ bs) given p some f = from_label-packet given p (of_label b.block b.label_fits) (map of_packet b.packets.items ++ items_of bs) (sym f)

pub no_label : (bs : List BlockOf) (given : List Item) (p : Placed) (n : ℕ) → (0 < n → false ≡ true) → n ≡ length bs → items_of bs ≡ from_label given → items_of bs ≡ from_label (given ++ of_packet p ∷ [])
no_label [] given p n none e f = sym (from_label-stray given p (sym f))
no_label (b ∷ bs) given p n none e f = let some : 0 < n = omega arith in let h : false ≡ true = none some in cc
