-- The first fault of bodies, in parts of a list.
use Rattle.std.proofs.Common.{◌≡◌, ℕ, ◌<◌, List, ◌∷◌, ◌++◌, length, take, drop, get_or, All, sym, ap, subst, ◌∙◌, append_assoc, drop-cons, suc}
use Rattle.std.proofs.lemmas.List.{take-append-drop}
use Rattle.std.proofs.lemmas.List.Concat.{flat_map-append}
use Rattle.std.proofs.lemmas.List.Elements.{All-append}
use Rattle.opgp_octets.specs.declared.malformed.Malformed.{Malformed}
use Rattle.opgp_octets.specs.declared.fault.Fault.{Fault}
use Rattle.opgp_frame.specs.declared.packet.Placed.{Placed}
use Rattle.opgp_keyring.specs.declared.block_of.BlockOf.{BlockOf}
use Rattle.opgp_keyring.specs.Block.{placed_of}
use Rattle.opgp_keyring.specs.Bodies.{IsSound, IsFirstBodyFault, IsPlacedFault}

-- a list at one of its elements
pub at_place : {X : Type 0} (xs : List X) (i : ℕ) (x : X) → i < length xs → x ≡ get_or xs i x → xs ≡ take i xs ++ x ∷ drop (suc i) xs
at_place {X} xs i x h e =
    sym (take-append-drop i xs) ∙ ap (λ (l : List X). take i xs ++ l) (drop-cons xs i x h) ∙ ap (λ (y : X). take i xs ++ y ∷ drop (suc i) xs) (sym e)

-- the body of this packet is at fault, and those before it are sound
pub first_at : (policy : Malformed) (ps : List Placed) (i : ℕ) (p : Placed) (f : Fault) → i < length ps → p ≡ get_or ps i p → All (IsSound policy) (take i ps) → IsPlacedFault policy p f → IsFirstBodyFault policy ps f
first_at policy ps i p f h e sound k = record {
  before = take i ps;
  at = p;
  after = drop (suc i) ps;
  why = k.why;
  whole = at_place ps i p h e;
  sound = sound;
  octets = k.octets;
  here = k.here;
  is = k.is;
}

pub first_more : (policy : Malformed) (ps more : List Placed) (f : Fault) → IsFirstBodyFault policy ps f → IsFirstBodyFault policy (ps ++ more) f
first_more policy ps more f b = record {
  before = b.before;
  at = b.at;
  after = b.after ++ more;
  why = b.why;
  whole = ap (λ (l : List Placed). l ++ more) b.whole ∙ append_assoc b.before (b.at ∷ b.after) more;
  sound = b.sound;
  octets = b.octets;
  here = b.here;
  is = b.is;
}

-- a fault behind what is sound
behind_sound : (policy : Malformed) (xs ys zs : List Placed) (f : Fault) → All (IsSound policy) xs → IsFirstBodyFault policy ys f → IsFirstBodyFault policy (xs ++ (ys ++ zs)) f
behind_sound policy xs ys zs f sound b = record {
  before = xs ++ b.before;
  at = b.at;
  after = b.after ++ zs;
  why = b.why;
  whole = ap (λ (l : List Placed). xs ++ (l ++ zs)) b.whole ∙ ap (λ (l : List Placed). xs ++ l) (append_assoc b.before (b.at ∷ b.after) zs) ∙ sym (append_assoc xs b.before (b.at ∷ (b.after ++ zs)));
  sound = All-append (IsSound policy) xs b.before sound b.sound;
  octets = b.octets;
  here = b.here;
  is = b.is;
}

-- the same of blocks
pub first_block : (policy : Malformed) (blocks : List BlockOf) (i : ℕ) (b : BlockOf) (f : Fault) → i < length blocks → b ≡ get_or blocks i b → All (IsSound policy) (placed_of (take i blocks)) → IsFirstBodyFault policy b.packets.items f
    → IsFirstBodyFault policy (placed_of blocks) f
first_block policy blocks i b f h e sound here =
    let whole : placed_of blocks ≡ placed_of (take i blocks) ++ (b.packets.items ++ placed_of (drop (suc i) blocks)) =
    ap placed_of (at_place blocks i b h e) ∙ flat_map-append (λ (x : BlockOf). x.packets.items) (take i blocks) (b ∷ drop (suc i) blocks) in
    subst (λ (l : List Placed). IsFirstBodyFault policy l f) (sym whole) (behind_sound policy (placed_of (take i blocks)) b.packets.items (placed_of (drop (suc i) blocks)) f sound here)
