-- The packets of an input that are checked one after the other.
use Rattle.std.proofs.Common.{◌≡◌, ℕ, Bool, true, false, List, [], ◌∷◌, ◌++◌, Option, Some, None, is_some, map, refl, sym, ap, subst, ◌∙◌, append-nil, append_assoc}
use Rattle.std.proofs.lemmas.List.Elements.{All-push}
use Rattle.opgp_octets.specs.declared.fault.Fault.{Fault}
use Rattle.opgp_octets.specs.declared.malformed.Malformed.{Malformed}
use Rattle.opgp_frame.specs.declared.packet.Placed.{Placed}
use Rattle.opgp_keyring.specs.Bodies.{IsFirstBodyFault, IsPlacedFault, IsSound}
use Rattle.opgp_keyring.specs.Composition.{Item, of_label, of_packet, placed_in}
use Rattle.opgp_keyring.proofs.Feeding.{placed_in-append}
use Rattle.opgp_codec.specs.declared.found.Opening.{Opening}
use Rattle.opgp_codec.specs.Found.{opened}
use Rattle.opgp_codec.specs.SoundPackets.{AreSoFar, passed_if}

module _ (policy : Malformed) where
  -- a label has no packet
  pub so_far_label : (kept : List Placed → Type 0) (fault : Option Fault) (given : List Item) (n : ℕ) (fits : Bool) → AreSoFar policy kept fault (placed_in given) → AreSoFar policy kept fault (placed_in (given ++ of_label n fits ∷ []))
  so_far_label kept fault given n fits h =
      subst (AreSoFar policy kept fault) (sym (placed_in-append given (of_label n fits ∷ []) ∙ append-nil (placed_in given))) h

  pub so_far_none : (kept : List Placed → Type 0) (fault : Option Fault) (packets : List Placed) → is_some fault ≡ false → AreSoFar policy kept fault packets → AreSoFar policy kept None packets
  so_far_none kept None packets none h = h
  so_far_none kept (Some fault) packets none h = absurd cc

  -- a sound packet that is kept
  pub so_far_packet : (kept more : List Placed → Type 0) (fault : Option Fault) (given : List Item) (p : Placed) → is_some fault ≡ false → AreSoFar policy kept fault (placed_in given) → IsSound policy p → ((packets : List Placed) → kept packets → more (packets ++ p ∷ [])) → AreSoFar policy more fault (placed_in (given ++ of_packet p ∷ []))
  so_far_packet kept more None given p none h sound e =
      subst (AreSoFar policy more None) (sym (placed_in-append given (of_packet p ∷ [])))
      (All-push (IsSound policy) (placed_in given) p h.0 sound, e (placed_in given) h.1)
  so_far_packet kept more (Some fault) given p none h sound e = absurd cc

  -- the first whose body has a fault
  pub so_far_fault : (kept : List Placed → Type 0) (given : List Item) (p : Placed) (fault : Fault) → AreSoFar policy kept None (placed_in given) → IsPlacedFault policy p fault → AreSoFar policy kept (Some fault) (placed_in (given ++ of_packet p ∷ []))
  so_far_fault kept given p fault h k =
      let first : IsFirstBodyFault policy (placed_in given ++ p ∷ []) fault = record { before = placed_in given; at = p; after = []; why = k.why; whole = refl; sound = h.0; octets = k.octets; here = k.here; is = k.is } in
      subst (AreSoFar policy kept (Some fault)) (sym (placed_in-append given (of_packet p ∷ []))) (first, h.1)

  -- what comes behind a fault
  pub so_far_behind : (kept : List Placed → Type 0) (fault : Option Fault) (given more : List Item) → is_some fault ≡ true → AreSoFar policy kept fault (placed_in given) → AreSoFar policy kept fault (placed_in (given ++ more))
  so_far_behind kept None given more some h = absurd cc
  so_far_behind kept (Some fault) given more some (b, h) =
      let first : IsFirstBodyFault policy (placed_in given ++ placed_in more) fault = record {
        before = b.before;
        at = b.at;
        after = b.after ++ placed_in more;
        why = b.why;
        whole = ap (λ (l : List Placed). l ++ placed_in more) b.whole ∙ append_assoc b.before (b.at ∷ b.after) (placed_in more);
        sound = b.sound;
        octets = b.octets;
        here = b.here;
        is = b.is;
      } in
      subst (AreSoFar policy kept (Some fault)) (sym (placed_in-append given more)) (first, h)

  pub so_far_still : (kept : List Placed → Type 0) (fault : Option Fault) (given : List Item) (p : Placed) → is_some fault ≡ true → AreSoFar policy kept fault (placed_in given) → AreSoFar policy kept fault (placed_in (given ++ of_packet p ∷ []))
  so_far_still kept fault given p some h = so_far_behind kept fault given (of_packet p ∷ []) some h

  -- what is kept in one way is kept in another
  pub so_far_kept : (kept more : List Placed → Type 0) (fault : Option Fault) (packets : List Placed) → ((ps : List Placed) → kept ps → more ps) → AreSoFar policy kept fault packets → AreSoFar policy more fault packets
  so_far_kept kept more None packets by h = (h.0, by packets h.1)
  so_far_kept kept more (Some fault) packets by h = (h.0, by h.0.before h.1)

  -- no more packets are
  pub so_far_nil : (packets : List Placed) (fault : Option Fault) (all : List Placed) → AreSoFar policy (λ ps. ps ≡ packets) fault all → AreSoFar policy (λ ps. ps ≡ packets ++ []) fault all
  so_far_nil packets fault all h = so_far_kept (λ ps. ps ≡ packets) (λ ps. ps ≡ packets ++ []) fault all (λ ps e. e ∙ sym (append-nil packets)) h

  -- so of a block that begins, where one does
  pub so_far_opened : (kept : List Placed → Type 0) (fault : Option Fault) (given : List Item) (o : Option Opening) → AreSoFar policy kept fault (placed_in given) → AreSoFar policy kept fault (placed_in (given ++ opened o))
  so_far_opened kept fault given None h = subst (λ (l : List Item). AreSoFar policy kept fault (placed_in l)) (sym (append-nil given)) h
  so_far_opened kept fault given (Some o) h = so_far_label kept fault given o.number o.fits h

  -- what a step has found passes, or doesn't
  pub passed_more : (packets : List Placed) (a b : Option Fault) (passed : Bool) (list found : List Item) (opening : Option Opening) (viewed placed : List Placed) → viewed ≡ placed → found ≡ opened opening ++ map of_packet placed
      → ((packets : List Placed) (list : List Item) → AreSoFar policy (λ ps. ps ≡ packets) a (placed_in list) → AreSoFar policy (λ ps. ps ≡ packets ++ passed_if passed viewed) b (placed_in (list ++ map of_packet viewed)))
      → AreSoFar policy (λ ps. ps ≡ packets) a (placed_in list) → AreSoFar policy (λ ps. ps ≡ packets ++ passed_if passed placed) b (placed_in (list ++ found))
  passed_more packets a b passed list found opening viewed placed e f step h =
      let next = step packets (list ++ opened opening) (so_far_opened (λ ps. ps ≡ packets) a list opening h) in
      let same = subst (λ (v : List Placed). AreSoFar policy (λ ps. ps ≡ packets ++ passed_if passed v) b (placed_in ((list ++ opened opening) ++ map of_packet v))) e next in
      subst (λ (l : List Item). AreSoFar policy (λ ps. ps ≡ packets ++ passed_if passed placed) b (placed_in l)) (append_assoc list (opened opening) (map of_packet placed) ∙ ap (λ (l : List Item). list ++ l) (sym f)) same
