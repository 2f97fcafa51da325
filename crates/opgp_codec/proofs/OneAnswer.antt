-- An input has one answer at most.
use Rattle.std.proofs.Common.{◌≡◌, ℕ, ◌+◌, Bool, true, false, List, [], ◌∷◌, ◌++◌, map, sym, ap, ◌∙◌, subst, inl, inr, arith, Err}
use Rattle.opgp_octets.specs.Octets.{IsOctets}
use Rattle.opgp_octets.specs.declared.fault.Fault.{Fault}
use Rattle.opgp_octets.specs.declared.limits.Limits.{Limits}
use Rattle.opgp_armor.specs.Rules.{line_rule}
use Rattle.opgp_frame.specs.declared.packet.Placed.{Placed}
use Rattle.opgp_codec.specs.declared.mode.Mode.{Mode}
use Rattle.opgp_keyring.specs.Composition.{Item}
use Rattle.opgp_codec.specs.Layers.{LayersAreOne}
use Rattle.opgp_codec.specs.Reading.{TextBlock, Wanted, armored_block, block_items, is_binary, Holds, IsTextFault, AreFramed, FirstFault, Outcome, AnswerOf, at_length, at_armor, at_framing, at_top, IsOne}

module _ (w : LayersAreOne) (limits : Limits) where
  one_text : (binary : Bool) (input : List ℕ) (a b : List TextBlock) → Holds binary limits input a → Holds binary limits input b → a ≡ b
  one_text true input a b h k = h ∙ sym k
  one_text false input a b h k = h.2 ∙ ap (map armored_block) (w.armor_list (line_rule limits) input h.0 k.0 h.1 k.1) ∙ sym k.2

  one_text_fault : (binary : Bool) (input : List ℕ) (f g : Fault) → IsTextFault binary limits input f → IsTextFault binary limits input g → f ≡ g
  one_text_fault true input f g h k = absurd h
  one_text_fault false input f g h k = w.armor_fault (line_rule limits) input f g h k

  text_or_fault : (binary : Bool) (input : List ℕ) (a : List TextBlock) (f : Fault) → IsOctets input → Holds binary limits input a → IsTextFault binary limits input f → ⊥
  text_or_fault true input a f octets h k = k
  text_or_fault false input a f octets h k = w.armor_no_fault (line_rule limits) input h.0 f octets h.1 k

  one_framed : (wanted : Wanted) (n : ℕ) (bs : List TextBlock) (xs ys : List Item) → AreFramed limits wanted n bs xs → AreFramed limits wanted n bs ys → xs ≡ ys
  one_framed wanted n [] xs ys h k = h ∙ sym k
  one_framed wanted n (b ∷ bs) xs ys h k =
      let packets : h.0 ≡ k.0 = w.frame_list limits n b.octets h.0 k.0 h.2 k.2 in
      let rest : h.1 ≡ k.1 = one_framed wanted (n + 1) bs h.1 k.1 h.3 k.3 in
      h.4 ∙ ap (λ (v : List Placed). block_items n (wanted b.label) v ++ h.1) packets ∙ ap (λ (v : List Item). block_items n (wanted b.label) k.0 ++ v) rest ∙ sym k.4

  framed_or_fault : (wanted : Wanted) (n : ℕ) (bs : List TextBlock) (xs : List Item) (f : Fault) → AreFramed limits wanted n bs xs → FirstFault limits n bs f → ⊥
  framed_or_fault wanted n [] xs f h k = k
  framed_or_fault wanted n (b ∷ bs) xs f h (inl k) = w.frame_no_fault limits n b.octets h.0 f h.2 k
  framed_or_fault wanted n (b ∷ bs) xs f h (inr k) = framed_or_fault wanted (n + 1) bs h.1 f h.3 k.2

  one_first_fault : (n : ℕ) (bs : List TextBlock) (f g : Fault) → FirstFault limits n bs f → FirstFault limits n bs g → f ≡ g
  one_first_fault n [] f g h k = absurd h
  one_first_fault n (b ∷ bs) f g (inl h) (inl k) = w.frame_fault limits n b.octets f g h k
  one_first_fault n (b ∷ bs) f g (inl h) (inr k) = absurd (w.frame_no_fault limits n b.octets k.0 f k.1 h)
  one_first_fault n (b ∷ bs) f g (inr h) (inl k) = absurd (w.frame_no_fault limits n b.octets h.0 g h.1 k)
  one_first_fault n (b ∷ bs) f g (inr h) (inr k) = one_first_fault (n + 1) bs f g h.2 k.2

-- Whatever the top, where it has one answer at most, so has reading.
pub one_answer : {A : Type 0} (wanted : Wanted) (top : List Item → Outcome A → Type 0) → IsOne top → LayersAreOne → (mode : Mode) (limits : Limits) (input : List ℕ) → IsOctets input
    → (a b : Outcome A) → AnswerOf wanted top mode limits input a → AnswerOf wanted top mode limits input b → a ≡ b
one_answer wanted top one w mode limits input octets a b (at_length x e) (at_length y d) = e ∙ sym d
one_answer wanted top one w mode limits input octets a b (at_length x e) (at_armor y g k d) = absurd (omega arith)
one_answer wanted top one w mode limits input octets a b (at_length x e) (at_framing y cs k g l d) = absurd (omega arith)
one_answer wanted top one w mode limits input octets a b (at_length x e) (at_top y cs k qs l d) = absurd (omega arith)
one_answer wanted top one w mode limits input octets a b (at_armor x f h e) (at_length y d) = absurd (omega arith)
one_answer wanted top one w mode limits input octets a b (at_armor x f h e) (at_armor y g k d) = e ∙ ap Err (one_text_fault w limits (is_binary mode input) input f g h k) ∙ sym d
one_answer wanted top one w mode limits input octets a b (at_armor x f h e) (at_framing y cs k g l d) = absurd (text_or_fault w limits (is_binary mode input) input cs f octets k h)
one_answer wanted top one w mode limits input octets a b (at_armor x f h e) (at_top y cs k qs l d) = absurd (text_or_fault w limits (is_binary mode input) input cs f octets k h)
one_answer wanted top one w mode limits input octets a b (at_framing x bs h f i e) (at_length y d) = absurd (omega arith)
one_answer wanted top one w mode limits input octets a b (at_framing x bs h f i e) (at_armor y g k d) = absurd (text_or_fault w limits (is_binary mode input) input bs g octets h k)
one_answer wanted top one w mode limits input octets a b (at_framing x bs h f i e) (at_framing y cs k g l d) =
    let blocks = one_text w limits (is_binary mode input) input bs cs h k in
    e ∙ ap Err (one_first_fault w limits 0 cs f g (subst (λ (v : List TextBlock). FirstFault limits 0 v f) blocks i) l) ∙ sym d
one_answer wanted top one w mode limits input octets a b (at_framing x bs h f i e) (at_top y cs k qs l d) =
    let blocks = one_text w limits (is_binary mode input) input bs cs h k in
    absurd (framed_or_fault w limits wanted 0 cs qs f l (subst (λ (v : List TextBlock). FirstFault limits 0 v f) blocks i))
one_answer wanted top one w mode limits input octets a b (at_top x bs h ps i e) (at_length y d) = absurd (omega arith)
one_answer wanted top one w mode limits input octets a b (at_top x bs h ps i e) (at_armor y g k d) = absurd (text_or_fault w limits (is_binary mode input) input bs g octets h k)
one_answer wanted top one w mode limits input octets a b (at_top x bs h ps i e) (at_framing y cs k g l d) =
    let blocks = one_text w limits (is_binary mode input) input bs cs h k in
    absurd (framed_or_fault w limits wanted 0 cs ps g (subst (λ (v : List TextBlock). AreFramed limits wanted 0 v ps) blocks i) l)
one_answer wanted top one w mode limits input octets a b (at_top x bs h ps i e) (at_top y cs k qs l d) =
    let blocks = one_text w limits (is_binary mode input) input bs cs h k in
    let packets = one_framed w limits wanted 0 cs ps qs (subst (λ (v : List TextBlock). AreFramed limits wanted 0 v ps) blocks i) l in
    one qs a b (subst (λ (v : List Item). top v a) packets e) d
