-- The laws of faults, for a fault as it is answered; and the octets of blocks.
use Rattle.std.proofs.Common.{◌≡◌, ℕ, ◌≤◌, ◌⊎◌, List, [], ◌∷◌, refl, sym, ap, ◌∙◌, inl, inr, subst}
use Rattle.std.specs.List.{flat_map, AllByRecursion}
use Rattle.opgp_octets.specs.Octets.{IsOctets}
use Rattle.opgp_octets.specs.declared.fault.Fault.{Fault}
use Rattle.opgp_octets.specs.declared.fault.Layer.{Layer}
use Rattle.opgp_octets.specs.declared.fault.Layer.TheVariants as layer
use Rattle.opgp_octets.specs.declared.fault.Reason.{Reason}
use Rattle.opgp_octets.specs.declared.outside.Outside.TheVariants as policy
use Rattle.opgp_armor.specs.Rules.{LineRule}
use Rattle.opgp_armor.specs.Armored.{Armored, Block, IsArmorFault, Piece, Other, Whole, IsPiece, blocks_of}
use Rattle.opgp_armor.proofs.Answer.{one_fault, no_fault, some_answer}

-- faults that agree in each part
same_fault : (f g : Fault) → f.layer ≡ g.layer → f.reason ≡ g.reason → f.block ≡ g.block → f.pos ≡ g.pos → f.inner ≡ g.inner → f ≡ g
same_fault f g layer reason block pos inner =
    let by_layer : Layer → Fault = λ v. record { layer = v; reason = f.reason; block = f.block; pos = f.pos; inner = f.inner } in
    let by_reason : Reason → Fault = λ v. record { layer = g.layer; reason = v; block = f.block; pos = f.pos; inner = f.inner } in
    let by_block : ℕ → Fault = λ v. record { layer = g.layer; reason = g.reason; block = v; pos = f.pos; inner = f.inner } in
    let by_pos : ℕ → Fault = λ v. record { layer = g.layer; reason = g.reason; block = g.block; pos = v; inner = f.inner } in
    let by_inner : ℕ → Fault = λ v. record { layer = g.layer; reason = g.reason; block = g.block; pos = g.pos; inner = v } in
    ap by_layer layer ∙ ap by_reason reason ∙ ap by_block block ∙ ap by_pos pos ∙ ap by_inner inner

pub one_whole_fault : (rule : LineRule) (text : List ℕ) (f g : Fault) → IsArmorFault rule text f → IsArmorFault rule text g → f ≡ g
one_whole_fault rule text f g h k =
    let e = one_fault rule text f.reason g.reason f.block g.block f.pos g.pos h.found k.found in
    same_fault f g (h.layer_is ∙ sym k.layer_is) e.0 e.1 e.2 (h.inner_is ∙ sym k.inner_is)

pub no_whole_fault : (rule : LineRule) (text : List ℕ) (blocks : List Block) (f : Fault) → IsOctets text → Armored rule text blocks → ¬ IsArmorFault rule text f
no_whole_fault rule text blocks f octets armored k = no_fault rule text blocks f.reason f.block f.pos octets armored k.found

pub some_whole_answer : (rule : LineRule) (text : List ℕ) → 128 ≤ rule.most → IsOctets text → ((blocks : List Block) × Armored rule text blocks) ⊎ ((f : Fault) × IsArmorFault rule text f)
some_whole_answer rule text large octets = elim (some_answer rule text large octets) [
  | inl h ↦ inl h
  | inr k ↦ inr (record { layer = layer.Armor; reason = k.0; block = k.1; pos = k.2; inner = 0 }, record { layer_is = refl; inner_is = refl; found = k.3 })
]

piece_octets : (rule : LineRule) (ps : List Piece) → AllByRecursion (IsPiece rule) ps → AllByRecursion (λ b. IsOctets b.octets) (flat_map blocks_of ps)
piece_octets rule [] each = tt
piece_octets rule (Other l ∷ ps) each = piece_octets rule ps each.1
piece_octets rule (Whole ls b ∷ ps) each = (each.0.spelled.0, piece_octets rule ps each.1)

pub blocks_octets : (rule : LineRule) (text : List ℕ) (blocks : List Block) → Armored rule text blocks → AllByRecursion (λ b. IsOctets b.octets) blocks
blocks_octets rule text blocks a = subst (AllByRecursion (λ b. IsOctets b.octets)) (sym a.whole.blocks_are) (piece_octets rule a.whole.pieces a.whole.each)

pieces_passed_over : (rule : LineRule) (ps : List Piece) → AllByRecursion (IsPiece rule) ps → AllByRecursion (IsPiece (record { most = rule.most; outside = policy.Skip })) ps
pieces_passed_over rule [] each = tt
pieces_passed_over rule (Other l ∷ ps) each = ((each.0.0, tt), pieces_passed_over rule ps each.1)
pieces_passed_over rule (Whole ls b ∷ ps) each = (each.0, pieces_passed_over rule ps each.1)

pub passed_over : (rule : LineRule) (text : List ℕ) (blocks : List Block) → Armored rule text blocks → Armored (record { most = rule.most; outside = policy.Skip }) text blocks
passed_over rule text blocks a =
    let w = a.whole in
    record { whole = record { pieces = w.pieces; each = pieces_passed_over rule w.pieces w.each; are = w.are; blocks_are = w.blocks_are }; some = a.some }
