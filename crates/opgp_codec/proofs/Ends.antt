-- What an input has: no packet comes before a label, and the end of the last block fits.
use Rattle.std.proofs.Common.{◌≡◌, ℕ, ◌+◌, ◌<◌, ◌≤◌, ◌-◌, ◌^◌, ◌∙◌, min, Bool, true, false, List, [], ◌∷◌, ◌++◌, length, map, sym, ap, subst, arith, Result, Ok, Err}
use Rattle.std.specs.List.{AllByRecursion}
use Rattle.std.specs.Result.{MatchResult}
use Rattle.std.proofs.lemmas.List.{length-append}
use Rattle.opgp_octets.specs.declared.fault.Fault.{Fault}
use Rattle.opgp_octets.specs.declared.limits.Limits.{Limits}
use Rattle.opgp_octets.specs.Limits.{input_limit, malformed_of}
use Rattle.opgp_armor.specs.Rules.{LineRule, line_rule}
use Rattle.opgp_armor.specs.Armored.{Armored, Block}
use Rattle.opgp_frame.specs.declared.packet.Placed.{Placed}
use Rattle.opgp_frame.specs.Frames.{StandFrom, spelled}
use Rattle.opgp_frame.specs.Packet.{spelling}
use Rattle.opgp_keyring.specs.Composition.{Item, of_packet}
use Rattle.opgp_keyring.specs.Detached.{IsDetachedFaultBy, IsDetachedOf}
use Rattle.opgp_keyring.specs.DetachedSignatures.{detached_packets}
use Rattle.opgp_keyring.specs.Signed.{IsSignedFaultBy, IsSignedOf, end_of, end_pos, last_of, told_end}
use Rattle.opgp_keyring.specs.SignedLiteral.{signed_packets}
use Rattle.opgp_keyring.specs.declared.detached_signatures.DetachedSignatures.{DetachedSignatures}
use Rattle.opgp_keyring.specs.declared.signed_literal.SignedLiteral.{SignedLiteral}
use Rattle.opgp_codec.specs.declared.mode.Mode.{Mode}
use Rattle.opgp_codec.specs.Reading.{TextBlock, Wanted, AreFramed, Holds, armored_block, block_items, is_binary, shown}
use Rattle.opgp_codec.specs.Labelled.{AreRead, from_label}
use Rattle.opgp_codec.specs.Signatures.{AreDetachedSignatures}
use Rattle.opgp_codec.specs.Signed.{AreSigned}

-- what armor promises of its definition
abbrev pub HasNoMoreOctets : Type 0
HasNoMoreOctets = (rule : LineRule) (text : List ℕ) (blocks : List Block) → Armored rule text blocks → AllByRecursion (λ b. length b.octets ≤ length text) blocks

abbrev AreShort : ℕ → List TextBlock → Type 0
AreShort n bs = AllByRecursion (λ b. length b.octets ≤ n) bs

abbrev EndWithin : ℕ → List Item → Type 0
EndWithin n items = AllByRecursion (λ i. end_of i ≤ n) items

armored_few : (n : ℕ) (bs : List Block) → AllByRecursion (λ b. length b.octets ≤ n) bs → AreShort n (map armored_block bs)
armored_few n [] all = tt
armored_few n (b ∷ bs) all = (all.0, armored_few n bs all.1)

texts_few : HasNoMoreOctets → (binary : Bool) (limits : Limits) (input : List ℕ) (bs : List TextBlock) → Holds binary limits input bs → AreShort (length input) bs
texts_few law true limits input bs h = subst (AreShort (length input)) (sym h) (let same : length input ≤ length input = omega arith in (same, tt))
texts_few law false limits input bs h = subst (AreShort (length input)) (sym h.2) (armored_few (length input) h.0 (law (line_rule limits) input h.0 h.1))

stand_few : (limits : Limits) (block at n : ℕ) (ps : List Placed) → StandFrom limits block at ps → at + length (spelled ps) ≤ n → EndWithin n (map of_packet ps)
stand_few limits block at n [] s h = tt
stand_few limits block at n (p ∷ ps) s h =
    let own = length-append (spelling p.packet) (spelled ps) in
    (omega (arith, own, s.2), stand_few limits block (at + length (spelling p.packet)) n ps s.3 (omega (arith, own)))

both_within : (n : ℕ) (xs ys : List Item) → EndWithin n xs → EndWithin n ys → EndWithin n (xs ++ ys)
both_within n [] ys a b = b
both_within n (x ∷ xs) ys a b = (a.0, both_within n xs ys a.1 b)

framed_few : (limits : Limits) (wanted : Wanted) (k n : ℕ) (bs : List TextBlock) (items : List Item) → AreShort n bs → AreFramed limits wanted k bs items → EndWithin n items
framed_few limits wanted k n [] items all f = subst (EndWithin n) (sym f) tt
framed_few limits wanted k n (b ∷ bs) items all f =
    let short : length b.octets ≤ n = all.0 in
    let own : EndWithin n (map of_packet f.0) = stand_few limits k 0 n f.0 f.2.stand (omega (arith, ap (length {A = ℕ}) f.2.whole)) in
    let label : 0 ≤ n = omega arith in
    subst (EndWithin n) (sym f.4) (both_within n (block_items k (wanted b.label) f.0) f.1 (label, own) (framed_few limits wanted (k + 1) n bs f.1 all.1 f.3))

last_few : (other n : ℕ) (items : List Item) → other ≤ n → EndWithin n items → last_of other (map end_of items) ≤ n
last_few other n [] h all = h
last_few other n (i ∷ items) h all = last_few (end_of i) n items all.0 all.1

end_fits : HasNoMoreOctets → (wanted : Wanted) (mode : Mode) (limits : Limits) (input : List ℕ) (bs : List TextBlock) (items : List Item) → length input ≤ input_limit limits → Holds (is_binary mode input) limits input bs
    → AreFramed limits wanted 0 bs items → end_pos items < 2 ^ 64
end_fits law wanted mode limits input bs items within h f =
    let few : end_pos items ≤ length input = last_few 0 (length input) items (omega arith) (framed_few limits wanted 0 (length input) bs items (texts_few law (is_binary mode input) limits input bs h) f) in
    omega (arith, few, within, limits.allowed.input_in.1)

told_is : (end : ℕ) → end < 2 ^ 64 → min end (2 ^ 64 - 1) ≡ end
told_is end fits = omega arith

-- framed blocks begin with a label
framed_label : (limits : Limits) (wanted : Wanted) (n : ℕ) (bs : List TextBlock) (items : List Item) → AreFramed limits wanted n bs items → from_label items ≡ items
framed_label limits wanted n [] items f = ap from_label f ∙ sym f
framed_label limits wanted n (b ∷ bs) items f = ap from_label f.4 ∙ sym f.4

pub are_read : HasNoMoreOctets → (wanted : Wanted) (mode : Mode) (limits : Limits) (input : List ℕ) (bs : List TextBlock) (items : List Item) → length input ≤ input_limit limits → Holds (is_binary mode input) limits input bs
    → AreFramed limits wanted 0 bs items → AreRead items
are_read law wanted mode limits input bs items within h f = record { labelled = framed_label limits wanted 0 bs items f; ends = end_fits law wanted mode limits input bs items within h f }

-- what was gathered of a signed literal
pub signed_is : (limits : Limits) (items : List Item) (result : Result SignedLiteral Fault) → end_pos items < 2 ^ 64 → MatchResult result (λ l. IsSignedOf (malformed_of limits) items (signed_packets l)) (IsSignedFaultBy (malformed_of limits) (told_end items) items)
    → AreSigned limits items (shown signed_packets result)
signed_is limits items (Ok l) ends h = h
signed_is limits items (Err f) ends h = subst (λ (end : ℕ). IsSignedFaultBy (malformed_of limits) end items f) (told_is (end_pos items) ends) h

-- and of detached signatures
pub detached_is : (limits : Limits) (items : List Item) (result : Result DetachedSignatures Fault) → end_pos items < 2 ^ 64 → MatchResult result (λ d. IsDetachedOf (malformed_of limits) items (detached_packets d)) (IsDetachedFaultBy (malformed_of limits) (told_end items) items)
    → AreDetachedSignatures limits items (shown detached_packets result)
detached_is limits items (Ok d) ends h = h
detached_is limits items (Err f) ends h = subst (λ (end : ℕ). IsDetachedFaultBy (malformed_of limits) end items f) (told_is (end_pos items) ends) h
