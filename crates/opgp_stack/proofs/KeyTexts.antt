-- A text names one key at most.
use Rattle.std.proofs.Common.{◌≡◌, ◌∙◌, ◌*◌, ◌+◌, ◌<◌, ◌≤◌, ◌||◌, arith, ap, sym, Bool, true, false, codes, nat_eq, ℕ, List, [], length, Result, Ok}
use Rattle.std.specs.Prelude.{drop, if◌then◌else◌}
use Rattle.std.specs.List.{starts_with}
use Rattle.std.proofs.lemmas.List.{length-drop}
use Rattle.std.specs.Result.{result_unwrap_or}
use Rattle.hex.specs.Hex.{decode_of, decode_pairs, decode_sized}
use Rattle.hex.specs.declared.error.FromHexError.{FromHexError}
use Rattle.hex.proofs.HexLemmas.{decode_pairs-ok}
use Rattle.opgp_stack.specs.KeyName.{name_octets}
use Rattle.opgp_stack.specs.KeyText.{AreDigits, IsKeyText, digits_of, name_size, without_blanks}
use Rattle.opgp_stack.specs.declared.key_name.KeyName.{KeyName}
use Rattle.opgp_stack.specs.declared.key_name.KeyName.TheVariants.{Id, Four, Six}

same_octets : (digits : List ℕ) (a b : KeyName) → AreDigits digits a → AreDigits digits b → name_octets a ≡ name_octets b
same_octets digits a b x y = ap (λ (r : Result (List ℕ) FromHexError). result_unwrap_or r []) (sym x.octets ∙ y.octets)

by_size : (a b : KeyName) → name_octets a ≡ name_octets b → name_size a ≡ name_size b → a ≡ b
by_size (Id o) (Id p) same size = ap Id same
by_size (Four o) (Four p) same size = ap Four same
by_size (Six o) (Six p) same size = ap Six same
by_size (Id o) (Four p) same size = absurd (omega arith)
by_size (Id o) (Six p) same size = absurd (omega arith)
by_size (Four o) (Id p) same size = absurd (omega arith)
by_size (Four o) (Six p) same size = absurd (omega arith)
by_size (Six o) (Id p) same size = absurd (omega arith)
by_size (Six o) (Four p) same size = absurd (omega arith)

pub one_name : (text : List ℕ) (a b : KeyName) → IsKeyText text a → IsKeyText text b → a ≡ b
one_name text a b x y =
    let same = same_octets (digits_of text) a b x y in
    by_size a b same (sym x.sized ∙ ap (λ (o : List ℕ). length o) same ∙ y.sized)

pairs : (digits octets : List ℕ) → decode_of digits ≡ Ok octets → decode_pairs 0 digits ≡ Ok octets
pairs digits octets h = grind arith

-- what decodes is twice as many digits
pub decoded_size : (digits octets : List ℕ) → decode_of digits ≡ Ok octets → length digits ≡ 2 * length octets
decoded_size digits octets h = (decode_pairs-ok 0 digits octets (pairs digits octets h)).1

-- decoding into room for the octets
pub sized_decodes : (digits octets : List ℕ) (n : ℕ) → decode_sized digits n ≡ Ok octets → decode_of digits ≡ Ok octets
sized_decodes digits octets n h = grind arith

pub decodes_sized : (digits octets : List ℕ) (n : ℕ) → length octets ≡ n → decode_of digits ≡ Ok octets → decode_sized digits n ≡ Ok octets
decodes_sized digits octets n size h =
    let twice : length digits ≡ 2 * length octets = decoded_size digits octets h in
    let is_pairs : decode_pairs 0 digits ≡ Ok octets = pairs digits octets h in
    grind arith

-- ---- more digits than any name has
abbrev cut : Bool → List ℕ → List ℕ
cut b digits = if b then drop 2 digits else digits

cut_size : (b : Bool) (digits : List ℕ) → length digits ≤ length (cut b digits) + 2
cut_size true digits = omega (arith, length-drop 2 digits)
cut_size false digits = omega arith

small : (key : KeyName) → name_size key ≤ 32
small (Id o) = omega arith
small (Four o) = omega arith
small (Six o) = omega arith

pub too_long : (text : List ℕ) (key : KeyName) → 66 < length (without_blanks text) → IsKeyText text key → ⊥
too_long text key long said =
    let twice : length (digits_of text) ≡ 2 * length (name_octets key) = decoded_size (digits_of text) (name_octets key) said.octets in
    let digits = without_blanks text in
    let left = cut_size (starts_with nat_eq digits (codes "0x") || starts_with nat_eq digits (codes "0X")) digits in
    omega (arith, twice, small key, said.sized, left)
