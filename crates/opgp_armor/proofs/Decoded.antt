-- What the decoder answers for whole groups, against the definition.
use Rattle.std.proofs.Common.{◌≡◌, ℕ, suc, ◌%◌, ◌==◌, ◌<◌, Bool, true, false, not, ◌||◌, ◌&&◌, nat_lt, List, [], ◌∷◌, length, refl, ap, ◌∙◌, Ok, Err}
use Rattle.std.proofs.lemmas.Bool.{lt-ltb}
use Rattle.std.specs.List.{list_any, list_all}
use Rattle.std.specs.Result.{result_ok}
use Rattle.std.specs.declared.result.Result.{Result}
use Rattle.base64.specs.declared.decode.DecodeError.{DecodeError}
use Rattle.base64.specs.Engines.{standard}
use Rattle.base64.specs.GeneralPurpose.{decode_of, decoded_of, IsBytes}
use Rattle.base64.proofs.Streams.{decoded_of-ok}
use Rattle.opgp_octets.specs.declared.fault.Reason.TheVariants as reason
use Rattle.opgp_armor.specs.Letters.{is_equals, is_octet, after_groups}

abbrev pub spoilt : List ℕ → List ℕ → Bool
spoilt rest o = list_any is_equals rest || (not (length o % 3 == 0) && nat_lt 0 (length rest))

or_true : (a b c : Bool) → (b || c) ≡ true → ((a || b) || c) ≡ true
or_true true b c h = refl
or_true false b c h = h

pub bytes_test : (o : List ℕ) → IsBytes o → list_all is_octet o ≡ true
bytes_test [] h = refl
bytes_test (x ∷ o) h = let l : x < 256 = h 0 in rw (lt-ltb x 256 l) (bytes_test o (λ i. h (suc i)))

pub after_spoilt : (s rest o : List ℕ) → decode_of standard s ≡ Ok o → spoilt rest o ≡ true → after_groups rest (decoded_of standard s) ≡ Err reason.Padding
after_spoilt s rest o ok h =
    ap (after_groups rest) (decoded_of-ok standard s o ok) ∙ rw (or_true (not (list_all is_octet o)) (list_any is_equals rest) (not (length o % 3 == 0) && nat_lt 0 (length rest)) h) refl

pub after_bad : (s rest : List ℕ) (d : DecodeError) → decode_of standard s ≡ Err d → after_groups rest (decoded_of standard s) ≡ Err reason.Padding
unfolding decoded_of
after_bad s rest d err = ap (λ (v : Result (List ℕ) DecodeError). after_groups rest (result_ok v)) err
