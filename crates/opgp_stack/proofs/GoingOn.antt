-- Lines of a listing that go on before their line feed.
use Rattle.std.proofs.Common.{◌≡◌, ◌∙◌, ℕ, List, [], ◌∷◌, ◌++◌, ◌-◌, codes, sym, ap, arith, length, length-append, take, Option, Some}
use Rattle.std.proofs.Math.Seq.{take-append_seam}
use Rattle.opgp_packet.specs.SignatureBody.{SignatureValue}
use Rattle.opgp_report.specs.Left.{left_in}
use Rattle.opgp_report.specs.Named.{named_of}
use Rattle.opgp_report.specs.Signer.{NameValue}
use Rattle.opgp_stack.specs.ValuedListing.{created_of, going_on, unended, value_words}

but_last : (xs : List ℕ) (n : ℕ) → unended (xs ++ n ∷ []) ≡ xs
but_last xs n =
    let size : length (xs ++ n ∷ []) - 1 ≡ length xs = omega (arith, length-append xs (n ∷ [])) in
    ap (λ (m : ℕ). take m (xs ++ n ∷ [])) size ∙ take-append_seam xs (n ∷ [])

-- a line that goes on
goes_on : (line left : List ℕ) (v : SignatureValue) → going_on (Some left) v (line ++ codes "\n") ≡ line ++ value_words left (created_of v) (named_of v)
goes_on line left v = ap (λ (o : List ℕ). o ++ value_words left (created_of v) (named_of v)) (but_last line 10)

-- a line that goes on with these values, which are those of the signature
pub goes_on_with : (v : SignatureValue) (line start left : List ℕ) (created : Option ℕ) (name : NameValue) → left_in v ≡ Some left → line ≡ start ++ codes "\n" → created ≡ created_of v → name ≡ named_of v
    → going_on (left_in v) v line ≡ start ++ value_words left created name
goes_on_with v line start left created name a b d e =
    ap (λ (o : Option (List ℕ)). going_on o v line) a ∙ ap (going_on (Some left) v) b ∙ goes_on start left v
    ∙ ap (λ (t : Option ℕ). start ++ value_words left t (named_of v)) (sym d) ∙ ap (λ (n : NameValue). start ++ value_words left created n) (sym e)
