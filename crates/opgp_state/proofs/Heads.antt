-- First lines of files of verdicts.
use Rattle.std.proofs.Common.{◌≡◌, ◌∙◌, ◌<◌, ℕ, zero, suc, List, [], ◌∷◌, ◌++◌, codes, length, sym, ap, subst, arith, append_assoc, Option, Some, None, Result, Ok, Err}
use Rattle.std.specs.Fmt.{decimal}
use Rattle.std.specs.Int.{to_be_bytes, w32}
use Rattle.std.specs.Prelude.{slice_index, take, IfOk, MatchOption}
use Rattle.std.specs.Global.{Vec}
use Rattle.std.proofs.lemmas.List.{append_cancel_left, take_at}
use Rattle.hex.specs.Hex.{IsBytes, decode_of, encode_upper, upper_digits}
use Rattle.hex.proofs.HexLemmas.{decode_of-encode_upper, length-encode_with}
use Rattle.sha2.specs.Sha256.{digest_bytes, sha256}
use Rattle.sha2.proofs.Facts256.{length-sha256}
use Rattle.opgp_report.specs.Left.{says_left}
use Rattle.opgp_report.specs.Report.{report_of}
use Rattle.opgp_report.specs.RowValue.{RowValue}
use Rattle.opgp_report.specs.declared.verifier.Verdict.{Verdict}
use Rattle.opgp_keyring.specs.Keyring.{KeyringValue}
use Rattle.opgp_state.specs.VerdictFile.{AreVerdictLines, HasVerdicts, head_line, keyring_digest}
use Rattle.opgp_state.proofs.Lines.{lines_once}
use Rattle.opgp_state.proofs.Verdicts.{same_behind}

abbrev head_of : KeyringValue → List ℕ
head_of r = head_line (keyring_digest r) (length (report_of says_left r))

-- a file has one list of verdicts on a keyring
pub verdicts_once : (file : List ℕ) (r : KeyringValue) (v w : List Verdict) → HasVerdicts file r v → HasVerdicts file r w → v ≡ w
verdicts_once file r v w (lines, e, h) (others, f, k) =
    lines_once (report_of says_left r) 0 v w lines h (subst (λ l. AreVerdictLines 0 (report_of says_left r) w l) (same_behind (head_of r) others lines file f e) k)

-- ---- reading it
-- where the first line is another one, there are no verdicts
pub no_head : (file : List ℕ) (r : KeyringValue) (n : ℕ) → n ≡ length (report_of says_left r) → ((lines : List ℕ) → file ≡ head_line (keyring_digest r) n ++ lines → ⊥)
    → (v : List Verdict) → HasVerdicts file r v → ⊥
no_head file r n e none v (lines, f, h) = none lines (f ∙ ap (λ k. head_line (keyring_digest r) k ++ lines) (sym e))

module _ (file lines : List ℕ) (r : KeyringValue) (n : ℕ) (is : n ≡ length (report_of says_left r)) (e : file ≡ head_line (keyring_digest r) n ++ lines) where
  here : file ≡ head_of r ++ lines
  here = e ∙ ap (λ k. head_line (keyring_digest r) k ++ lines) is

  pub none_behind : ((v : List Verdict) → AreVerdictLines 0 (report_of says_left r) v lines → ⊥) → (v : List Verdict) → HasVerdicts file r v → ⊥
  none_behind none v (others, f, h) = none v (subst (λ l. AreVerdictLines 0 (report_of says_left r) v l) (same_behind (head_of r) others lines file f here) h)

  pub some_behind : (v : List Verdict) → AreVerdictLines 0 (report_of says_left r) v lines → HasVerdicts file r v
  some_behind v h = (lines, here, h)

-- the verdicts that were read behind it
pub read_behind : {E : Type 0} (result : Result (Option (Vec Verdict)) E) (rows : List RowValue) (file lines : List ℕ) (r : KeyringValue) (n : ℕ) → rows ≡ report_of says_left r → n ≡ length (report_of says_left r)
    → file ≡ head_line (keyring_digest r) n ++ lines
    → IfOk result (λ found. MatchOption found ((v : List Verdict) → AreVerdictLines 0 rows v lines → ⊥) (λ v. AreVerdictLines 0 rows v.items lines))
    → IfOk result (λ found. MatchOption found ((v : List Verdict) → HasVerdicts file r v → ⊥) (λ v. HasVerdicts file r v.items))
read_behind (Ok (Some v)) rows file lines r n same is e h = some_behind file lines r n is e v.items (subst (λ l. AreVerdictLines 0 l v.items lines) same h)
read_behind (Ok None) rows file lines r n same is e h = none_behind file lines r n is e (subst (λ l. (v : List Verdict) → AreVerdictLines 0 l v lines → ⊥) same h)
read_behind (Err error) rows file lines r n same is e h = tt

-- ---- of which keyring a file is
-- the octets of a digest are octets
word_octets : (n i : ℕ) → slice_index (to_be_bytes w32 n) i < 256
word_octets n zero = omega arith
word_octets n (suc zero) = omega arith
word_octets n (suc (suc zero)) = omega arith
word_octets n (suc (suc (suc zero))) = omega arith
word_octets n (suc (suc (suc (suc i)))) = omega arith

both_octets : (xs ys : List ℕ) → IsBytes xs → IsBytes ys → IsBytes (xs ++ ys)
both_octets [] ys h k i = k i
both_octets (x ∷ xs) ys h k zero = h 0
both_octets (x ∷ xs) ys h k (suc i) = both_octets xs ys (λ j. h (suc j)) k i

words_octets : (h : List ℕ) (n : ℕ) → IsBytes (digest_bytes h n)
unfolding digest_bytes
words_octets h zero i = omega arith
words_octets h (suc n) i = both_octets (digest_bytes h n) (to_be_bytes w32 (slice_index h n)) (words_octets h n) (word_octets (slice_index h n)) i

digest_octets : (m : List ℕ) → IsBytes (sha256 m)
unfolding sha256
digest_octets m = words_octets _ 8

-- equal digits are those of equal octets
same_octets : (a b : List ℕ) → IsBytes a → IsBytes b → encode_upper a ≡ encode_upper b → a ≡ b
same_octets a b h k e = let same : Ok a ≡ Ok b = sym (decode_of-encode_upper a h) ∙ ap decode_of e ∙ decode_of-encode_upper b k in cc same

-- the first line begins with the digits of the digest
head_cut : (digest : List ℕ) (rows : ℕ) (lines : List ℕ) → (rest : List ℕ) × (head_line digest rows ++ lines ≡ codes "verdicts by arithmetic of keyring sha256 " ++ (encode_upper digest ++ rest))
head_cut digest rows lines =
    let rest = codes " rows " ++ (decimal rows ++ (codes "\n" ++ [])) in (
      rest ++ lines,
      append_assoc (codes "verdicts by arithmetic of keyring sha256 ") (encode_upper digest ++ rest) lines
          ∙ ap (λ l. codes "verdicts by arithmetic of keyring sha256 " ++ l) (append_assoc (encode_upper digest) rest lines),
    )

pub one_digest : (file : List ℕ) (r s : KeyringValue) (v w : List Verdict) → HasVerdicts file r v → HasVerdicts file s w → keyring_digest r ≡ keyring_digest s
one_digest file r s v w (lines, e, h) (others, f, k) =
    let (rest, a) = head_cut (keyring_digest r) (length (report_of says_left r)) lines in
    let (rest', b) = head_cut (keyring_digest s) (length (report_of says_left s)) others in
    let behind : encode_upper (keyring_digest r) ++ rest ≡ encode_upper (keyring_digest s) ++ rest' =
    append_cancel_left (codes "verdicts by arithmetic of keyring sha256 ") (encode_upper (keyring_digest r) ++ rest) (encode_upper (keyring_digest s) ++ rest') (sym a ∙ sym e ∙ f ∙ b) in
    let long : (m : List ℕ) → length (encode_upper (sha256 m)) ≡ 64 = λ m. let one = length-encode_with upper_digits (sha256 m) in let whole = length-sha256 m in omega (arith, one, whole) in
    let digits : encode_upper (keyring_digest r) ≡ encode_upper (keyring_digest s) =
    sym (take_at (encode_upper (keyring_digest r)) rest 64 (long _)) ∙ ap (λ l. take 64 l) behind ∙ take_at (encode_upper (keyring_digest s)) rest' 64 (long _) in
    same_octets (keyring_digest r) (keyring_digest s) (digest_octets _) (digest_octets _) digits
