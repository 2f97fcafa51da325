-- A signature has one answer for a document.
use Rattle.std.proofs.Common.{◌≡◌, ◌==◌, ℕ, Bool, true, false, List, ◌++◌, Option, Some, None, Result, Ok, Err, refl, sym, ap, subst, ◌∙◌, true≢false, inr}
use Rattle.std.proofs.lemmas.Bool.{eq-eqb}
use Rattle.opgp_hash.specs.Digest.{digest_under}
use Rattle.opgp_hash.specs.declared.digests.Digest.{Digest}
use Rattle.opgp_hash.specs.SignedValue.{SignedValue}
use Rattle.opgp_document.specs.Answer.{HasDigest, HasNoText, IsAnswer}
use Rattle.opgp_document.specs.HashedDocument.{HashesDocument, IsHashedAs}
use Rattle.opgp_document.specs.OwnOctets.{closing}
use Rattle.opgp_document.specs.Text.{HasText}
use Rattle.opgp_document.specs.declared.document_why.DocumentWhy.{DocumentWhy}
use Rattle.opgp_document.specs.declared.document_why.DocumentWhy.TheVariants.{Opaque, Kind, Hash, LineEnds}
use Rattle.opgp_document.proofs.Text.{text_is_made}

same_shown : (is_text : Bool) (d x y : List ℕ) → IsHashedAs is_text d x → IsHashedAs is_text d y → x ≡ y
same_shown true d x y h k = (text_is_made d x h).1 ∙ sym (text_is_made d y k).1
same_shown false d x y h k = h ∙ sym k

same_octets : (s : SignedValue) (d o e : List ℕ) → HashesDocument s d o → HashesDocument s d e → o ≡ e
same_octets s d o e h k =
    h.whole ∙ ap (λ (x : List ℕ). (s.salt ++ x) ++ closing s) (same_shown (s.kind == 1) d h.shown k.shown h.is_shown k.is_shown) ∙ sym k.whole

same_digest : (s : SignedValue) (d : List ℕ) (x y : Digest) → HasDigest s d x → HasDigest s d y → x ≡ y
same_digest s d x y h k =
    h.made ∙ ap (λ (o : List ℕ). digest_under s.hash o) (same_octets s d h.octets k.octets h.hashes k.hashes) ∙ sym k.made

-- a text that is hashed is one
text_shown : (s : SignedValue) (d o : List ℕ) → HashesDocument s d o → s.kind ≡ 1 → (text : List ℕ) × HasText d text
text_shown s d o h kind =
    (h.shown, subst (λ (b : Bool). IsHashedAs b d h.shown) (eq-eqb s.kind 1 kind) h.is_shown)

no_text : (s : SignedValue) (d : List ℕ) (x : Digest) → HasDigest s d x → HasNoText s d → ⊥
no_text s d x h n =
    let t = text_shown s d h.octets h.hashes n.kind in
    n.none t.0 t.1

both : (b : Bool) → b ≡ true → b ≡ false → ⊥
both b t f = true≢false (sym t ∙ f)

pub one_answer : (o : Option SignedValue) (d : List ℕ) (a b : Result Digest DocumentWhy) → IsAnswer o d a → IsAnswer o d b → a ≡ b
one_answer None d (Ok x) b h k = absurd h
one_answer None d (Err Opaque) (Ok y) h k = absurd k
one_answer None d (Err Opaque) (Err Opaque) h k = refl
one_answer None d (Err Opaque) (Err Kind) h k = absurd k
one_answer None d (Err Opaque) (Err Hash) h k = absurd k
one_answer None d (Err Opaque) (Err LineEnds) h k = absurd k
one_answer None d (Err Kind) b h k = absurd h
one_answer None d (Err Hash) b h k = absurd h
one_answer None d (Err LineEnds) b h k = absurd h
one_answer (Some s) d (Ok x) (Ok y) h k = ap (λ (z : Digest). Ok z) (same_digest s d x y h k)
one_answer (Some s) d (Ok x) (Err Opaque) h k = absurd k
one_answer (Some s) d (Ok x) (Err Kind) h k = absurd (k h.hashes.kind)
one_answer (Some s) d (Ok x) (Err Hash) h k = absurd (both _ h.supported k.1)
one_answer (Some s) d (Ok x) (Err LineEnds) h k = absurd (no_text s d x h k)
one_answer (Some s) d (Err Opaque) b h k = absurd h
one_answer (Some s) d (Err Kind) (Ok y) h k = absurd (h k.hashes.kind)
one_answer (Some s) d (Err Kind) (Err Opaque) h k = absurd k
one_answer (Some s) d (Err Kind) (Err Kind) h k = refl
one_answer (Some s) d (Err Kind) (Err Hash) h k = absurd (h k.0)
one_answer (Some s) d (Err Kind) (Err LineEnds) h k = absurd (h (inr k.kind))
one_answer (Some s) d (Err Hash) (Ok y) h k = absurd (both _ k.supported h.1)
one_answer (Some s) d (Err Hash) (Err Opaque) h k = absurd k
one_answer (Some s) d (Err Hash) (Err Kind) h k = absurd (k h.0)
one_answer (Some s) d (Err Hash) (Err Hash) h k = refl
one_answer (Some s) d (Err Hash) (Err LineEnds) h k = absurd (both _ k.supported h.1)
one_answer (Some s) d (Err LineEnds) (Ok y) h k = absurd (no_text s d y k h)
one_answer (Some s) d (Err LineEnds) (Err Opaque) h k = absurd k
one_answer (Some s) d (Err LineEnds) (Err Kind) h k = absurd (k (inr h.kind))
one_answer (Some s) d (Err LineEnds) (Err Hash) h k = absurd (both _ h.supported k.1)
one_answer (Some s) d (Err LineEnds) (Err LineEnds) h k = refl
