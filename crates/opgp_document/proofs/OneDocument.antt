-- What a signature over a document hashes says which signature it is, and what is shown to it.
use Rattle.std.proofs.Common.{◌≡◌, ℕ, ◌^◌, ◌<◌, ◌==◌, List, [], ◌∷◌, ◌++◌, length, get_or, drop, refl, sym, ap, subst, ◌∙◌, arith, append_assoc, length-append, inl, inr}
use Rattle.std.specs.Int.{w16, w32, to_be_bytes, from_be_bytes}
use Rattle.std.proofs.lemmas.Bool.{cases_Bool}
use Rattle.std.proofs.lemmas.Nat.{from_be_bytes-to_be_bytes_4}
use Rattle.opgp_hash.specs.Hashed.{area_hashed, hashed, trailer_hashed}
use Rattle.opgp_hash.specs.QuestionValue.{salt_amount}
use Rattle.opgp_hash.specs.SignedValue.{SignedValue, signed_front}
use Rattle.opgp_document.specs.OwnOctets.{closing}
use Rattle.opgp_document.specs.HashedDocument.{HashesDocument, IsHashedAs, IsWithin, question_of}

same_front : (a b x y : List ℕ) → length a ≡ length b → a ++ x ≡ b ++ y → (a ≡ b) × (x ≡ y)
same_front [] [] x y l e = (refl, e)
same_front [] (c ∷ b) x y l e = absurd (omega (arith, l))
same_front (c ∷ a) [] x y l e = absurd (omega (arith, l))
same_front (c ∷ a) (d ∷ b) x y l e =
    let head : c ≡ d = ap (λ (o : List ℕ). get_or o 0 0) e in
    let r = same_front a b x y (omega (arith, l)) (ap (λ (o : List ℕ). drop 1 o) e) in
    (ap (λ (n : ℕ). n ∷ a) head ∙ ap (λ (o : List ℕ). d ∷ o) r.0, r.1)

same_back : (a b x y : List ℕ) → length x ≡ length y → a ++ x ≡ b ++ y → (a ≡ b) × (x ≡ y)
same_back a b x y l e = same_front a b x y (omega (arith, l, ap (λ (o : List ℕ). length o) e, length-append a x, length-append b y)) e

-- the area behind its length
same_area : (version : ℕ) (a b : List ℕ) → area_hashed version a ≡ area_hashed version b → a ≡ b
same_area version a b e = elim (cases_Bool (version == 4)) [
  | inl t ↦ (same_front (to_be_bytes w16 (length a)) (to_be_bytes w16 (length b)) a b refl (rw t at e)).1
  | inr f ↦ (same_front (to_be_bytes w32 (length a)) (to_be_bytes w32 (length b)) a b refl (rw f at e)).1
]

front_short : (s : SignedValue) → IsWithin s → length (signed_front s) < 2 ^ 32
front_short s w = elim (cases_Bool (s.version == 4)) [
  | inl t ↦ let most = rw t at w.area in rw t (omega (arith, most, length-append (to_be_bytes w16 (length s.area)) s.area))
  | inr f ↦ let most = rw f at w.area in rw f (omega (arith, most, length-append (to_be_bytes w32 (length s.area)) s.area))
]

same_signed : (s r : SignedValue) → s.version ≡ r.version → s.salt ≡ r.salt → s.kind ≡ r.kind → s.algorithm ≡ r.algorithm → s.hash ≡ r.hash → s.area ≡ r.area → s ≡ r
same_signed s r v t k g h a =
    ap (λ (x : ℕ). record { version = x; salt = s.salt; kind = s.kind; algorithm = s.algorithm; hash = s.hash; area = s.area }) v
    ∙ ap (λ (x : List ℕ). record { version = r.version; salt = x; kind = s.kind; algorithm = s.algorithm; hash = s.hash; area = s.area }) t
    ∙ ap (λ (x : ℕ). record { version = r.version; salt = r.salt; kind = x; algorithm = s.algorithm; hash = s.hash; area = s.area }) k
    ∙ ap (λ (x : ℕ). record { version = r.version; salt = r.salt; kind = r.kind; algorithm = x; hash = s.hash; area = s.area }) g
    ∙ ap (λ (x : ℕ). record { version = r.version; salt = r.salt; kind = r.kind; algorithm = r.algorithm; hash = x; area = s.area }) h
    ∙ ap (λ (x : List ℕ). record { version = r.version; salt = r.salt; kind = r.kind; algorithm = r.algorithm; hash = r.hash; area = x }) a

-- one signature, and one thing shown to it
pub one : (s r : SignedValue) (x y : List ℕ) → IsWithin s → IsWithin r → (s.salt ++ x) ++ closing s ≡ (r.salt ++ y) ++ closing r → (s ≡ r) × (x ≡ y)
one s r x y w u e =
    let tail_s : List ℕ = trailer_hashed s.version (length (signed_front s)) in
    let tail_r : List ℕ = trailer_hashed r.version (length (signed_front r)) in
    let whole : ((s.salt ++ x) ++ signed_front s) ++ tail_s ≡ ((r.salt ++ y) ++ signed_front r) ++ tail_r =
    append_assoc (s.salt ++ x) (signed_front s) tail_s ∙ e ∙ sym (append_assoc (r.salt ++ y) (signed_front r) tail_r) in
    let p = same_back ((s.salt ++ x) ++ signed_front s) ((r.salt ++ y) ++ signed_front r) tail_s tail_r refl whole in
    let version : s.version ≡ r.version = ap (λ (o : List ℕ). get_or o 0 0) p.1 in
    let counted : to_be_bytes w32 (length (signed_front s)) ≡ to_be_bytes w32 (length (signed_front r)) = ap (λ (o : List ℕ). drop 2 o) p.1 in
    let size : length (signed_front s) ≡ length (signed_front r) =
    sym (from_be_bytes-to_be_bytes_4 (length (signed_front s)) (front_short s w)) ∙ ap (λ (o : List ℕ). from_be_bytes w32 o) counted
    ∙ from_be_bytes-to_be_bytes_4 (length (signed_front r)) (front_short r u) in
    let q = same_back (s.salt ++ x) (r.salt ++ y) (signed_front s) (signed_front r) size p.0 in
    let kind : s.kind ≡ r.kind = ap (λ (o : List ℕ). get_or o 1 0) q.1 in
    let algorithm : s.algorithm ≡ r.algorithm = ap (λ (o : List ℕ). get_or o 2 0) q.1 in
    let hash : s.hash ≡ r.hash = ap (λ (o : List ℕ). get_or o 3 0) q.1 in
    let behind : area_hashed s.version s.area ≡ area_hashed r.version r.area = ap (λ (o : List ℕ). drop 4 o) q.1 in
    let area : s.area ≡ r.area = same_area r.version s.area r.area (ap (λ (v : ℕ). area_hashed v s.area) (sym version) ∙ behind) in
    let salted : length s.salt ≡ length r.salt =
    w.salt ∙ ap (λ (v : ℕ). salt_amount v s.hash) version ∙ ap (λ (n : ℕ). salt_amount r.version n) hash ∙ sym u.salt in
    let t = same_front s.salt r.salt x y salted q.0 in
    (same_signed s r version t.0 kind algorithm hash area, t.1)

pub one_document : (s r : SignedValue) (d e o : List ℕ) → IsWithin s → IsWithin r → HashesDocument s d o → HashesDocument r e o
    → (s ≡ r) × ((shown : List ℕ) × IsHashedAs (s.kind == 1) d shown × IsHashedAs (s.kind == 1) e shown)
one_document s r d e o w u h k =
    let p = one s r h.shown k.shown w u (sym h.whole ∙ k.whole) in
    (p.0, (h.shown, h.is_shown, subst (λ (z : List ℕ). IsHashedAs (s.kind == 1) e z) (sym p.1) (subst (λ (z : SignedValue). IsHashedAs (z.kind == 1) e k.shown) (sym p.0) k.is_shown)))

-- a document in memory is asked the same
pub as_asked : (s : SignedValue) (d o : List ℕ) → s.kind ≡ 0 → HashesDocument s d o → o ≡ hashed (question_of s d)
as_asked s d o z h =
    let shown : h.shown ≡ d = rw z at h.is_shown in
    h.whole ∙ ap (λ (x : List ℕ). (s.salt ++ x) ++ closing s) shown
    ∙ sym (append_assoc (s.salt ++ d) (signed_front s) (trailer_hashed s.version (length (signed_front s))))

pub asked : (s : SignedValue) (d : List ℕ) → s.kind ≡ 0 → HashesDocument s d (hashed (question_of s d))
asked s d z = record {
  kind = inl z;
  shown = d;
  is_shown = rw z refl;
  whole = append_assoc (s.salt ++ d) (signed_front s) (trailer_hashed s.version (length (signed_front s)));
}
