-- The fields of octets of a subpacket's data lie where its values say.
use Rattle.std.proofs.Common.{◌≡◌, ◌∙◌, ℕ, List, [], ◌∷◌, ◌++◌, length, map, refl, sym, ap, append-nil}
use Rattle.std.specs.Prelude.{drop}
use Rattle.std.specs.Int.{w16, w32, to_be_bytes}
use Rattle.std.proofs.Math.Seq.{drop-append_seam}
use Rattle.opgp_packet.specs.Forms.{Form, Fields, IsOf}
use Rattle.opgp_packet.specs.Forms as form
use Rattle.opgp_tables.specs.Parts.{cuts}
use Rattle.opgp_tables.specs.SubpacketValues.{before_octets, octets_in}
use Rattle.opgp_tables.proofs.Cutting.{cut_all}

-- two pieces behind others
two_behind : (o before a b : List ℕ) → o ≡ before ++ (a ++ b) → cuts o (length before) (length a ∷ length b ∷ []) ≡ a ∷ b ∷ []
two_behind o before a b e = cut_all o (length before) (a ∷ b ∷ []) []
    (ap (λ (l : List ℕ). drop (length before) l) e ∙ drop-append_seam before (a ++ b)
    ∙ ap (λ (l : List ℕ). a ++ l) (sym (append-nil b)) ∙ sym (append-nil (a ++ (b ++ []))))

-- one piece behind others
one_behind : (o before a rest : List ℕ) → o ≡ before ++ (a ++ rest) → cuts o (length before) (length a ∷ 0 ∷ []) ≡ a ∷ [] ∷ []
one_behind o before a rest e = cut_all o (length before) (a ∷ [] ∷ []) rest
    (ap (λ (l : List ℕ). drop (length before) l) e ∙ drop-append_seam before (a ++ rest)
    ∙ ap (λ (l : List ℕ). l ++ rest) (sym (append-nil a)))

-- the last piece
last : (o before a : List ℕ) → o ≡ before ++ a → cuts o (length before) (length a ∷ 0 ∷ []) ≡ a ∷ [] ∷ []
last o before a e = one_behind o before a [] (e ∙ ap (λ (l : List ℕ). before ++ l) (sym (append-nil a)))

pub fields_lie : (f : Form) (o : List ℕ) (x : Fields f) → IsOf f o x → cuts o (before_octets f) (map length (octets_in f x)) ≡ octets_in f x
fields_lie form.number o n is = refl
fields_lie form.octet o n is = refl
fields_lie form.two_octets o x is = refl
fields_lie form.ended_text o text is = one_behind o [] text (0 ∷ []) is
fields_lie form.octets o x is = last o [] x is
fields_lie form.revoker o x is = last o (x.0 ∷ x.1 ∷ []) x.2 is.0
fields_lie form.key_id o id is = last o [] id is.0
fields_lie form.notation o x is = two_behind o (to_be_bytes w32 x.0 ++ (to_be_bytes w16 (length x.1) ++ to_be_bytes w16 (length x.2))) x.1 x.2 is.3
fields_lie form.code_and_text o x is = last o (x.0 ∷ []) x.1 is
fields_lie form.target o x is = last o (x.0 ∷ x.1 ∷ []) x.2 is
fields_lie form.signature o body is = last o [] body is.0
fields_lie form.fingerprint o x is = last o (x.0 ∷ []) x.1 is.0
fields_lie form.pairs o x is = last o [] x is.0
