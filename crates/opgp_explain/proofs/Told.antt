-- Fields told one after the other are told together.
use Rattle.std.proofs.Common.{◌≡◌, ℕ, ◌+◌, List, [], ◌∷◌, ◌++◌, length, refl, sym, ap, ◌∙◌, append_assoc, arith, length-append}
use Rattle.std.proofs.lemmas.List.{append-nil}
use Rattle.opgp_explain.specs.Field.{FieldValue, octets_of, placed}
use Rattle.opgp_explain.specs.Telling.{Tells}
use Rattle.opgp_explain.specs.declared.field.Field.{Field}
use Rattle.opgp_explain.specs.declared.telling.Telling.{Telling}

pub octets_append : (xs ys : List FieldValue) → octets_of (xs ++ ys) ≡ octets_of xs ++ octets_of ys
octets_append [] ys = refl
octets_append (x ∷ xs) ys = ap (λ (o : List ℕ). x.octets ++ o) (octets_append xs ys) ∙ sym (append_assoc x.octets (octets_of xs) (octets_of ys))

pub placed_append : (n : ℕ) (xs ys : List FieldValue) → placed n (xs ++ ys) ≡ placed n xs ++ placed (n + length (octets_of xs)) ys
placed_append n [] ys = ap (λ (m : ℕ). placed m ys) (omega arith)
placed_append n (x ∷ xs) ys =
    let first : Field = record { offset = n; length = length x.octets; meaning = x.meaning } in
    let here : placed (n + length x.octets) (xs ++ ys) ≡ placed (n + length x.octets) xs ++ placed (n + length x.octets + length (octets_of xs)) ys = placed_append (n + length x.octets) xs ys in
    let size : n + length x.octets + length (octets_of xs) ≡ n + length (x.octets ++ octets_of xs) = rw (length-append x.octets (octets_of xs)) (omega arith) in
    ap (λ (l : List Field). first ∷ l) (here ∙ ap (λ (m : ℕ). placed (n + length x.octets) xs ++ placed m ys) size)

pub told_none : (a : Telling) → Tells a a []
told_none a = record { fields = sym (append-nil a.fields.items); end = omega arith }

pub told_both : {a b c : Telling} {xs ys : List FieldValue} → Tells a b xs → Tells b c ys → Tells a c (xs ++ ys)
told_both {a} {b} {c} {xs} {ys} t u = record {
  fields =
      u.fields
      ∙ ap (λ (l : List Field). l ++ placed b.end ys) t.fields
      ∙ append_assoc a.fields.items (placed a.end xs) (placed b.end ys)
      ∙ ap (λ (m : ℕ). a.fields.items ++ (placed a.end xs ++ placed m ys)) t.end
      ∙ ap (λ (l : List Field). a.fields.items ++ l) (sym (placed_append a.end xs ys));
  end =
      let total : length (octets_of (xs ++ ys)) ≡ length (octets_of xs) + length (octets_of ys) = ap length (octets_append xs ys) ∙ length-append (octets_of xs) (octets_of ys) in
      let first = t.end in
      let second = u.end in
      omega arith;
}

pub placed_first : (xs ys : List FieldValue) → placed 0 (xs ++ ys) ≡ placed 0 xs ++ placed (length (octets_of xs)) ys
placed_first xs ys = placed_append 0 xs ys ∙ ap (λ (m : ℕ). placed 0 xs ++ placed m ys) (omega arith)

-- all that was told, where nothing was before
pub told_all : (a b : Telling) (told : List FieldValue) → a.fields.items ≡ [] → a.end ≡ 0 → Tells a b told → b.fields.items ≡ placed 0 told
told_all a b told none zero t =
    t.fields
    ∙ ap (λ (l : List Field). l ++ placed a.end told) none
    ∙ ap (λ (m : ℕ). placed m told) zero
