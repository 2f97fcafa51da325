-- What is read line after line is what the grammar has, and the faults too.
use Rattle.std.proofs.Common.{◌≡◌, ◌∙◌, ◌⊎◌, ℕ, ◌+◌, ◌<◌, ◌≤◌, true, false, List, [], ◌∷◌, ◌++◌, length, None, refl, sym, ap, subst, inl, inr, arith, append_assoc}
use Rattle.std.proofs.lemmas.Bool.{cases_Bool, le-ltb, lt-ltb, ltb-true, ltb-false}
use Rattle.std.specs.Prelude.{nat_lt}
use Rattle.std.specs.List.{AllByRecursion, AllZip}
use Rattle.opgp_armor.specs.Text.{Line, content, offset}
use Rattle.opgp_octets.specs.declared.fault.Reason.{Reason}
use Rattle.opgp_octets.specs.declared.fault.Reason.TheVariants as reason
use Rattle.opgp_cleartext.specs.Cleartext.{IsBegin, IsBlank, IsHashLine, IsSignatureLine, Says, message_line}
use Rattle.opgp_cleartext.specs.Faults.{Situation, InFront, Headers, Text, LeadsTo, MayCome, reason_of, short_reason}
use Rattle.opgp_cleartext.specs.Hashes.{is_hash_header}
use Rattle.opgp_cleartext.specs.Line.{SaysLine, shown_of, without_return}
use Rattle.opgp_cleartext.specs.Machine.{Step, Next, Last, Refused, closing, escaped_end, front_end, headers_end, short_step, step, text_turn, turn}
use Rattle.opgp_cleartext.proofs.Blanks.{read_back}
use Rattle.opgp_cleartext.proofs.Turns.{clean_line, front_last, front_next, front_refused, hash_end, headers_last, headers_next, headers_refused, shown_is, sign_unescaped, text_clean, text_last, text_next, text_refused}
use Rattle.opgp_cleartext.proofs.Walking.{step_long, step_within}

-- ---- a line that isn't too long
pub record Short (most : ℕ) (s : Situation) (l : Line) (r : Step) : Type 0 where
  pub within : length l ≤ most
  pub is : short_step s l ≡ r

pub long_or_short : (most : ℕ) (s : Situation) (l : Line) (r : Step) → step most s l ≡ r → ((most < length l) × (r ≡ Refused reason.LineTooLong)) ⊎ Short most s l r
long_or_short most s l r h = elim (cases_Bool (nat_lt most (length l))) [
  | inl y ↦ let long = ltb-true most (length l) y in inl (long, sym h ∙ step_long most s l long)
  | inr n ↦ let within = ltb-false most (length l) n in inr (record { within = within; is = sym (step_within most s l within) ∙ h })
]

pub short_next : (most : ℕ) (s t : Situation) (l : Line) → step most s l ≡ Next t → Short most s l (Next t)
short_next most s t l h = elim (long_or_short most s l (Next t) h) [
  | inl e ↦ let f = e.1 in absurd cc
  | inr is ↦ is
]

pub short_last : (most : ℕ) (s : Situation) (d : List (List ℕ)) (l : Line) → step most s l ≡ Last d → Short most s l (Last d)
short_last most s d l h = elim (long_or_short most s l (Last d) h) [
  | inl e ↦ let f = e.1 in absurd cc
  | inr is ↦ is
]

-- ---- lists of lines, with one more
pub each_more : {X : Type 0} (P : X → Type 0) (xs : List X) (x : X) → AllByRecursion P xs → P x → AllByRecursion P (xs ++ x ∷ [])
each_more P [] x all p = (p, tt)
each_more P (y ∷ xs) x all p = (all.0, each_more P xs x all.1 p)

zip_more : {X Y : Type 0} (R : X → Y → Type 0) (xs : List X) (ys : List Y) (x : X) (y : Y) → AllZip R xs ys → R x y → AllZip R (xs ++ x ∷ []) (ys ++ y ∷ [])
zip_more R [] [] x y all p = (p, tt)
zip_more R [] (b ∷ ys) x y all p = absurd all
zip_more R (a ∷ xs) [] x y all p = absurd all
zip_more R (a ∷ xs) (b ∷ ys) x y all p = (all.0, zip_more R xs ys x y all.1 p)

pub offset-push : (ls : List Line) (l : Line) → offset (ls ++ l ∷ []) ≡ offset ls + (length l + 1)
offset-push [] l = omega arith
offset-push (m ∷ ls) l = omega (arith, offset-push ls l)

pub offset-append : (ls ms : List Line) → offset (ls ++ ms) ≡ offset ls + offset ms
offset-append [] ms = omega arith
offset-append (l ∷ ls) ms = omega (arith, offset-append ls ms)

-- ---- where a line leads
to_front : (most : ℕ) (ls : List Line) (l : Line) (t : Situation) → LeadsTo most ls InFront → length l ≤ most
    → ((content l ≡ []) × (t ≡ InFront)) ⊎ ((content l ≡ message_line) × (t ≡ Headers)) → LeadsTo most (ls ++ l ∷ []) t
to_front most ls l t leads w (inl e) = subst (LeadsTo most (ls ++ l ∷ [])) (sym e.1) (each_more (IsBlank most) ls l leads (record { blank = e.0; within = w }))
to_front most ls l t leads w (inr e) = subst (LeadsTo most (ls ++ l ∷ [])) (sym e.1) (record {
  blanks = ls;
  begin = l;
  headers = [];
  are = refl;
  are_blanks = leads;
  is_begin = record { begins = e.0; within = w };
  are_headers = tt;
})

to_headers : (most : ℕ) (ls : List Line) (l : Line) (t : Situation) → LeadsTo most ls Headers → length l ≤ most
    → ((content l ≡ []) × (t ≡ Text [])) ⊎ ((is_hash_header (content l) ≡ true) × (t ≡ Headers)) → LeadsTo most (ls ++ l ∷ []) t
to_headers most ls l t leads w (inl e) = subst (LeadsTo most (ls ++ l ∷ [])) (sym e.1) (record {
  head = ls;
  gap = l;
  said = [];
  are = refl;
  is_head = leads;
  is_gap = record { blank = e.0; within = w };
  are_said = tt;
})
to_headers most ls l t leads w (inr e) = subst (LeadsTo most (ls ++ l ∷ [])) (sym e.1) (record {
  blanks = leads.blanks;
  begin = leads.begin;
  headers = leads.headers ++ l ∷ [];
  are = ap (λ (ms : List Line). ms ++ l ∷ []) leads.are ∙ append_assoc leads.blanks (leads.begin ∷ leads.headers) (l ∷ []);
  are_blanks = leads.are_blanks;
  is_begin = leads.is_begin;
  are_headers = each_more (IsHashLine most) leads.headers l leads.are_headers (record { names = e.0; within = w });
})

to_text : (most : ℕ) (ls : List Line) (d : List (List ℕ)) (l : Line) (t : Situation) → LeadsTo most ls (Text d) → length l ≤ most
    → (t ≡ Text (d ++ shown_of l ∷ [])) × SaysLine (without_return l) (shown_of l) → LeadsTo most (ls ++ l ∷ []) t
to_text most ls d l t leads w e = subst (LeadsTo most (ls ++ l ∷ [])) (sym e.0) (record {
  head = leads.head;
  gap = leads.gap;
  said = leads.said ++ l ∷ [];
  are = ap (λ (ms : List Line). ms ++ l ∷ []) leads.are ∙ append_assoc leads.head (leads.gap ∷ leads.said) (l ∷ []);
  is_head = leads.is_head;
  is_gap = leads.is_gap;
  are_said = zip_more (Says most) leads.said d l (shown_of l) leads.are_said (record { says = e.1; within = w });
})

pub leads_next : (most : ℕ) (ls : List Line) (s t : Situation) (l : Line) → LeadsTo most ls s → step most s l ≡ Next t → LeadsTo most (ls ++ l ∷ []) t
leads_next most ls InFront t l leads h =
    let k = short_next most InFront t l h in
    to_front most ls l t leads k.within (front_next l (content l) t k.is)
leads_next most ls Headers t l leads h =
    let k = short_next most Headers t l h in
    to_headers most ls l t leads k.within (headers_next (content l) t k.is)
leads_next most ls (Text d) t l leads h =
    let k = short_next most (Text d) t l h in
    to_text most ls d l t leads k.within (text_next d l t k.is)

-- ---- the line that begins the signatures
pub record Signs (most : ℕ) (s : Situation) (l : Line) (d : List (List ℕ)) : Type 0 where
  pub text : s ≡ Text d
  pub some : 0 < length d
  pub is : IsSignatureLine most l

pub signs : (most : ℕ) (s : Situation) (l : Line) (d : List (List ℕ)) → step most s l ≡ Last d → Signs most s l d
signs most InFront l d h = let k = short_last most InFront d l h in absurd (front_last l (content l) d k.is)
signs most Headers l d h = let k = short_last most Headers d l h in absurd (headers_last (content l) d k.is)
signs most (Text e) l d h =
    let k = short_last most (Text e) d l h in
    let g = text_last e d l k.is in
    record { text = ap Text (sym g.0); some = subst (λ (x : List (List ℕ)). 0 < length x) (sym g.0) g.1; is = record { begins = g.2; clean = g.3; within = k.within } }

-- ---- lines that may come
pub blank_front : (most : ℕ) (l : Line) → IsBlank most l → step most InFront l ≡ Next InFront
blank_front most l is = step_within most InFront l is.within ∙ ap (λ (x : List ℕ). turn Headers InFront (front_end l x)) is.blank

pub begin_front : (most : ℕ) (l : Line) → IsBegin most l → step most InFront l ≡ Next Headers
begin_front most l is = step_within most InFront l is.within ∙ ap (λ (x : List ℕ). turn Headers InFront (front_end l x)) is.begins

pub blank_headers : (most : ℕ) (l : Line) → IsBlank most l → step most Headers l ≡ Next (Text [])
blank_headers most l is = step_within most Headers l is.within ∙ ap (λ (x : List ℕ). turn (Text []) Headers (headers_end x)) is.blank

pub hash_headers : (most : ℕ) (l : Line) → IsHashLine most l → step most Headers l ≡ Next Headers
hash_headers most l is = step_within most Headers l is.within ∙ ap (turn (Text []) Headers) (hash_end (content l) is.names)

pub says_text : (most : ℕ) (d : List (List ℕ)) (l : Line) (shown : List ℕ) → Says most l shown → step most (Text d) l ≡ Next (Text (d ++ shown ∷ []))
says_text most d l shown is =
    let bare : List ℕ = without_return l in
    let r = read_back bare shown is.says in
    let same : shown_of l ≡ shown = shown_is l r.0 r.1 ∙ r.3 in
    step_within most (Text d) l is.within
    ∙ ap (text_turn d l) (text_clean l (clean_line bare r.0 r.1 r.2) ∙ ap (λ u. escaped_end u (content l)) r.1)
    ∙ ap (λ (x : List ℕ). Next (Text (d ++ x ∷ []))) same

some_closing : (d : List (List ℕ)) → 0 < length d → closing d ≡ Last d
some_closing [] some = absurd (omega arith)
some_closing (s ∷ ss) some = refl

pub signature_text : (most : ℕ) (d : List (List ℕ)) (l : Line) → IsSignatureLine most l → 0 < length d → step most (Text d) l ≡ Last d
signature_text most d l is some =
    step_within most (Text d) l is.within
    ∙ ap (text_turn d l) (text_clean l is.clean ∙ ap (λ u. escaped_end u (content l)) (sign_unescaped l is.begins) ∙ ap (λ (x : List ℕ). escaped_end None x) is.begins)
    ∙ some_closing d some

pub not_refused : (most : ℕ) (s : Situation) (l : Line) (why : Reason) → step most s l ≡ Refused why → MayCome most s l → ⊥
not_refused most InFront l why h (inl m) = let g = sym (blank_front most l m) ∙ h in cc
not_refused most InFront l why h (inr m) = let g = sym (begin_front most l m) ∙ h in cc
not_refused most Headers l why h (inl m) = let g = sym (blank_headers most l m) ∙ h in cc
not_refused most Headers l why h (inr m) = let g = sym (hash_headers most l m) ∙ h in cc
not_refused most (Text d) l why h (inl m) = let g = sym (says_text most d l m.0 m.1) ∙ h in cc
not_refused most (Text d) l why h (inr m) = let g = sym (signature_text most d l m.0 m.1) ∙ h in cc

-- ---- lines that may not
short_why : (s : Situation) (l : Line) (why : Reason) → short_step s l ≡ Refused why → why ≡ short_reason s l
short_why InFront l why h = front_refused l (content l) why h
short_why Headers l why h = headers_refused (content l) why h
short_why (Text d) l why h = text_refused d l why h

reason_long : (most : ℕ) (s : Situation) (l : Line) → most < length l → reason_of most s l ≡ reason.LineTooLong
reason_long most s l h = let y : nat_lt most (length l) ≡ true = lt-ltb most (length l) h in rw y refl

reason_short : (most : ℕ) (s : Situation) (l : Line) → length l ≤ most → reason_of most s l ≡ short_reason s l
reason_short most s l h = let n : nat_lt most (length l) ≡ false = le-ltb most (length l) h in rw n refl

pub refused_why : (most : ℕ) (s : Situation) (l : Line) (why : Reason) → step most s l ≡ Refused why → why ≡ reason_of most s l
refused_why most s l why h = elim (long_or_short most s l (Refused why) h) [
  | inl e ↦ let f = e.1 in let g : why ≡ reason.LineTooLong = cc in g ∙ sym (reason_long most s l e.0)
  | inr k ↦ short_why s l why k.is ∙ sym (reason_short most s l k.within)
]

-- a line that may not come is refused
front_may : (most : ℕ) (l : Line) (t : Situation) → length l ≤ most → ((content l ≡ []) × (t ≡ InFront)) ⊎ ((content l ≡ message_line) × (t ≡ Headers)) → MayCome most InFront l
front_may most l t w (inl e) = inl (record { blank = e.0; within = w })
front_may most l t w (inr e) = inr (record { begins = e.0; within = w })

headers_may : (most : ℕ) (l : Line) (t : Situation) → length l ≤ most → ((content l ≡ []) × (t ≡ Text [])) ⊎ ((is_hash_header (content l) ≡ true) × (t ≡ Headers)) → MayCome most Headers l
headers_may most l t w (inl e) = inl (record { blank = e.0; within = w })
headers_may most l t w (inr e) = inr (record { names = e.0; within = w })

next_may : (most : ℕ) (s t : Situation) (l : Line) → step most s l ≡ Next t → MayCome most s l
next_may most InFront t l h = let k = short_next most InFront t l h in front_may most l t k.within (front_next l (content l) t k.is)
next_may most Headers t l h = let k = short_next most Headers t l h in headers_may most l t k.within (headers_next (content l) t k.is)
next_may most (Text d) t l h =
    let k = short_next most (Text d) t l h in
    inl (shown_of l, record { says = (text_next d l t k.is).1; within = k.within })

last_may : (most : ℕ) (s : Situation) (d : List (List ℕ)) (l : Line) → step most s l ≡ Last d → MayCome most s l
last_may most InFront d l h = let k = short_last most InFront d l h in absurd (front_last l (content l) d k.is)
last_may most Headers d l h = let k = short_last most Headers d l h in absurd (headers_last (content l) d k.is)
last_may most (Text e) d l h =
    let k = short_last most (Text e) d l h in
    let g = text_last e d l k.is in
    inr (record { begins = g.2; clean = g.3; within = k.within }, g.1)

stopped : (most : ℕ) (s : Situation) (l : Line) (r : Step) → step most s l ≡ r → (MayCome most s l → ⊥) → step most s l ≡ Refused (reason_of most s l)
stopped most s l (Next t) h no_line = absurd (no_line (next_may most s t l h))
stopped most s l (Last d) h no_line = absurd (no_line (last_may most s d l h))
stopped most s l (Refused why) h no_line = h ∙ ap Refused (refused_why most s l why h)

pub may_not : (most : ℕ) (s : Situation) (l : Line) → (MayCome most s l → ⊥) → step most s l ≡ Refused (reason_of most s l)
may_not most s l no_line = stopped most s l (step most s l) refl no_line
