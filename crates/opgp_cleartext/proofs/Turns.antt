-- What one line does, and what it is then.
use Rattle.std.proofs.Common.{◌≡◌, ◌∙◌, ◌⊎◌, ℕ, ◌<◌, true, false, if◌then◌else◌, List, [], ◌∷◌, ◌++◌, length, Ok, Err, Option, Some, None, unwrap_or, refl, sym, ap, subst, inl, inr, arith}
use Rattle.std.proofs.lemmas.Bool.{cases_Bool}
use Rattle.std.proofs.lemmas.Slice.Eq.{bytes_eq-Decides}
use Rattle.std.specs.Str.{bytes_eq}
use Rattle.opgp_armor.specs.Text.{Line, content, is_trailing, strip}
use Rattle.opgp_octets.specs.declared.fault.Reason.{Reason}
use Rattle.opgp_octets.specs.declared.fault.Reason.TheVariants as reason
use Rattle.opgp_cleartext.specs.Cleartext.{message_line, signature_line}
use Rattle.opgp_cleartext.specs.Faults.{Situation, InFront, Headers, Text, short_reason}
use Rattle.opgp_cleartext.specs.Hashes.{is_hash_header}
use Rattle.opgp_cleartext.specs.Line.{SaysLine, has_return, is_return, shown_of, unescaped_of, without_blanks, without_return}
use Rattle.opgp_cleartext.specs.Machine.{Next, Last, Refused, closing, escaped_end, front_end, headers_end, text_end, text_turn, turn}
use Rattle.opgp_cleartext.proofs.Blanks.{how, said}

-- ---- in front
pub front_next : (l x : List ℕ) (t : Situation) → turn Headers InFront (front_end l x) ≡ Next t
    → ((x ≡ []) × (t ≡ InFront)) ⊎ ((x ≡ message_line) × (t ≡ Headers))
front_next l [] t h = inl (refl, cc)
front_next l (c ∷ cs) t h = elim (cases_Bool (bytes_eq (c ∷ cs) message_line)) [
  | inl y ↦ inr ((bytes_eq-Decides (c ∷ cs) message_line).0 y, (let g = rw y at h in cc))
  | inr n ↦ let g = rw n at h in cc
]

pub front_last : (l x : List ℕ) (d : List (List ℕ)) → turn Headers InFront (front_end l x) ≡ Last d → ⊥
front_last l [] d h = cc
front_last l (c ∷ cs) d h = elim (cases_Bool (bytes_eq (c ∷ cs) message_line)) [
  | inl y ↦ let g = rw y at h in cc
  | inr n ↦ let g = rw n at h in cc
]

pub front_refused : (l x : List ℕ) (why : Reason) → turn Headers InFront (front_end l x) ≡ Refused why → why ≡ short_reason InFront l
front_refused l [] why h = absurd cc
front_refused l (c ∷ cs) why h = elim (cases_Bool (bytes_eq (c ∷ cs) message_line)) [
  | inl y ↦ let g = rw y at h in absurd cc
  | inr n ↦ let g = rw n at h in cc
]

-- ---- among the headers
pub headers_next : (x : List ℕ) (t : Situation) → turn (Text []) Headers (headers_end x) ≡ Next t
    → ((x ≡ []) × (t ≡ Text [])) ⊎ ((is_hash_header x ≡ true) × (t ≡ Headers))
headers_next [] t h = inl (refl, cc)
headers_next (c ∷ cs) t h = elim (cases_Bool (is_hash_header (c ∷ cs))) [
  | inl y ↦ inr (y, (let g = rw y at h in cc))
  | inr n ↦ let g = rw n at h in cc
]

pub headers_last : (x : List ℕ) (d : List (List ℕ)) → turn (Text []) Headers (headers_end x) ≡ Last d → ⊥
headers_last [] d h = cc
headers_last (c ∷ cs) d h = elim (cases_Bool (is_hash_header (c ∷ cs))) [
  | inl y ↦ let g = rw y at h in cc
  | inr n ↦ let g = rw n at h in cc
]

pub headers_refused : (x : List ℕ) (why : Reason) → turn (Text []) Headers (headers_end x) ≡ Refused why → why ≡ reason.Header
headers_refused [] why h = absurd cc
headers_refused (c ∷ cs) why h = elim (cases_Bool (is_hash_header (c ∷ cs))) [
  | inl y ↦ let g = rw y at h in absurd cc
  | inr n ↦ let g = rw n at h in cc
]

pub hash_end : (x : List ℕ) → is_hash_header x ≡ true → headers_end x ≡ Ok false
hash_end [] h = absurd cc
hash_end (c ∷ cs) h = rw h refl

-- ---- in the text
clean_behind : (c : ℕ) (o : List ℕ) → has_return (c ∷ o) ≡ false → has_return o ≡ false
clean_behind c o p = elim (cases_Bool (is_return c)) [
  | inl y ↦ let g = rw y at p in absurd cc
  | inr n ↦ rw n at p
]

clean_shown : (bare o : List ℕ) → unescaped_of bare ≡ Some o → has_return bare ≡ false → has_return o ≡ false
clean_shown bare o h p = elim (how bare o h) [
  | inl e ↦ ap has_return (sym e) ∙ p
  | inr e ↦ ap has_return (sym e.0) ∙ p
]

pub clean_line : (bare o : List ℕ) → unescaped_of bare ≡ Some o → has_return o ≡ false → has_return bare ≡ false
clean_line bare o h p = elim (how bare o h) [
  | inl e ↦ ap has_return e ∙ p
  | inr e ↦ ap has_return e.0 ∙ p
]

pub shown_is : (l : Line) (o : List ℕ) → unescaped_of (without_return l) ≡ Some o → shown_of l ≡ without_blanks o
shown_is l o h = ap (λ (x : Option (List ℕ)). without_blanks (unwrap_or x (without_return l))) h

-- what the text's lines are told to be
pub text_clean : (l : Line) → has_return (without_return l) ≡ false → text_end l ≡ escaped_end (unescaped_of (without_return l)) (content l)
text_clean l p = rw p refl

pub text_stray : (l : Line) → has_return (without_return l) ≡ true → text_end l ≡ Err reason.StrayReturn
text_stray l p = rw p refl

not_next : (d : List (List ℕ)) (t : Situation) → closing d ≡ Next t → ⊥
not_next [] t h = cc
not_next (s ∷ ss) t h = cc

closed_by : (d e : List (List ℕ)) → closing d ≡ Last e → (e ≡ d) × (0 < length d)
closed_by [] e h = absurd cc
closed_by (s ∷ ss) e h = (cc, omega arith)

closing_refused : (d : List (List ℕ)) (why : Reason) → closing d ≡ Refused why → why ≡ reason.NoText
closing_refused [] why h = cc
closing_refused (s ∷ ss) why h = absurd cc

-- an unescaped hyphen at the front of the line
sign_next : (d : List (List ℕ)) (l x : List ℕ) (t : Situation) → text_turn d l (escaped_end None x) ≡ Next t → ⊥
sign_next d l x t h = elim (cases_Bool (bytes_eq x signature_line)) [
  | inl y ↦ let g = rw y at h in not_next d t g
  | inr n ↦ let g = rw n at h in cc
]

sign_last : (d e : List (List ℕ)) (l x : List ℕ) → text_turn d l (escaped_end None x) ≡ Last e → (e ≡ d) × (0 < length d) × (x ≡ signature_line)
sign_last d e l x h = elim (cases_Bool (bytes_eq x signature_line)) [
  | inl y ↦ let g = closed_by d e (rw y at h) in (g.0, g.1, (bytes_eq-Decides x signature_line).0 y)
  | inr n ↦ let g = rw n at h in absurd cc
]

sign_refused : (d : List (List ℕ)) (l x : List ℕ) (why : Reason) → text_turn d l (escaped_end None x) ≡ Refused why
    → why ≡ (if bytes_eq x signature_line then reason.NoText else reason.Unescaped)
sign_refused d l x why h = elim (cases_Bool (bytes_eq x signature_line)) [
  | inl y ↦ rw y (closing_refused d why (rw y at h))
  | inr n ↦ let g = rw n at h in rw n cc
]

option_next : (d : List (List ℕ)) (l : Line) (t : Situation) (u : Option (List ℕ)) → unescaped_of (without_return l) ≡ u → has_return (without_return l) ≡ false
    → text_turn d l (escaped_end u (content l)) ≡ Next t → (t ≡ Text (d ++ shown_of l ∷ [])) × SaysLine (without_return l) (shown_of l)
option_next d l t None e p h = absurd (sign_next d l (content l) t h)
option_next d l t (Some o) e p h = (
  cc,
  subst (λ (x : List ℕ). SaysLine (without_return l) x) (sym (shown_is l o e)) (said (without_return l) o e (clean_shown (without_return l) o e p)),
)

pub text_next : (d : List (List ℕ)) (l : Line) (t : Situation) → text_turn d l (text_end l) ≡ Next t
    → (t ≡ Text (d ++ shown_of l ∷ [])) × SaysLine (without_return l) (shown_of l)
text_next d l t h = elim (cases_Bool (has_return (without_return l))) [
  | inl y ↦ let g = sym (ap (text_turn d l) (text_stray l y)) ∙ h in absurd cc
  | inr n ↦ option_next d l t (unescaped_of (without_return l)) refl n (sym (ap (text_turn d l) (text_clean l n)) ∙ h)
]

option_last : (d e : List (List ℕ)) (l : Line) (u : Option (List ℕ)) → text_turn d l (escaped_end u (content l)) ≡ Last e
    → (e ≡ d) × (0 < length d) × (content l ≡ signature_line)
option_last d e l None h = sign_last d e l (content l) h
option_last d e l (Some o) h = absurd cc

pub text_last : (d e : List (List ℕ)) (l : Line) → text_turn d l (text_end l) ≡ Last e
    → (e ≡ d) × (0 < length d) × (content l ≡ signature_line) × (has_return (without_return l) ≡ false)
text_last d e l h = elim (cases_Bool (has_return (without_return l))) [
  | inl y ↦ let g = sym (ap (text_turn d l) (text_stray l y)) ∙ h in absurd cc
  | inr n ↦ let g = option_last d e l (unescaped_of (without_return l)) (sym (ap (text_turn d l) (text_clean l n)) ∙ h) in (g.0, g.1, g.2, n)
]

option_refused : (d : List (List ℕ)) (l : Line) (why : Reason) (u : Option (List ℕ)) → text_turn d l (escaped_end u (content l)) ≡ Refused why
    → why ≡ (if bytes_eq (content l) signature_line then reason.NoText else reason.Unescaped)
option_refused d l why None h = sign_refused d l (content l) why h
option_refused d l why (Some o) h = absurd cc

pub text_refused : (d : List (List ℕ)) (l : Line) (why : Reason) → text_turn d l (text_end l) ≡ Refused why → why ≡ short_reason (Text d) l
text_refused d l why h = elim (cases_Bool (has_return (without_return l))) [
  | inl y ↦ let g = sym (ap (text_turn d l) (text_stray l y)) ∙ h in rw y cc
  | inr n ↦ rw n (option_refused d l why (unescaped_of (without_return l)) (sym (ap (text_turn d l) (text_clean l n)) ∙ h))
]

-- ---- the line that begins the signatures isn't escaped
pub record Longer (l : List ℕ) (a b : ℕ) : Type 0 where
  pub third : ℕ
  pub more : List ℕ
  pub is : l ≡ a ∷ b ∷ third ∷ more

strip_first : (c : ℕ) (x : List ℕ) (a b : ℕ) (y : List ℕ) → strip c x ≡ a ∷ b ∷ y → (c ≡ a) × (x ≡ b ∷ y)
strip_first c [] a b y h = elim (cases_Bool (is_trailing c)) [
  | inl t ↦ let g = rw t at h in absurd cc
  | inr n ↦ let g = rw n at h in absurd cc
]
strip_first c (d ∷ ds) a b y h = (cc, cc)

strip_some : (c : ℕ) (x : List ℕ) (a : ℕ) (y : List ℕ) → strip c x ≡ a ∷ y → c ≡ a
strip_some c [] a y h = elim (cases_Bool (is_trailing c)) [
  | inl t ↦ let g = rw t at h in absurd cc
  | inr n ↦ let g = rw n at h in cc
]
strip_some c (d ∷ ds) a y h = cc

content_long : (l : List ℕ) (a b z : ℕ) (y : List ℕ) → content l ≡ a ∷ b ∷ z ∷ y → Longer l a b
unfolding content
content_long [] a b z y h = absurd cc
content_long (c ∷ []) a b z y h = let g = strip_first c [] a b (z ∷ y) h in absurd cc
content_long (c ∷ d ∷ []) a b z y h =
    let g = strip_first c (content (d ∷ [])) a b (z ∷ y) h in
    let f = strip_first d [] b z y g.1 in
    absurd cc
content_long (c ∷ d ∷ e ∷ l) a b z y h =
    let g = strip_first c (content (d ∷ e ∷ l)) a b (z ∷ y) h in
    let f = strip_first d (content (e ∷ l)) b z y g.1 in
    let both : c ∷ d ∷ e ∷ l ≡ a ∷ b ∷ e ∷ l = ap (λ (x : ℕ). x ∷ d ∷ e ∷ l) g.0 ∙ ap (λ (x : ℕ). a ∷ x ∷ e ∷ l) f.0 in
    record { third = e; more = l; is = both }

bare_dashes : (e : ℕ) (l : List ℕ) → unescaped_of (without_return (45 ∷ 45 ∷ e ∷ l)) ≡ None
unfolding without_return
bare_dashes e l = refl

pub sign_unescaped : (l : Line) → content l ≡ signature_line → unescaped_of (without_return l) ≡ None
sign_unescaped l h =
    let g = content_long l 45 45 45 _ h in
    ap (λ (x : List ℕ). unescaped_of (without_return x)) g.is ∙ bare_dashes g.third g.more
