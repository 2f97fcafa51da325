-- One data line: what it gives is right, and it refuses nothing that can go on.
use Rattle.std.proofs.Common.{◌≡◌, ℕ, ◌+◌, ◌*◌, ◌/◌, ◌%◌, ◌==◌, ◌<◌, ◌≤◌, nat_lt, Bool, true, false, not, ◌&&◌, ◌||◌, List, [], ◌∷◌, ◌++◌, length, take, refl, sym, ap, ◌∙◌, arith, inl, inr, subst, Option, None, Some, Ok}
use Rattle.std.proofs.lemmas.List.{append_assoc, length-append, nil_from_length, take-append-drop, length-take-le, length-drop, take_at}
use Rattle.std.proofs.lemmas.Bool.{cases_Bool, eqb-true, ltb-false}
use Rattle.std.specs.List.{list_any, list_all}
use Rattle.base64.specs.Engines.{standard}
use Rattle.base64.specs.GeneralPurpose.{decoded_of}
use Rattle.opgp_armor.specs.Letters.{is_letter, is_equals, is_octet, may_stand, base64_of, Pending, groups_of, rest_of, after_groups, data_line}
use Rattle.opgp_armor.proofs.Octets.{AreOctets}
use Rattle.opgp_armor.proofs.Awaiting.{Holds, Awaits}
use Rattle.opgp_armor.proofs.Groups.{begins_with_equals}
use Rattle.opgp_armor.proofs.Standard.{parts_at, base64_of-nil, base64_of-append, no_equals, base64_stands, base64_size, octets_from_test, octets_test, bytes_from, letter_octet, decoded_is, decoded_some}

pub or_false : (a b : Bool) → (a || b) ≡ false → (a ≡ false) × (b ≡ false)
or_false true b h = cc h
or_false false b h = (refl, h)

pub not_false : (a : Bool) → not a ≡ false → a ≡ true
not_false true h = refl
not_false false h = cc h

-- ---- tests of a list in parts
pub all-append : {X : Type 0} (test : X → Bool) (a b : List X) → list_all test (a ++ b) ≡ (list_all test a && list_all test b)
all-append test [] b = refl
all-append test (x ∷ a) b = elim (cases_Bool (test x)) [
  | inl y ↦ rw (y, all-append test a b) refl
  | inr n ↦ rw n refl
]

pub all_parts : {X : Type 0} (test : X → Bool) (a b : List X) → list_all test (a ++ b) ≡ true → (list_all test a ≡ true) × (list_all test b ≡ true)
all_parts test [] b h = (refl, h)
all_parts test (x ∷ a) b h = elim (cases_Bool (test x)) [
  | inl y ↦ let more = all_parts test a b (rw y at h) in (rw y more.0, more.1)
  | inr n ↦ cc (rw n at h)
]

pub all_both : {X : Type 0} (test : X → Bool) (a b : List X) → list_all test a ≡ true → list_all test b ≡ true → list_all test (a ++ b) ≡ true
all_both test [] b h k = k
all_both test (x ∷ a) b h k = elim (cases_Bool (test x)) [
  | inl y ↦ rw y (all_both test a b (rw y at h) k)
  | inr n ↦ cc (rw n at h)
]

pub octets-append : (a b : List ℕ) → AreOctets a → AreOctets b → AreOctets (a ++ b)
octets-append [] b h k = k
octets-append (x ∷ a) b h k = (h.0, octets-append a b h.1 k)

pub octets_front : (a b : List ℕ) → AreOctets (a ++ b) → AreOctets a
octets_front [] b h = tt
octets_front (x ∷ a) b h = (h.0, octets_front a b h.1)

pub octets_back : (a b : List ℕ) → AreOctets (a ++ b) → AreOctets b
octets_back [] b h = h
octets_back (x ∷ a) b h = octets_back a b h.1

-- letters may stand, and what may stand and is no `=` is a letter
pub letters_stand : (s : List ℕ) → list_all is_letter s ≡ true → list_all may_stand s ≡ true
letters_stand [] h = refl
letters_stand (c ∷ s) h = elim (cases_Bool (is_letter c)) [
  | inl y ↦ rw y (letters_stand s (rw y at h))
  | inr n ↦ cc (rw n at h)
]

pub stand_letters : (s : List ℕ) → list_all may_stand s ≡ true → list_any is_equals s ≡ false → list_all is_letter s ≡ true
stand_letters [] h n = refl
stand_letters (c ∷ s) h n =
    let parts = or_false (is_equals c) (list_any is_equals s) n in
    elim (cases_Bool (is_letter c)) [
      | inl y ↦ rw y (stand_letters s (rw y at h) parts.1)
      | inr other ↦ cc (rw (other, parts.0) at h)
    ]

pub stand_octets : (s : List ℕ) → list_all may_stand s ≡ true → AreOctets s
stand_octets [] h = tt
stand_octets (c ∷ s) h = elim (cases_Bool (may_stand c)) [
  | inl y ↦ (letter_octet c y, stand_octets s (rw y at h))
  | inr n ↦ cc (rw n at h)
]

-- ---- whole groups and the rest
pub groups_length : (s : List ℕ) → length (groups_of s) ≡ 4 * (length s / 4)
groups_length s = length-take-le (4 * (length s / 4)) s (omega arith)

pub rest_length : (s : List ℕ) → length (rest_of s) < 4
rest_length s = omega (arith, length-drop (4 * (length s / 4)) s)

pub groups_rest : (s : List ℕ) → groups_of s ++ rest_of s ≡ s
groups_rest s = take-append-drop (4 * (length s / 4)) s

-- ---- the answer of whole groups
record Went (rest : List ℕ) (d : Option (List ℕ)) (x : Pending × List ℕ) : Type 0 where
  octets : List ℕ
  decoded : d ≡ Some octets
  are_octets : list_all is_octet octets ≡ true
  no_padding : list_any is_equals rest ≡ false
  last : (not (length octets % 3 == 0) && nat_lt 0 (length rest)) ≡ false
  is : x ≡ (record { letters = rest; padded = not (length octets % 3 == 0) }, octets)

after_groups_ok : (rest : List ℕ) (d : Option (List ℕ)) (x : Pending × List ℕ) → after_groups rest d ≡ Ok x → Went rest d x
after_groups_ok rest None x h = cc h
after_groups_ok rest (Some o) x h =
    let test : Bool = (not (list_all is_octet o) || list_any is_equals rest) || (not (length o % 3 == 0) && nat_lt 0 (length rest)) in
    elim (cases_Bool test) [
      | inl y ↦ cc (rw y at h)
      | inr n ↦
          let outer = or_false (not (list_all is_octet o) || list_any is_equals rest) _ n in
          let inner = or_false (not (list_all is_octet o)) _ outer.0 in
          record { octets = o; decoded = refl; are_octets = not_false _ inner.0; no_padding = inner.1; last = outer.1; is = cc (rw n at h) }
    ]

record Line (p : Pending) (content : List ℕ) (x : Pending × List ℕ) : Type 0 where
  stand : list_all may_stand content ≡ true
  open_ : p.padded ≡ false
  went : Went (rest_of (p.letters ++ content)) (decoded_of standard (groups_of (p.letters ++ content))) x

data_line_ok : (p : Pending) (content : List ℕ) (x : Pending × List ℕ) → data_line p content ≡ Ok x → Line p content x
unfolding data_line
data_line_ok p content x h = elim (cases_Bool (not (list_all may_stand content))) [
  | inl y ↦ cc (rw y at h)
  | inr n ↦ elim (cases_Bool p.padded) [
    | inl y2 ↦ cc (rw (n, y2) at h)
    | inr n2 ↦ record { stand = not_false _ n; open_ = n2; went = after_groups_ok _ _ x (rw (n, n2) at h) }
  ]
]

and_false : (a b : Bool) → (a && b) ≡ false → a ≡ true → b ≡ false
and_false true b h k = h
and_false false b h k = cc k

regroup : (l c p b g r o : List ℕ) → l ≡ b ++ p → g ++ r ≡ p ++ c → g ≡ o → l ++ c ≡ (b ++ o) ++ r
regroup l c p b g r o joined split is =
    let a : l ++ c ≡ b ++ (p ++ c) = rw joined (append_assoc b p c) in
    let k : b ++ (p ++ c) ≡ b ++ (o ++ r) = ap (λ (w : List ℕ). b ++ w) (sym split ∙ ap (λ (w : List ℕ). w ++ r) is) in
    a ∙ k ∙ sym (append_assoc b o r)

-- the octets so far, and those of the groups that this line ends
pub data_line_holds : (p : Pending) (content letters octets : List ℕ) (x : Pending × List ℕ) → Holds letters octets p
    → data_line p content ≡ Ok x → Holds (letters ++ content) (octets ++ x.1) x.0
data_line_holds p content letters octets x held ok =
    let line = data_line_ok p content x ok in
    let w = line.went in
    let all : List ℕ = p.letters ++ content in
    let stand : list_all may_stand all ≡ true = all_both may_stand p.letters content (letters_stand p.letters held.are_letters) line.stand in
    let both = all_parts may_stand (groups_of all) (rest_of all) (ap (list_all may_stand) (groups_rest all) ∙ stand) in
    let is : groups_of all ≡ base64_of w.octets = decoded_is (groups_of all) w.octets (bytes_from (groups_of all) (stand_octets _ both.0)) w.decoded in
    let test : not (length octets % 3 == 0) ≡ false = sym held.padding ∙ line.open_ in
    let whole : length octets % 3 ≡ 0 = eqb-true _ 0 (not_false _ test) in
    let e : letters ++ content ≡ (base64_of octets ++ base64_of w.octets) ++ rest_of all =
    regroup letters content p.letters (base64_of octets) (groups_of all) (rest_of all) (base64_of w.octets) held.joined (groups_rest all) is in
    let same : length w.octets % 3 ≡ length (octets ++ w.octets) % 3 = omega (arith, whole, length-append octets w.octets) in
    rw w.is (record {
      joined = e ∙ ap (λ (v : List ℕ). v ++ rest_of all) (sym (base64_of-append octets w.octets whole));
      are_octets = octets-append octets w.octets held.are_octets (octets_from_test w.octets w.are_octets);
      few = rest_length all;
      are_letters = stand_letters (rest_of all) both.1 w.no_padding;
      end = λ padded. nil_from_length (rest_of all) (let none : length (rest_of all) ≤ 0 = ltb-false 0 (length (rest_of all)) (and_false _ _ w.last padded) in omega arith);
      padding = ap (λ n. not (n == 0)) same;
    })

-- ---- what can go on isn't refused

-- what a line gives, where letters to come complete it
pub record Goes (p : Pending) (content more octets : List ℕ) : Type 0 where
  pub next : Pending
  pub out : List ℕ
  pub left : List ℕ
  pub ok : data_line p content ≡ Ok (next, out)
  pub whole : octets ≡ out ++ left
  pub awaits : Awaits next more left

after_groups_goes : (rest o : List ℕ) → list_all is_octet o ≡ true → list_any is_equals rest ≡ false → (not (length o % 3 == 0) && nat_lt 0 (length rest)) ≡ false
    → after_groups rest (Some o) ≡ Ok (record { letters = rest; padded = not (length o % 3 == 0) }, o)
after_groups_goes rest o octets none last =
    rw (octets, none, last) refl

and_right : (a : Bool) (n : ℕ) → n ≡ 0 → (a && nat_lt 0 n) ≡ false
and_right true n e = rw e refl
and_right false n e = refl

pub line_goes : (p : Pending) (content : List ℕ) (o : List ℕ) → list_all may_stand content ≡ true → p.padded ≡ false → decoded_of standard (groups_of (p.letters ++ content)) ≡ Some o
    → list_all is_octet o ≡ true → list_any is_equals (rest_of (p.letters ++ content)) ≡ false → (not (length o % 3 == 0) && nat_lt 0 (length (rest_of (p.letters ++ content)))) ≡ false
    → data_line p content ≡ Ok (record { letters = rest_of (p.letters ++ content); padded = not (length o % 3 == 0) }, o)
unfolding data_line
line_goes p content o stand not_padded decoded octets none last =
    rw (stand, not_padded, decoded) (after_groups_goes (rest_of (p.letters ++ content)) o octets none last)

pub data_line_goes : (p : Pending) (content more octets : List ℕ) → Awaits p (content ++ more) octets → begins_with_equals more ≡ false → 0 < length content
    → Goes p content more octets
data_line_goes p content more octets awaits begins some =
    let all : List ℕ = p.letters ++ content in
    let joined : base64_of octets ≡ p.letters ++ (content ++ more) = sym awaits.joined in
    let e : base64_of octets ≡ groups_of all ++ (rest_of all ++ more) =
    joined ∙ sym (append_assoc p.letters content more) ∙ ap (λ (v : List ℕ). v ++ more) (sym (groups_rest all)) ∙ append_assoc (groups_of all) (rest_of all) more in
    let parts = parts_at (length all / 4) octets (groups_of all) (rest_of all ++ more) e (groups_length all) in
    let both : AreOctets (parts.front ++ parts.back) = subst AreOctets parts.whole awaits.are_octets in
    let front_octets : AreOctets parts.front = octets_front parts.front parts.back both in
    let back_octets : AreOctets parts.back = octets_back parts.front parts.back both in
    let all_stand : list_all may_stand (p.letters ++ (content ++ more)) ≡ true = ap (list_all may_stand) awaits.joined ∙ base64_stands octets awaits.are_octets in
    let stand = (all_parts may_stand content more (all_parts may_stand p.letters (content ++ more) all_stand).1).0 in
    let empty : (o : List ℕ) (s : List ℕ) → o ≡ [] → s ≡ base64_of o → length s ≡ 0 = λ o s z is. ap length (is ∙ ap base64_of z ∙ base64_of-nil) in
    let not_padded : p.padded ≡ false = elim (cases_Bool p.padded) [
      | inl y ↦ let l = empty octets (p.letters ++ (content ++ more)) (awaits.end y) awaits.joined in
          absurd (omega (arith, length-append p.letters (content ++ more), length-append content more))
      | inr n ↦ n
    ] in
    let decoded : decoded_of standard (groups_of all) ≡ Some parts.front = ap (decoded_of standard) parts.front_is ∙ decoded_some parts.front front_octets in
    let none : list_any is_equals (rest_of all) ≡ false = no_equals parts.back (rest_of all) more back_octets (sym parts.back_is) (rest_length all) begins in
    let last : (not (length parts.front % 3 == 0) && nat_lt 0 (length (rest_of all))) ≡ false = elim parts.full [
      | inl f ↦ rw f refl
      | inr z ↦ let l = empty parts.back (rest_of all ++ more) z parts.back_is in
          and_right _ (length (rest_of all)) (omega (arith, length-append (rest_of all) more))
    ] in
    let end : not (length parts.front % 3 == 0) ≡ true → parts.back ≡ [] = λ padded. elim parts.full [
      | inl f ↦ cc (rw f at padded)
      | inr z ↦ z
    ] in
    record {
      next = record { letters = rest_of all; padded = not (length parts.front % 3 == 0) };
      out = parts.front;
      left = parts.back;
      ok = line_goes p content parts.front stand not_padded decoded (octets_test parts.front front_octets) none last;
      whole = parts.whole;
      awaits = record { joined = parts.back_is; are_octets = back_octets; few = rest_length all; end = end };
    }

-- a data line gives no more octets than it takes letters
pub record Shrinks (p : Pending) (content : List ℕ) (x : Pending × List ℕ) : Type 0 where
  pub few : length x.0.letters < 4
  pub are_letters : list_all is_letter x.0.letters ≡ true
  pub held : length x.1 + length x.0.letters ≤ length p.letters + length content

pub data_line_shrinks : (p : Pending) (content : List ℕ) (x : Pending × List ℕ) → list_all is_letter p.letters ≡ true → data_line p content ≡ Ok x → Shrinks p content x
data_line_shrinks p content x letters ok =
    let line = data_line_ok p content x ok in
    let w = line.went in
    let all : List ℕ = p.letters ++ content in
    let stand : list_all may_stand all ≡ true = all_both may_stand p.letters content (letters_stand p.letters letters) line.stand in
    let both = all_parts may_stand (groups_of all) (rest_of all) (ap (list_all may_stand) (groups_rest all) ∙ stand) in
    let is : groups_of all ≡ base64_of w.octets = decoded_is (groups_of all) w.octets (bytes_from (groups_of all) (stand_octets _ both.0)) w.decoded in
    let size = base64_size w.octets in
    let groups : length (groups_of all) ≡ 4 * size.0 = ap length is ∙ size.1 in
    let few : length w.octets ≤ 3 * size.0 = size.2 in
    let sum : length (groups_of all) + length (rest_of all) ≡ length p.letters + length content =
    sym (length-append (groups_of all) (rest_of all)) ∙ ap length (groups_rest all) ∙ length-append p.letters content in
    rw w.is (record {
      few = rest_length all;
      are_letters = stand_letters (rest_of all) both.1 w.no_padding;
      held = omega arith;
    })

-- the whole groups of the letters so far
pub holds_groups : (letters octets : List ℕ) (p : Pending) → Holds letters octets p → groups_of letters ≡ base64_of octets
holds_groups letters octets p held =
    let size = base64_size octets in
    let e : length letters ≡ length (base64_of octets) + length p.letters = ap length held.joined ∙ length-append (base64_of octets) p.letters in
    let four : length (base64_of octets) ≡ 4 * size.0 = size.1 in
    let few : length p.letters < 4 = held.few in
    let n : length (base64_of octets) ≡ 4 * (length letters / 4) = omega arith in
    ap (take (4 * (length letters / 4))) held.joined ∙ take_at (base64_of octets) p.letters (4 * (length letters / 4)) n
