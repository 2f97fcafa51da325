-- Keys that are looked for by their names: what is noted of each.
use denote.Ref.{Bor}
use Rattle.std.proofs.Common.{◌≡◌, ◌∙◌, ◌+◌, ℕ, Bool, true, false, cond, List, [], ◌∷◌, ◌++◌, ◌||◌, Option, Some, None, option_map, is_some, refl, sym, ap, subst, append_assoc, if◌then◌else◌}
use Rattle.std.specs.BTreeMap.{BTreeMap}
use Rattle.std.specs.List.{list_any}
use Rattle.std.specs.Option.{unwrap_or}
use Rattle.std.specs.Str.{bytes_eq}
use Rattle.std.proofs.lemmas.List.Folds.{list_any-append}
use Rattle.std.proofs.lemmas.Slice.Eq.{bytes_eq-Decides}
use Rattle.opgp_hash.specs.Fingerprint.{print_octets}
use Rattle.opgp_hash.specs.KeyId.{id_of}
use Rattle.opgp_hash.specs.declared.fingerprints.Fingerprint.{Fingerprint}
use Rattle.opgp_report.specs.First.{print_of}
use Rattle.opgp_report.specs.Report.{certificate_keys}
use Rattle.opgp_keyring.specs.Keyring.{CertificateValue}
use Rattle.opgp_stack.specs.KeyName.{has_key, has_one_of, is_any_named, is_named, missing_from, missing_in}
use Rattle.opgp_stack.specs.WantedKeys.{AreNotes, is_among, keys_of, note_of}

abbrev pub Notes : Type 0
Notes = BTreeMap (Bor (List ℕ)) Bool

-- ---- tests
or_false : (b : Bool) → (b || false) ≡ b
or_false true = refl
or_false false = refl

or_true : (b : Bool) → (b || true) ≡ true
or_true true = refl
or_true false = refl

or_assoc : (a b c : Bool) → ((a || b) || c) ≡ (a || (b || c))
or_assoc true b c = refl
or_assoc false b c = refl

-- ---- a name is noted
same_or : (o : Option Bool) → o ≡ option_map (λ b. b || false) o
same_or None = refl
same_or (Some true) = refl
same_or (Some false) = refl

note_step : (name other : List ℕ) (notes : Notes) (had is : Bool) → bytes_eq name other ≡ is → note_of name notes ≡ Some had
    → cond is (Some true) (note_of other notes) ≡ option_map (λ b. b || is) (note_of other notes)
note_step name other notes had true e here =
    let same : name ≡ other = (bytes_eq-Decides name other).0 e in
    sym (ap (λ (x : Option Bool). option_map (λ b. b || true) x) (ap (λ (r : List ℕ). note_of r notes) (sym same) ∙ here) ∙ ap {B = Option Bool} Some (or_true had))
note_step name other notes had false e here = same_or (note_of other notes)

pub noted : (name other : List ℕ) (notes new : Notes) (had : Bool) → note_of name notes ≡ Some had → note_of other new ≡ cond (bytes_eq name other) (Some true) (note_of other notes)
    → note_of other new ≡ option_map (λ b. b || bytes_eq name other) (note_of other notes)
noted name other notes new had here e = e ∙ note_step name other notes had (bytes_eq name other) refl here

not_step : (name other : List ℕ) (notes : Notes) (is : Bool) → bytes_eq name other ≡ is → note_of name notes ≡ None
    → note_of other notes ≡ option_map (λ b. b || is) (note_of other notes)
not_step name other notes true e here =
    let same : name ≡ other = (bytes_eq-Decides name other).0 e in
    let none : note_of other notes ≡ None = ap (λ (r : List ℕ). note_of r notes) (sym same) ∙ here in
    none ∙ sym (ap (λ (x : Option Bool). option_map (λ b. b || true) x) none)
not_step name other notes false e here = same_or (note_of other notes)

pub not_noted : (name other : List ℕ) (notes : Notes) → note_of name notes ≡ None → note_of other notes ≡ option_map (λ b. b || bytes_eq name other) (note_of other notes)
not_noted name other notes here = not_step name other notes (bytes_eq name other) refl here

-- ---- names that are looked for
-- what is noted of a name, of which these are yet to be noted
abbrev pub note_with : List (List ℕ) → List ℕ → Notes → Option Bool
note_with rest name notes = if is_among rest name then Some false else note_of name notes

-- what is noted of it once all of them are
abbrev pub note_all : List (List ℕ) → List ℕ → Option Bool
note_all names name = if is_among names name then Some false else None

add_step : (is more : Bool) (old : Option Bool) → cond more (Some false) (cond is (Some false) old) ≡ cond (is || more) (Some false) old
add_step true true old = refl
add_step true false old = refl
add_step false more old = refl

pub wanted_more : (name other : List ℕ) (rest : List (List ℕ)) (notes new : Notes) → note_of other new ≡ (if bytes_eq name other then Some false else note_of other notes)
    → note_with rest other new ≡ note_with (name ∷ rest) other notes
wanted_more name other rest notes new e =
    ap (λ (o : Option Bool). if is_among rest other then Some false else o) e ∙ add_step (bytes_eq name other) (is_among rest other) (note_of other notes)

-- ---- keys that come
wanted_some : (b is : Bool) (found : Bool) → is_some (if b then Some found else None) ≡ b
wanted_some true is found = refl
wanted_some false is found = refl

any_or : (p q : List ℕ → Bool) (names : List (List ℕ)) → (list_any p names || list_any q names) ≡ list_any (λ n. p n || q n) names
any_or p q [] = refl
any_or p q (n ∷ names) = go (p n) (q n) (list_any p names) (list_any q names) ∙ ap (λ (b : Bool). (p n || q n) || b) (any_or p q names)
  where
    go : (a b c d : Bool) → ((a || c) || (b || d)) ≡ ((a || b) || (c || d))
    go true b c d = refl
    go false true true d = refl
    go false true false d = refl
    go false false c d = refl

any_same : (p q : List ℕ → Bool) → ((n : List ℕ) → p n ≡ q n) → (names : List (List ℕ)) → list_any p names ≡ list_any q names
any_same p q same [] = refl
any_same p q same (n ∷ names) = ap (λ (b : Bool). b || list_any p names) (same n) ∙ ap (λ (b : Bool). q n || b) (any_same p q same names)

eq_swap : (a b : List ℕ) → bytes_eq a b ≡ bytes_eq b a
eq_swap a b = go (bytes_eq a b) (bytes_eq b a) refl refl
  where
    go : (x y : Bool) → bytes_eq a b ≡ x → bytes_eq b a ≡ y → x ≡ y
    go true true e f = refl
    go false false e f = refl
    go true false e f = sym ((bytes_eq-Decides b a).1 (sym ((bytes_eq-Decides a b).0 e))) ∙ f
    go false true e f = sym e ∙ (bytes_eq-Decides a b).1 (sym ((bytes_eq-Decides b a).0 f))

-- the names of a key that are looked for
key_has : (names : List (List ℕ)) (print : Fingerprint) → (is_among names (print_octets print) || is_among names (id_of print)) ≡ has_one_of names print
key_has names print =
    any_or (λ n. bytes_eq n (print_octets print)) (λ n. bytes_eq n (id_of print)) names
    ∙ any_same (λ n. bytes_eq n (print_octets print) || bytes_eq n (id_of print)) (λ n. is_named n print)
    (λ n. ap (λ (b : Bool). b || bytes_eq n (id_of print)) (eq_swap n (print_octets print)) ∙ ap (λ (b : Bool). bytes_eq (print_octets print) n || b) (eq_swap n (id_of print))) names

option_map-twice : (p q : Bool) (o : Option Bool) → option_map (λ b. b || q) (option_map (λ b. b || p) o) ≡ option_map (λ b. b || (p || q)) o
option_map-twice p q None = refl
option_map-twice p q (Some b) = ap {B = Option Bool} Some (or_assoc b p q)

map_if : (f : Bool → Bool) (b had : Bool) → option_map f (if b then Some had else None) ≡ (if b then Some (f had) else None)
map_if f true had = refl
map_if f false had = refl

named_more : (name body : List ℕ) (bodies : List (List ℕ)) → is_any_named name (bodies ++ body ∷ []) ≡ (is_any_named name bodies || is_named name (print_of body))
named_more name body bodies =
    list_any-append (λ b. is_named name (print_of b)) bodies (body ∷ []) ∙ ap (λ (b : Bool). is_any_named name bodies || b) (or_false (is_named name (print_of body)))

-- a key more, whose fingerprint and key ID are noted
pub key_noted : (names bodies : List (List ℕ)) (body octets id : List ℕ) (notes one two : Notes) (by_print by_id : Bool) → octets ≡ print_octets (print_of body) → id ≡ id_of (print_of body)
    → by_print ≡ is_some (note_of octets notes) → by_id ≡ is_some (note_of id one)
    → ((other : List ℕ) → note_of other one ≡ option_map (λ b. b || bytes_eq octets other) (note_of other notes))
    → ((other : List ℕ) → note_of other two ≡ option_map (λ b. b || bytes_eq id other) (note_of other one))
    → AreNotes names bodies notes → ((by_print || by_id) ≡ has_one_of names (print_of body)) × AreNotes names (bodies ++ body ∷ []) two
key_noted names bodies body octets id notes one two by_print by_id print is p q first second h =
    let print_wanted : by_print ≡ is_among names octets = p ∙ ap (λ (o : Option Bool). is_some o) (h.each octets) ∙ wanted_some (is_among names octets) true (is_any_named octets bodies) in
    let one_is : note_of id one ≡ (if is_among names id then Some (is_any_named id bodies || bytes_eq octets id) else None) =
    first id ∙ ap (λ (o : Option Bool). option_map (λ b. b || bytes_eq octets id) o) (h.each id) ∙ map_if (λ b. b || bytes_eq octets id) (is_among names id) (is_any_named id bodies) in
    let id_wanted : by_id ≡ is_among names id = q ∙ ap (λ (o : Option Bool). is_some o) one_is ∙ wanted_some (is_among names id) true (is_any_named id bodies || bytes_eq octets id) in (
      ap (λ (b : Bool). b || by_id) print_wanted ∙ ap (λ (b : Bool). is_among names octets || b) id_wanted
          ∙ ap (λ (o : List ℕ). is_among names o || is_among names id) print ∙ ap (λ (o : List ℕ). is_among names (print_octets (print_of body)) || is_among names o) is
          ∙ key_has names (print_of body),
      record {
        each = λ other. second other ∙ ap (λ (o : Option Bool). option_map (λ b. b || bytes_eq id other) o) (first other)
            ∙ option_map-twice (bytes_eq octets other) (bytes_eq id other) (note_of other notes)
            ∙ ap (λ (o : Option Bool). option_map (λ b. b || (bytes_eq octets other || bytes_eq id other)) o) (h.each other)
            ∙ map_if (λ b. b || (bytes_eq octets other || bytes_eq id other)) (is_among names other) (is_any_named other bodies)
            ∙ ap (λ (b : Bool). if is_among names other then Some b else None)
            (ap (λ (o : List ℕ). is_any_named other bodies || (bytes_eq o other || bytes_eq id other)) print
            ∙ ap (λ (o : List ℕ). is_any_named other bodies || (bytes_eq (print_octets (print_of body)) other || bytes_eq o other)) is
            ∙ sym (named_more other body bodies));
      },
    )

abbrev any_of : List (List ℕ) → List (List ℕ) → Bool
any_of names bodies = list_any (λ body. has_one_of names (print_of body)) bodies

-- the key of a component that is a subkey
pub subkey_noted : (names bodies bs : List (List ℕ)) (body : List ℕ) (result : Bool) (new : Notes) → bs ≡ body ∷ [] → (result ≡ has_one_of names (print_of body)) × AreNotes names (bodies ++ body ∷ []) new
    → (result ≡ list_any (λ b. has_one_of names (print_of b)) bs) × AreNotes names (bodies ++ bs) new
subkey_noted names bodies bs body result new is (found, h) =
    (found ∙ sym (or_false (has_one_of names (print_of body))) ∙ ap (any_of names) (sym is), subst (λ (l : List (List ℕ)). AreNotes names (bodies ++ l) new) (sym is) h)

-- the keys of a certificate: the primary key, and those of its components
pub certificate_noted : (names bodies subs : List (List ℕ)) (body : List ℕ) (primary subkeys result : Bool) (new : Notes) → result ≡ (primary || subkeys) → primary ≡ has_one_of names (print_of body)
    → (subkeys ≡ list_any (λ b. has_one_of names (print_of b)) subs) × AreNotes names ((bodies ++ body ∷ []) ++ subs) new
    → (result ≡ (has_one_of names (print_of body) || list_any (λ b. has_one_of names (print_of b)) subs)) × AreNotes names (bodies ++ body ∷ subs) new
certificate_noted names bodies subs body primary subkeys result new is found (more, h) =
    (is ∙ ap (λ (b : Bool). b || subkeys) found ∙ ap (λ (b : Bool). has_one_of names (print_of body) || b) more, subst (λ (l : List (List ℕ)). AreNotes names l new) (append_assoc bodies (body ∷ []) subs) h)

pub or_then : (a b : Bool) → a ≡ true → a ≡ (a || b)
or_then true b e = refl
or_then false b e = absurd (cc e)

pub or_else : (a b : Bool) → a ≡ false → b ≡ (a || b)
or_else false b e = refl
or_else true b e = absurd (cc e)

-- ---- each of the names
abbrev is_noted : Notes → List ℕ → Bool
is_noted notes name = unwrap_or (note_of name notes) false

among_first : (name : List ℕ) (names : List (List ℕ)) → is_among (name ∷ names) name ≡ true
among_first name names = ap (λ (b : Bool). b || is_among names name) ((bytes_eq-Decides name name).1 refl)

missing_noted : (names all bodies : List (List ℕ)) (notes : Notes) (n : ℕ) → ((name : List ℕ) → is_among names name ≡ true → is_among all name ≡ true) → AreNotes all bodies notes
    → missing_from (is_noted notes) n names ≡ missing_from (λ name. is_any_named name bodies) n names
missing_noted [] all bodies notes n within h = refl
missing_noted (name ∷ names) all bodies notes n within h =
    let here : is_noted notes name ≡ is_any_named name bodies =
    ap (λ (o : Option Bool). unwrap_or o false) (h.each name) ∙ ap (λ (b : Bool). unwrap_or (if b then Some (is_any_named name bodies) else None) false) (within name (among_first name names)) in
    ap (λ (b : Bool). if b then missing_from (is_noted notes) (n + 1) names else Some n) here
    ∙ ap (λ (o : Option ℕ). if is_any_named name bodies then o else Some n) (missing_noted names all bodies notes (n + 1) (λ other among. within other (ap (λ (b : Bool). bytes_eq name other || b) among ∙ or_true (bytes_eq name other))) h)

any_of_all : (name : List ℕ) (cs : List CertificateValue) → is_any_named name (keys_of cs) ≡ list_any (has_key name) cs
any_of_all name [] = refl
any_of_all name (c ∷ cs) = list_any-append (λ body. is_named name (print_of body)) (certificate_keys c) (keys_of cs) ∙ ap (λ (b : Bool). has_key name c || b) (any_of_all name cs)

missing_same : (p q : List ℕ → Bool) → ((n : List ℕ) → p n ≡ q n) → (k : ℕ) (names : List (List ℕ)) → missing_from p k names ≡ missing_from q k names
missing_same p q same k [] = refl
missing_same p q same k (n ∷ names) =
    ap (λ (b : Bool). if b then missing_from p (k + 1) names else Some k) (same n) ∙ ap (λ (o : Option ℕ). if q n then o else Some k) (missing_same p q same (k + 1) names)

pub first_missing : (names : List (List ℕ)) (notes : Notes) (cs : List CertificateValue) → AreNotes names (keys_of cs) notes → missing_from (λ name. unwrap_or (note_of name notes) false) 0 names ≡ missing_in names cs
first_missing names notes cs h =
    missing_noted names names (keys_of cs) notes 0 (λ name among. among) h ∙ missing_same (λ name. is_any_named name (keys_of cs)) (λ name. list_any (has_key name) cs) (λ name. any_of_all name cs) 0 names
