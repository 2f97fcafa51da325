-- The bodies of a signed literal's packets, by their types.
use Rattle.std.proofs.Common.{◌≡◌, ℕ, suc, zero, ◌+◌, ◌<◌, All, Bool, true, false, not, ◌==◌, cond, List, [], ◌∷◌, ◌++◌, map, replicate, length, take, drop, get_or, refl, sym, ap, subst, ◌∙◌, append-nil, arith, length-append}
use Rattle.std.specs.List.{filter}
use Rattle.std.proofs.lemmas.Bool.{eqb-true, eq-eqb, ne_eqb}
use Rattle.std.proofs.lemmas.List.{map-append, take_more}
use Rattle.std.proofs.lemmas.List.Elements.{All-cons, All-head, All-nil, All-tail, filter-append}
use Rattle.opgp_octets.specs.declared.malformed.Malformed.{Malformed}
use Rattle.opgp_frame.specs.Packet.{PacketValue}
use Rattle.opgp_octets.specs.PacketType.{packet_type_of}
use Rattle.opgp_octets.specs.declared.fault.BodyFault.{BodyFault}
use Rattle.opgp_octets.specs.declared.packet_type.PacketType.{PacketType}
use Rattle.opgp_octets.specs.declared.packet_type.PacketType.TheVariants.{Signature, PublicKey, PublicSubkey, LiteralData, UserAttribute}
use Rattle.opgp_octets.specs.declared.malformed.Malformed.TheVariants.{Keep}
use Rattle.opgp_packet.specs.LiteralBody.{LiteralFault}
use Rattle.opgp_keyring.specs.PacketBody.{HasBodyFault}
use Rattle.opgp_keyring.specs.Bodies.{HasNoFault}
use Rattle.opgp_keyring.specs.Keyring.{is_filler}
use Rattle.opgp_keyring.specs.Signed.{types_of, signed_types, bodies_of, IsSigned}
use Rattle.opgp_keyring.proofs.FirstBodyFaults.{at_place}

-- how many literals there are among types
literals : List ℕ → ℕ
literals ks = length (filter (λ k. k == 11) ks)

literals-append : (xs ys : List ℕ) → literals (xs ++ ys) ≡ literals xs + literals ys
unfolding literals
literals-append xs ys = ap (length {A = ℕ}) (filter-append (λ k. k == 11) xs ys) ∙ length-append (filter (λ k. k == 11) xs) (filter (λ k. k == 11) ys)

literals-replicate : (n k : ℕ) → (k == 11) ≡ false → literals (replicate n k) ≡ 0
unfolding literals
literals-replicate zero k e = refl
literals-replicate (suc n) k e = ap (λ (b : Bool). length (cond b (k ∷ filter (λ j. j == 11) (replicate n k)) (filter (λ j. j == 11) (replicate n k)))) e ∙ literals-replicate n k e

literals-signed : (n : ℕ) → literals (signed_types n) ≡ 1
unfolding literals
literals-signed n =
    literals-append (replicate n 4) (11 ∷ replicate n 2) ∙ ap (λ (m : ℕ). m + literals (11 ∷ replicate n 2)) (literals-replicate n 4 refl) ∙ ap (λ (m : ℕ). 0 + (suc m)) (literals-replicate n 2 refl)

-- a packet's body is a literal's where its type is, and no filler has that type
body_counts : (eleven filler : Bool) (p : PacketValue) (xs : List PacketValue) (ts : List ℕ) → (p.kind == 11) ≡ eleven → (eleven ≡ true → filler ≡ false) → length (map (λ (q : PacketValue). q.body) xs) ≡ literals ts
    → length (map (λ (q : PacketValue). q.body) (cond eleven (p ∷ xs) xs)) ≡ literals (cond (not filler) (p.kind ∷ ts) ts)
unfolding literals
body_counts true true p xs ts k none e = absurd (let h : true ≡ false = none refl in cc)
body_counts true false p xs ts k none e = ap suc e ∙ ap (λ (b : Bool). length (cond b (p.kind ∷ filter (λ j. j == 11) ts) (filter (λ j. j == 11) ts))) (sym k)
body_counts false true p xs ts k none e = e
body_counts false false p xs ts k none e = e ∙ ap (λ (b : Bool). length (cond b (p.kind ∷ filter (λ j. j == 11) ts) (filter (λ j. j == 11) ts))) (sym k)

no_filler : (k : ℕ) → (k == 11) ≡ true → is_filler k ≡ false
no_filler k e = ap is_filler (eqb-true k 11 e)

bodies_count : (ps : List PacketValue) → length (bodies_of 11 ps) ≡ literals (types_of ps)
unfolding literals
bodies_count [] = refl
bodies_count (p ∷ ps) = body_counts (p.kind == 11) (is_filler p.kind) p (filter (λ (q : PacketValue). q.kind == 11) ps) (types_of ps) refl (no_filler p.kind) (bodies_count ps)

pub one_literal : (ps : List PacketValue) → IsSigned ps → length (bodies_of 11 ps) ≡ 1
one_literal ps s = bodies_count ps ∙ ap literals s.whole ∙ literals-signed s.signatures

-- ---- the first packet of a type

bodies-append : (kind : ℕ) (xs ys : List PacketValue) → bodies_of kind (xs ++ ys) ≡ bodies_of kind xs ++ bodies_of kind ys
bodies-append kind xs ys =
    let body : PacketValue → List ℕ = λ p. p.body in
    ap (map body) (filter-append (λ (p : PacketValue). p.kind == kind) xs ys) ∙ map-append body (filter (λ (p : PacketValue). p.kind == kind) xs) (filter (λ (p : PacketValue). p.kind == kind) ys)

other : (kind : ℕ) (p : PacketValue) → (p.kind ≡ kind → ⊥) → bodies_of kind (p ∷ []) ≡ []
other kind p e = ap (λ (b : Bool). map (λ (q : PacketValue). q.body) (cond b (p ∷ []) [])) (ne_eqb p.kind kind e)

-- one more that hasn't the type
pub no_more : (kind i : ℕ) (ps : List PacketValue) (p : PacketValue) → i < length ps → p ≡ get_or ps i p → (p.kind ≡ kind → ⊥) → bodies_of kind (take (i + 1) ps) ≡ bodies_of kind (take i ps)
no_more kind i ps p h e another =
    ap (bodies_of kind) (take_more ps i p h) ∙ bodies-append kind (take i ps) (get_or ps i p ∷ []) ∙ ap (λ (q : PacketValue). bodies_of kind (take i ps) ++ bodies_of kind (q ∷ [])) (sym e)
    ∙ ap (λ (l : List (List ℕ)). bodies_of kind (take i ps) ++ l) (other kind p another) ∙ append-nil (bodies_of kind (take i ps))

pub none_more : (kind i : ℕ) (ps : List PacketValue) (p : PacketValue) → i < length ps → p ≡ get_or ps i p → (p.kind ≡ kind → ⊥) → bodies_of kind (take i ps) ≡ [] → bodies_of kind (take (i + 1) ps) ≡ []
none_more kind i ps p h e another none = no_more kind i ps p h e another ∙ none

-- one more that has it
pub one_more : (kind i : ℕ) (ps : List PacketValue) (p : PacketValue) → i < length ps → p ≡ get_or ps i p → p.kind ≡ kind → bodies_of kind (take (i + 1) ps) ≡ bodies_of kind (take i ps) ++ p.body ∷ []
one_more kind i ps p h e is =
    ap (bodies_of kind) (take_more ps i p h) ∙ bodies-append kind (take i ps) (get_or ps i p ∷ []) ∙ ap (λ (q : PacketValue). bodies_of kind (take i ps) ++ bodies_of kind (q ∷ [])) (sym e)
    ∙ ap (λ (b : Bool). bodies_of kind (take i ps) ++ map (λ (q : PacketValue). q.body) (cond b (p ∷ []) [])) (ap (λ (k : ℕ). k == kind) is ∙ eq-eqb kind kind refl)

-- one that has it
pub first_here : (kind i : ℕ) (ps : List PacketValue) (p : PacketValue) → i < length ps → p ≡ get_or ps i p → p.kind ≡ kind → bodies_of kind (take i ps) ≡ [] → bodies_of kind ps ≡ p.body ∷ bodies_of kind (drop (i + 1) ps)
first_here kind i ps p h e is none =
    ap (bodies_of kind) (at_place ps i p h e) ∙ bodies-append kind (take i ps) (p ∷ drop (suc i) ps) ∙ ap (λ (l : List (List ℕ)). l ++ bodies_of kind (p ∷ drop (suc i) ps)) none
    ∙ ap (λ (b : Bool). map (λ (q : PacketValue). q.body) (cond b (p ∷ filter (λ (q : PacketValue). q.kind == kind) (drop (suc i) ps)) (filter (λ (q : PacketValue). q.kind == kind) (drop (suc i) ps)))) (ap (λ (k : ℕ). k == kind) is ∙ eq-eqb kind kind refl)
    ∙ ap (λ (n : ℕ). p.body ∷ bodies_of kind (drop n ps)) (let e : suc i ≡ i + 1 = omega arith in e)

-- ---- bodies that are sound

pub sound_literal : (p : PacketValue) (o : List ℕ) (f : BodyFault) → HasNoFault Keep p → p.kind ≡ 11 → o ≡ p.body → LiteralFault o f → ⊥
unfolding packet_type_of
sound_literal p o f sound kind body fault = sound f (subst (λ (k : ℕ). HasBodyFault Keep (packet_type_of k) p.body f) (sym kind) (subst (λ (l : List ℕ). LiteralFault l f) body fault))

-- what is a fault where malformed signatures are kept is one by any policy
kept_fault : (policy : Malformed) (kind : PacketType) (o : List ℕ) (f : BodyFault) → HasBodyFault Keep kind o f → HasBodyFault policy kind o f
kept_fault policy Signature o f h = absurd (let never = h.0 in cc)
kept_fault policy PublicKey o f h = h
kept_fault policy PublicSubkey o f h = h
kept_fault policy LiteralData o f h = h
kept_fault policy UserAttribute o f h = h
kept_fault policy other o f h = absurd h

pub sound_kept : (policy : Malformed) (p : PacketValue) → HasNoFault policy p → HasNoFault Keep p
sound_kept policy p sound = λ f h. sound f (kept_fault policy (packet_type_of p.kind) p.body f h)

pub all_kept : (policy : Malformed) (ps : List PacketValue) → All (HasNoFault policy) ps → All (HasNoFault Keep) ps
all_kept policy [] a = All-nil (HasNoFault Keep)
all_kept policy (p ∷ ps) a = All-cons (HasNoFault Keep) p ps (sound_kept policy p (All-head (HasNoFault policy) p ps a)) (all_kept policy ps (All-tail (HasNoFault policy) p ps a))
