-- Octets added one after the other.
use Rattle.std.proofs.Common.{◌≡◌, ◌∙◌, ℕ, ◌+◌, false, List, [], ◌++◌, refl, sym, ap, subst, arith, length, take, min, Option, Result, Ok, Err}
use Rattle.std.specs.Result.{IsErr, OnOk, OnErr}
use Rattle.std.proofs.lemmas.List.{append_assoc, append-nil, take-append-le, take_min, take_at, drop_at}
use Rattle.std.proofs.Math.Seq.{take-add}
use Rattle.std.proofs.KnownBytes.{Appends-nil, Appends-trans}
use Rattle.std.specs.Io.KnownBytes.{Appends}
use Rattle.opgp_io.specs.Stream.{AppendsPrefix}
use Rattle.opgp_io.specs.Added.{State, Adds, Breaks, Writes}

-- All is added but what is left.
pub record AddsAllBut (old new : State) (left all : List ℕ) : Type 0 where
  pub done : List ℕ
  pub added : Adds old new done
  pub joined : done ++ left ≡ all

pub adds_nothing : (a : State) → a.failed ≡ false → Adds a a []
adds_nothing a sound = record { front = []; put = Appends-nil a.held; joined = append-nil a.waiting; sound = sound }

pub adds_then : (a b c : State) (xs ys : List ℕ) → Adds a b xs → Adds b c ys → Adds a c (xs ++ ys)
adds_then a b c xs ys p q = record {
  front = p.front ++ q.front;
  put = Appends-trans a.held b.held c.held p.front q.front p.put q.put;
  joined = sym (append_assoc a.waiting xs ys) ∙ ap (λ (v : List ℕ). v ++ ys) p.joined ∙ append_assoc p.front b.waiting ys ∙ ap (λ (v : List ℕ). p.front ++ v) q.joined ∙ sym (append_assoc p.front q.front c.waiting);
  sound = q.sound;
}

-- ---- prefixes
prefix_len : (n : ℕ) (xs ys : List ℕ) → take (min n (length xs)) (xs ++ ys) ≡ take n xs
prefix_len n xs ys = take-append-le (min n (length xs)) xs ys (omega arith) ∙ take_min n xs

prefix_more : (old new : Option (List ℕ)) (xs ys : List ℕ) → AppendsPrefix old new xs → AppendsPrefix old new (xs ++ ys)
prefix_more old new xs ys p = (min p.0 (length xs), subst (Appends old new) (sym (prefix_len p.0 xs ys)) p.1)

pub take_past : (front xs : List ℕ) (n m : ℕ) → m ≡ length front + n → take m (front ++ xs) ≡ front ++ take n xs
take_past front xs n m e =
    ap (λ (v : ℕ). take v (front ++ xs)) e ∙ take-add (length front) n (front ++ xs)
    ∙ rw (take_at front xs (length front) refl, drop_at front xs (length front) refl) refl

prefix_after : (old mid new : Option (List ℕ)) (front xs : List ℕ) → Appends old mid front → AppendsPrefix mid new xs → AppendsPrefix old new (front ++ xs)
prefix_after old mid new front xs p q =
    (length front + q.0, subst (Appends old new) (sym (take_past front xs q.0 (length front + q.0) refl)) (Appends-trans old mid new front (take q.0 xs) p q.1))

pub breaks_more : (a b : State) (xs ys : List ℕ) → Breaks a b xs → Breaks a b (xs ++ ys)
breaks_more a b xs ys p = record {
  put = subst (AppendsPrefix a.held b.held) (append_assoc a.waiting xs ys) (prefix_more a.held b.held (a.waiting ++ xs) ys p.put);
  failed = p.failed;
}

pub breaks_then : (a b c : State) (xs ys : List ℕ) → Adds a b xs → Breaks b c ys → Breaks a c (xs ++ ys)
breaks_then a b c xs ys p q =
    let e : p.front ++ (b.waiting ++ ys) ≡ a.waiting ++ (xs ++ ys) =
    sym (append_assoc p.front b.waiting ys) ∙ ap (λ (v : List ℕ). v ++ ys) (sym p.joined) ∙ append_assoc a.waiting xs ys in
    record {
      put = subst (AppendsPrefix a.held c.held) e (prefix_after a.held b.held c.held p.front (b.waiting ++ ys) p.put q.put);
      failed = q.failed;
    }

-- ---- a call's result
pub then : {T E : Type 0} (a b c : State) (r : Result T E) (xs ys : List ℕ) → Adds a b xs → Writes b c r ys → Writes a c r (xs ++ ys)
then a b c (Ok x) xs ys p q = adds_then a b c xs ys p q
then a b c (Err e) xs ys p q = breaks_then a b c xs ys p q

pub stop : {T E : Type 0} (a b : State) (r : Result T E) (xs : List ℕ) → IsErr r → Breaks a b xs → Writes a b r xs
stop a b (Ok x) xs h p = cc h
stop a b (Err e) xs h p = p

-- ---- all but what is left
pub none_left : (a b : State) (all : List ℕ) → AddsAllBut a b [] all → Adds a b all
none_left a b all h = subst (Adds a b) (sym (append-nil h.done) ∙ h.joined) h.added

pub all_left : (a : State) (all : List ℕ) → a.failed ≡ false → AddsAllBut a a all all
all_left a all sound = record { done = []; added = adds_nothing a sound; joined = refl }

pub less_left : (a b c : State) (left xs rest all : List ℕ) → AddsAllBut a b left all → left ≡ xs ++ rest → Adds b c xs → AddsAllBut a c rest all
less_left a b c left xs rest all h e p = record {
  done = h.done ++ xs;
  added = adds_then a b c h.done xs h.added p;
  joined = append_assoc h.done xs rest ∙ ap (λ (v : List ℕ). h.done ++ v) (sym e) ∙ h.joined;
}

pub broken_left : (a b c : State) (left xs rest all : List ℕ) → AddsAllBut a b left all → left ≡ xs ++ rest → Breaks b c xs → Breaks a c all
broken_left a b c left xs rest all h e p =
    subst (Breaks a c) (ap (λ (v : List ℕ). h.done ++ v) (sym e) ∙ h.joined) (breaks_then a b c h.done (xs ++ rest) h.added (breaks_more b c xs rest p))

-- the same of a text that is cut in two
pub then_is : {T E : Type 0} (a b c : State) (r : Result T E) (xs ys zs : List ℕ) → zs ≡ xs ++ ys → Adds a b xs → Writes b c r ys → Writes a c r zs
then_is a b c r xs ys zs e p q = let P : List ℕ → Type 0 = λ v. Writes a c r v in subst P (sym e) (then a b c r xs ys p q)

pub stop_is : {T E : Type 0} (a b : State) (r : Result T E) (xs ys zs : List ℕ) → zs ≡ xs ++ ys → IsErr r → Breaks a b xs → Writes a b r zs
stop_is a b r xs ys zs e h p = let P : List ℕ → Type 0 = λ v. Writes a b r v in subst P (sym e) (stop a b r (xs ++ ys) h (breaks_more a b xs ys p))

pub nothing_left : (a b : State) (left all : List ℕ) → AddsAllBut a b left all → left ≡ [] → Adds a b all
nothing_left a b left all h e = none_left a b all (subst (λ (v : List ℕ). AddsAllBut a b v all) e h)

pub breaks_same : (a b : State) (xs ys : List ℕ) → xs ≡ ys → Breaks a b xs → Breaks a b ys
breaks_same a b xs ys e p = subst (Breaks a b) e p

pub adds_same : (a b : State) (xs ys : List ℕ) → xs ≡ ys → Adds a b xs → Adds a b ys
adds_same a b xs ys e p = subst (Adds a b) e p

-- ---- where nothing waits
pub all_put : (a b : State) (xs : List ℕ) → a.waiting ≡ [] → b.waiting ≡ [] → Adds a b xs → Appends a.held b.held xs
all_put a b xs e f p =
    let same : p.front ≡ xs = sym (append-nil p.front) ∙ ap (λ (v : List ℕ). p.front ++ v) (sym f) ∙ sym p.joined ∙ ap (λ (v : List ℕ). v ++ xs) e in
    subst (Appends a.held b.held) same p.put

pub prefix_put : (a b : State) (xs : List ℕ) → a.waiting ≡ [] → Breaks a b xs → AppendsPrefix a.held b.held xs
prefix_put a b xs e p = subst (AppendsPrefix a.held b.held) (ap (λ (v : List ℕ). v ++ xs) e) p.put

pub put_ok : {T E : Type 0} (a b : State) (r : Result T E) (xs : List ℕ) → a.waiting ≡ [] → OnOk r (b.waiting ≡ []) → Writes a b r xs → OnOk r (Appends a.held b.held xs)
put_ok a b (Ok x) xs e f p = all_put a b xs e f p
put_ok a b (Err d) xs e f p = tt

pub put_err : {T E : Type 0} (a b : State) (r : Result T E) (xs : List ℕ) → a.waiting ≡ [] → Writes a b r xs → OnErr r (AppendsPrefix a.held b.held xs)
put_err a b (Ok x) xs e p = tt
put_err a b (Err d) xs e p = prefix_put a b xs e p

pub prefix_moved : {E : Type 0} (r : Result Unit E) (old old' new new' : Option (List ℕ)) (xs xs' : List ℕ) → old ≡ old' → new ≡ new' → xs ≡ xs'
    → OnErr r (AppendsPrefix old new xs) → OnErr r (AppendsPrefix old' new' xs')
prefix_moved (Ok x) old old' new new' xs xs' e f h p = tt
prefix_moved (Err d) old old' new new' xs xs' e f h p =
    subst (λ (v : Option (List ℕ)). AppendsPrefix v new' xs') e (subst (λ (v : Option (List ℕ)). AppendsPrefix old v xs') f (subst (AppendsPrefix old new) h p))

pub writes_same : {T E : Type 0} (a b : State) (r : Result T E) (xs ys : List ℕ) → xs ≡ ys → Writes a b r xs → Writes a b r ys
writes_same a b r xs ys e p = let P : List ℕ → Type 0 = λ v. Writes a b r v in subst P e p
