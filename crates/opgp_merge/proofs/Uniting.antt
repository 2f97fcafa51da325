-- Items gathered one after the other are, for each of the firsts, all that are like it.
use Rattle.std.proofs.Common.{◌≡◌, ◌∙◌, ℕ, ◌<◌, ◌≤◌, Bool, true, false, cond, List, [], ◌∷◌, ◌++◌, length, map, refl, sym, ap, subst, append-nil, append_assoc, arith}
use Rattle.std.specs.Prelude.{not, zero, suc, All, ◌&&◌, ◌==◌, drop}
use Rattle.std.specs.List.{filter, flat_map, fold}
use Rattle.std.specs.Str.{bytes_eq}
use Rattle.std.proofs.lemmas.Bool.{eq-eqb}
use Rattle.std.proofs.lemmas.List.{map-append}
use Rattle.std.proofs.lemmas.List.Elements.{All-push}
use Rattle.std.proofs.lemmas.Slice.Eq.{bytes_eq-Decides}
use Rattle.opgp_frame.specs.Packet.{PacketValue}
use Rattle.opgp_keyring.specs.Keyring.{CertificateValue, ComponentValue}
use Rattle.opgp_merge.specs.Merged.{firsts, like, same_packet, same_head, same_primary, united_components, united_certificate}
use Rattle.opgp_merge.specs.Slots.{Name, same_name, same_by, packet_name, head_name, primary_name, added, stays, with_hangs, with_parts, joined_all, once_component, once_certificate}
use Rattle.opgp_merge.proofs.Adding.{gathered}
use Rattle.opgp_merge.proofs.Indexing.{same_is}

is_no : (b : Bool) → (b ≡ true → ⊥) → b ≡ false
is_no true other = absurd (other refl)
is_no false other = refl

apart : {b : Bool} → b ≡ true → b ≡ false → ⊥
apart e f = let g : true ≡ false = sym e ∙ f in cc

module _ {X : Type 0} where
  -- ---- filters
  idem_step : (p : X → Bool) (b : Bool) (x : X) (l m : List X) → p x ≡ b → filter p l ≡ m → l ≡ m → filter p (cond b (x ∷ l) l) ≡ cond b (x ∷ m) m
  idem_step p true x l m e f g = ap (λ (c : Bool). cond c (x ∷ filter p l) (filter p l)) e ∙ ap (λ (k : List X). x ∷ k) f
  idem_step p false x l m e f g = f

  filter_twice : (p : X → Bool) (xs : List X) → filter p (filter p xs) ≡ filter p xs
  filter_twice p [] = refl
  filter_twice p (x ∷ xs) = idem_step p (p x) x (filter p xs) (filter p xs) refl (filter_twice p xs) refl

  swap_step : (p q : X → Bool) (a b : Bool) (x : X) (l : List X) → p x ≡ a → q x ≡ b → filter p (filter q l) ≡ filter q (filter p l)
      → filter p (cond b (x ∷ filter q l) (filter q l)) ≡ filter q (cond a (x ∷ filter p l) (filter p l))
  swap_step p q true true x l e f g =
      ap (λ (c : Bool). cond c (x ∷ filter p (filter q l)) (filter p (filter q l))) e
      ∙ ap (λ (k : List X). x ∷ k) g
      ∙ sym (ap (λ (c : Bool). cond c (x ∷ filter q (filter p l)) (filter q (filter p l))) f)
  swap_step p q true false x l e f g = g ∙ sym (ap (λ (c : Bool). cond c (x ∷ filter q (filter p l)) (filter q (filter p l))) f)
  swap_step p q false true x l e f g = ap (λ (c : Bool). cond c (x ∷ filter p (filter q l)) (filter p (filter q l))) e ∙ g
  swap_step p q false false x l e f g = g

  filter_swap : (p q : X → Bool) (xs : List X) → filter p (filter q xs) ≡ filter q (filter p xs)
  filter_swap p q [] = refl
  filter_swap p q (x ∷ xs) = swap_step p q (p x) (q x) x xs refl refl (filter_swap p q xs)

  -- a filter behind one that leaves all that it keeps
  within_step : (p q : X → Bool) (a b : Bool) (x : X) (l : List X) → p x ≡ a → q x ≡ b → (p x ≡ true → q x ≡ true) → filter p (filter q l) ≡ filter p l
      → filter p (cond b (x ∷ filter q l) (filter q l)) ≡ cond a (x ∷ filter p l) (filter p l)
  within_step p q true true x l e f h g = ap (λ (c : Bool). cond c (x ∷ filter p (filter q l)) (filter p (filter q l))) e ∙ ap (λ (k : List X). x ∷ k) g
  within_step p q true false x l e f h g = absurd (apart (h e) f)
  within_step p q false true x l e f h g = ap (λ (c : Bool). cond c (x ∷ filter p (filter q l)) (filter p (filter q l))) e ∙ g
  within_step p q false false x l e f h g = g

  filter_within : (p q : X → Bool) → ((x : X) → p x ≡ true → q x ≡ true) → (xs : List X) → filter p (filter q xs) ≡ filter p xs
  filter_within p q h [] = refl
  filter_within p q h (x ∷ xs) = within_step p q (p x) (q x) x xs refl refl (h x) (filter_within p q h xs)

  shorter_step : (b : Bool) (x : X) (l : List X) (n : ℕ) → length l ≤ n → length (cond b (x ∷ l) l) ≤ suc n
  shorter_step true x l n le = omega arith
  shorter_step false x l n le = omega arith

  filter_shorter : (p : X → Bool) (xs : List X) → length (filter p xs) ≤ length xs
  filter_shorter p [] = omega arith
  filter_shorter p (x ∷ xs) = shorter_step (p x) x (filter p xs) (length xs) (filter_shorter p xs)

module _ {X Y : Type 0} where
  -- two functions that are equal at what a filter keeps
  map_step : (f g : X → Y) (b : Bool) (x : X) (l : List X) → (b ≡ true → f x ≡ g x) → map f l ≡ map g l → map f (cond b (x ∷ l) l) ≡ map g (cond b (x ∷ l) l)
  map_step f g true x l e h = let d : f x ≡ g x = e refl in cc
  map_step f g false x l e h = h

  map_filter : (f g : X → Y) (p : X → Bool) → ((x : X) → p x ≡ true → f x ≡ g x) → (xs : List X) → map f (filter p xs) ≡ map g (filter p xs)
  map_filter f g p h [] = refl
  map_filter f g p h (x ∷ xs) = map_step f g (p x) x (filter p xs) (h x) (map_filter f g p h xs)

module _ {X : Type 0} (same : X → X → Bool) (itself : (x : X) → same x x ≡ true) (alike : (x y : X) → same x y ≡ true → same x ≡ same y) where
  abbrev others : X → X → Bool
  others x y = not (same x y)

  not_same : (x y : X) → others x y ≡ true → same x y ≡ true → ⊥
  not_same x y e f = let g : false ≡ true = sym (ap (λ (b : Bool). not b) f) ∙ e in cc

  to_not : (b : Bool) → (b ≡ true → ⊥) → not b ≡ true
  to_not true h = absurd (h refl)
  to_not false h = refl

  -- ---- firsts of a filtered list
  firsts_step : (x h : X) (b : Bool) (t : List X) → same x h ≡ b → firsts same (filter (others x) t) ≡ filter (others x) (firsts same t)
      → firsts same (cond (not b) (h ∷ filter (others x) t) (filter (others x) t)) ≡ cond (not b) (h ∷ filter (others x) (filter (others h) (firsts same t))) (filter (others x) (filter (others h) (firsts same t)))
  firsts_step x h true t e g =
      let f : X → Bool = others x in
      let same_filter : others x ≡ others h = ap {B = X → Bool} (λ (s : X → Bool) (y : X). not (s y)) (alike x h e) in
      g ∙ sym (filter_twice (others x) (firsts same t)) ∙ ap (λ (p : X → Bool). filter (others x) (filter p (firsts same t))) same_filter
  firsts_step x h false t e g = ap (λ (l : List X). h ∷ filter (others h) l) g ∙ ap (λ (l : List X). h ∷ l) (filter_swap (others h) (others x) (firsts same t))

  firsts_others : (x : X) (xs : List X) → firsts same (filter (others x) xs) ≡ filter (others x) (firsts same xs)
  firsts_others x [] = refl
  firsts_others x (h ∷ t) = firsts_step x h (same x h) t refl (firsts_others x t)

  -- ---- what is like one that isn't like x
  like_others : (x c : X) (xs : List X) → others x c ≡ true → like same c (filter (others x) xs) ≡ like same c (x ∷ xs)
  like_others x c xs e =
      let keep : (y : X) → same c y ≡ true → others x y ≡ true =
      λ y f. to_not (same x y) (λ g. not_same x c e (ap (λ (s : X → Bool). s c) (alike x y g) ∙ sym (ap (λ (s : X → Bool). s c) (alike c y f)) ∙ itself c)) in
      let no : same c x ≡ false = is_no (same c x) (λ f. not_same x c e (sym (ap (λ (s : X → Bool). s c) (alike c x f)) ∙ itself c)) in
      filter_within (same c) (others x) keep xs ∙ sym (ap (λ (b : Bool). cond b (x ∷ like same c xs) (like same c xs)) no)

  module _ (absorb : X → X → X) (keeps : (k x : X) → same (absorb k x) ≡ same k) (whole : X → List X → X) where
    head_step : (a x : X) (b : Bool) (acc xs : List X)
        → gathered same absorb (absorb a x ∷ acc) xs ≡ fold absorb (absorb a x) (like same (absorb a x) xs) ∷ gathered same absorb acc (filter (others (absorb a x)) xs)
        → gathered same absorb (a ∷ added same absorb acc x) xs ≡ fold absorb a (like same a xs) ∷ gathered same absorb (added same absorb acc x) (filter (others a) xs)
        → gathered same absorb (cond b (absorb a x ∷ acc) (a ∷ added same absorb acc x)) xs
        ≡ fold absorb a (cond b (x ∷ like same a xs) (like same a xs)) ∷ gathered same absorb acc (cond (not b) (x ∷ filter (others a) xs) (filter (others a) xs))
    head_step a x true acc xs f g = f ∙ ap (λ (s : X → Bool). fold absorb (absorb a x) (filter s xs) ∷ gathered same absorb acc (filter (λ y. not (s y)) xs)) (keeps a x)
    head_step a x false acc xs f g = g

    -- what is like the first of the list is absorbed by it
    head_apart : (a : X) (acc xs : List X) → gathered same absorb (a ∷ acc) xs ≡ fold absorb a (like same a xs) ∷ gathered same absorb acc (filter (others a) xs)
    head_apart a acc [] = refl
    head_apart a acc (x ∷ xs) = head_step a x (same a x) acc xs (head_apart (absorb a x) acc xs) (head_apart a (added same absorb acc x) xs)

    module _ (is_whole : (k : X) (xs : List X) → fold absorb k xs ≡ whole k (k ∷ xs)) where
      abbrev united : List X → X → X
      united all c = whole c (like same c all)

      within_bound : (n : ℕ) (xs : List X) → length xs ≤ n → gathered same absorb [] xs ≡ map (united xs) (firsts same xs)
      within_bound n [] le = refl
      within_bound zero (x ∷ xs) le = absurd (omega arith)
      within_bound (suc n) (x ∷ xs) le =
          let rest : List X = filter (others x) xs in
          let bound : length rest ≤ n = omega (arith, filter_shorter (others x) xs) in
          let first : fold absorb x (like same x xs) ≡ united (x ∷ xs) x =
          is_whole x (like same x xs) ∙ sym (ap (λ (b : Bool). whole x (cond b (x ∷ like same x xs) (like same x xs))) (itself x)) in
          let later : gathered same absorb [] rest ≡ map (united (x ∷ xs)) (filter (others x) (firsts same xs)) =
          within_bound n rest bound ∙ ap (map (united rest)) (firsts_others x xs)
          ∙ map_filter (united rest) (united (x ∷ xs)) (others x) (λ c e. ap (whole c) (like_others x c xs e)) (firsts same xs) in
          head_apart x [] xs ∙ ap (λ (k : X). k ∷ gathered same absorb [] rest) first ∙ ap (λ (l : List X). united (x ∷ xs) x ∷ l) later

      pub gathered_is : (xs : List X) → gathered same absorb [] xs ≡ map (united xs) (firsts same xs)
      gathered_is xs = within_bound (length xs) xs (omega arith)

-- ---- by names
both_true : (a b : Bool) → a ≡ true → b ≡ true → (a && b) ≡ true
both_true true b e f = f
both_true false b e f = e

pub itself : (n : Name) → same_name n n ≡ true
itself n = both_true (n.0 == n.0) (bytes_eq n.1 n.1) (eq-eqb n.0 n.0 refl) ((bytes_eq-Decides n.1 n.1).1 refl)

pub alike : {X : Type 0} (name : X → Name) (x y : X) → same_name (name x) (name y) ≡ true → ◌≡◌ {A = X → Bool} (λ z. same_name (name x) (name z)) (λ z. same_name (name y) (name z))
alike {X} name x y e = ap {B = X → Bool} (λ (n : Name) (z : X). same_name n (name z)) (same_is (name x) (name y) e)

map_map : {X Y Z : Type 0} (f : X → Y) (g : Y → Z) (xs : List X) → map g (map f xs) ≡ map (λ x. g (f x)) xs
map_map f g [] = refl
map_map f g (x ∷ xs) = ap (λ (l : List _). g (f x) ∷ l) (map_map f g xs)

pub map_same : {X : Type 0} (xs : List X) → map (λ (x : X). x) xs ≡ xs
map_same [] = refl
map_same {X} (x ∷ xs) = ap (λ (l : List X). x ∷ l) (map_same xs)

module _ {X : Type 0} (name : X → Name) (both : X → X → X) (keeps : (k x : X) → name (both k x) ≡ name k) where
  same_kept : (k x : X) → ◌≡◌ {A = X → Bool} (same_by name (both k x)) (same_by name k)
  same_kept k x = ap {B = X → Bool} (λ (n : Name) (z : X). same_name n (name z)) (keeps k x)

  pub joined_is : (xs : List X) → gathered (same_by name) both [] xs ≡ joined_all name both xs
  joined_is xs = gathered_is (same_by name) (λ x. itself (name x)) (alike name) both same_kept (λ k l. fold both k (drop 1 l)) (λ k l. refl) xs

  pub joined_short : (xs : List X) → length xs < 2 → xs ≡ joined_all name both xs
  joined_short [] lt = joined_is []
  joined_short (x ∷ []) lt = joined_is (x ∷ [])
  joined_short (x ∷ y ∷ xs) lt = absurd (omega arith)

-- ---- packets
packet_whole : (k : PacketValue) (xs : List PacketValue) → fold stays k xs ≡ k
packet_whole k [] = refl
packet_whole k (x ∷ xs) = packet_whole k xs

pub packets_joined : (ps : List PacketValue) → joined_all packet_name stays ps ≡ firsts same_packet ps
packets_joined ps = sym (joined_is packet_name stays (λ k x. refl) ps) ∙ gathered_is same_packet (λ p. itself (packet_name p)) (alike packet_name) stays (λ k x. refl) (λ k l. k) packet_whole ps ∙ map_same (firsts same_packet ps)

-- ---- components
abbrev whole_component : ComponentValue → List ComponentValue → ComponentValue
whole_component c all = record { head = c.head; hangs = flat_map (λ d. d.hangs) all }

abbrev with_these : ComponentValue → List PacketValue → ComponentValue
with_these k l = record { head = k.head; hangs = l }

component_whole : (k : ComponentValue) (xs : List ComponentValue) → fold with_hangs k xs ≡ whole_component k (k ∷ xs)
component_whole k [] = ap (λ (l : List PacketValue). with_these k l) (sym (append-nil k.hangs))
component_whole k (x ∷ xs) = component_whole (with_hangs k x) xs ∙ ap (λ (l : List PacketValue). with_these k l) (append_assoc k.hangs x.hangs (flat_map (λ d. d.hangs) xs))

pub components_united : (cs : List ComponentValue) → map once_component (joined_all head_name with_hangs cs) ≡ united_components cs
components_united cs =
    ap (map once_component) (sym (joined_is head_name with_hangs (λ k x. refl) cs) ∙ gathered_is same_head (λ c. itself (head_name c)) (alike head_name) with_hangs (λ k x. refl) whole_component component_whole cs)
    ∙ map_map (λ c. whole_component c (like same_head c cs)) once_component (firsts same_head cs)

-- ---- certificates
abbrev whole_certificate : CertificateValue → List CertificateValue → CertificateValue
whole_certificate c all = record {
  primary = c.primary;
  hangs = flat_map (λ d. d.hangs) all;
  components = flat_map (λ d. d.components) all;
}

abbrev with_both : CertificateValue → List PacketValue → List ComponentValue → CertificateValue
with_both k hs cs = record { primary = k.primary; hangs = hs; components = cs }

certificate_whole : (k : CertificateValue) (xs : List CertificateValue) → fold with_parts k xs ≡ whole_certificate k (k ∷ xs)
certificate_whole k [] =
    ap (λ (l : List PacketValue). with_both k l k.components) (sym (append-nil k.hangs))
    ∙ ap (λ (l : List ComponentValue). with_both k (k.hangs ++ []) l) (sym (append-nil k.components))
certificate_whole k (x ∷ xs) =
    let hangs : List PacketValue = flat_map (λ (d : CertificateValue). d.hangs) xs in
    let components : List ComponentValue = flat_map (λ (d : CertificateValue). d.components) xs in
    certificate_whole (with_parts k x) xs
    ∙ ap (λ (l : List PacketValue). with_both k l ((k.components ++ x.components) ++ components)) (append_assoc k.hangs x.hangs hangs)
    ∙ ap (λ (l : List ComponentValue). with_both k (k.hangs ++ (x.hangs ++ hangs)) l) (append_assoc k.components x.components components)

pub certificates_united : (cs : List CertificateValue) → map once_certificate (joined_all primary_name with_parts cs) ≡ map (united_certificate cs) (firsts same_primary cs)
certificates_united cs =
    ap (map once_certificate) (sym (joined_is primary_name with_parts (λ k x. refl) cs) ∙ gathered_is same_primary (λ c. itself (primary_name c)) (alike primary_name) with_parts (λ k x. refl) whole_certificate certificate_whole cs)
    ∙ map_map (λ c. whole_certificate c (like same_primary c cs)) once_certificate (firsts same_primary cs)

-- ---- one after the other

pub once_more : {X : Type 0} (once : X → X) (done before after : List X) (x y : X) → done ≡ map once before → after ≡ done ++ y ∷ [] → y ≡ once x → after ≡ map once (before ++ x ∷ [])
once_more {X} once done before after x y e pushed is = pushed ∙ ap (λ (k : List X). k ++ y ∷ []) e ∙ ap (λ (z : X). map once before ++ z ∷ []) is ∙ sym (map-append once before (x ∷ []))

pub all_more : {X : Type 0} (S : X → Type 0) (done after : List X) (y : X) → after ≡ done ++ y ∷ [] → All S done → S y → All S after
all_more S done after y pushed all here = subst (All S) (sym pushed) (All-push S done y all here)
