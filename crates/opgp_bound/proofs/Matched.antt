-- What is made of the packets of a certificate, and of what is bound of it.
use Rattle.std.proofs.Common.{◌≡◌, ◌∙◌, ◌+◌, ℕ, zero, suc, Bool, true, false, List, [], ◌∷◌, ◌++◌, map, Option, Some, None, refl, sym, ap, subst, if◌then◌else◌, length, take, slice_get, arith, append-nil, inl, inr}
use Rattle.std.specs.List.{Contains, filter, flat_map}
use Rattle.std.proofs.lemmas.Bool.{false≢true, or_parts}
use Rattle.std.proofs.lemmas.Grind.{flat_map-append}
use Rattle.opgp_frame.specs.Packet.{PacketValue}
use Rattle.opgp_hash.specs.SubjectValue.{SubjectValue, one}
use Rattle.opgp_hash.specs.declared.fingerprints.Fingerprint.{Fingerprint}
use Rattle.opgp_keyring.specs.Keyring.{CertificateValue, ComponentValue}
use Rattle.opgp_report.specs.First.{print_of}
use Rattle.opgp_report.specs.Standing.{on_head}
use Rattle.opgp_valid.specs.declared.known_keys.Known.{Known}
use Rattle.opgp_valid.proofs.Members.{member_cases, member_here, member_there, none_in}
use Rattle.opgp_bound.specs.Before.{number_kept}
use Rattle.opgp_bound.specs.Bound.{component_stays, is_bound, is_genuine, kept, kept_component, kept_components, left_behind, packets_of, revokes, role_stays}
use Rattle.opgp_bound.specs.Copies.{Deciding}
use Rattle.opgp_bound.specs.Issuers.{is_issuer}
use Rattle.opgp_bound.specs.Judged.{JudgedComponentValue, JudgedValue}
use Rattle.opgp_bound.proofs.Decided.{bound_by, component_on, judged_on, role_on}
use Rattle.opgp_bound.proofs.Placed.{in_parts, numbered}

-- ---- numbers
-- of flags for components, the one of this number
abbrev pub flag_at : List Bool → ℕ → Bool
flag_at [] i = false
flag_at (b ∷ bs) zero = b
flag_at (b ∷ bs) (suc i) = flag_at bs i

-- which number the component had that now has this one
abbrev pub place : List Bool → ℕ → ℕ
place [] i = i
place (true ∷ bs) zero = zero
place (true ∷ bs) (suc i) = suc (place bs i)
place (false ∷ bs) i = suc (place bs i)

suc_same : (m n : ℕ) → suc m ≡ suc n → m ≡ n
suc_same m n e = omega (arith, e)

pub place_once : (bs : List Bool) (m n : ℕ) → place bs m ≡ place bs n → m ≡ n
place_once [] m n e = e
place_once (true ∷ bs) zero zero e = refl
place_once (true ∷ bs) zero (suc n) e = absurd (omega (arith, e))
place_once (true ∷ bs) (suc m) zero e = absurd (omega (arith, e))
place_once (true ∷ bs) (suc m) (suc n) e = ap suc (place_once bs m n (suc_same (place bs m) (place bs n) e))
place_once (false ∷ bs) m n e = place_once bs m n (suc_same (place bs m) (place bs n) e)

abbrev pub flags_of : List JudgedComponentValue → List Bool
flags_of cs = map component_stays cs

abbrev stays_in : Option JudgedComponentValue → Bool
stays_in None = false
stays_in (Some d) = component_stays d

abbrev kept_from_it : Option JudgedComponentValue → Option ComponentValue
kept_from_it None = None
kept_from_it (Some d) = Some (kept_component d)

-- a component that stays gets as its number how many before it stay
pub kept_place : (cs : List JudgedComponentValue) (n : ℕ) (d : JudgedComponentValue) → slice_get cs n ≡ Some d → component_stays d ≡ true → place (flags_of cs) (number_kept cs n) ≡ n
kept_place [] n d e h = absurd (cc e)
kept_place (c ∷ cs) zero d e h = ap (λ (t : Bool). place (t ∷ flags_of cs) zero) (ap stays_in e ∙ h)
kept_place (c ∷ cs) (suc n) d e h = go (component_stays c) (kept_place cs n d e h) where
  go : (t : Bool) → place (flags_of cs) (number_kept cs n) ≡ n → place (t ∷ flags_of cs) (length (if t then c ∷ filter component_stays (take n cs) else filter component_stays (take n cs))) ≡ suc n
  go true r = ap suc r
  go false r = ap suc r

pub kept_flag : (cs : List JudgedComponentValue) (n : ℕ) (d : JudgedComponentValue) → slice_get cs n ≡ Some d → flag_at (flags_of cs) n ≡ component_stays d
kept_flag [] n d e = absurd (cc e)
kept_flag (c ∷ cs) zero d e = ap stays_in e
kept_flag (c ∷ cs) (suc n) d e = kept_flag cs n d e

-- and is found there
pub kept_there : (cs : List JudgedComponentValue) (n : ℕ) (d : JudgedComponentValue) → slice_get cs n ≡ Some d → component_stays d ≡ true → slice_get (kept_components cs) (number_kept cs n) ≡ Some (kept_component d)
kept_there [] n d e h = absurd (cc e)
kept_there (c ∷ cs) zero d e h = go c (component_stays c) refl e where
  go : (x : JudgedComponentValue) (t : Bool) → component_stays x ≡ t → Some x ≡ Some d → slice_get (map kept_component (if t then x ∷ filter component_stays cs else filter component_stays cs)) zero ≡ Some (kept_component d)
  go x true f g = ap kept_from_it g
  go x false f g = absurd (false≢true (sym f ∙ ap stays_in g ∙ h))
kept_there (c ∷ cs) (suc n) d e h = go (component_stays c) (kept_there cs n d e h) where
  go : (t : Bool) → slice_get (kept_components cs) (number_kept cs n) ≡ Some (kept_component d)
      → slice_get (map kept_component (if t then c ∷ filter component_stays cs else filter component_stays cs)) (length (if t then c ∷ filter component_stays (take n cs) else filter component_stays (take n cs))) ≡ Some (kept_component d)
  go true r = r
  go false r = r

from_here : (n : ℕ) → n + 0 ≡ n
from_here n = omega arith

one_on : (n i : ℕ) → (n + 1) + i ≡ n + suc i
one_on n i = omega arith

out_of : (n x : ℕ) → n + suc x ≡ (n + 1) + x
out_of n x = omega arith

-- ---- what is made agrees
both_empty : {X : Type 0} (xs ys : List X) → xs ++ ys ≡ [] → (xs ≡ []) × (ys ≡ [])
both_empty [] ys e = (refl, e)
both_empty (x ∷ xs) ys e = absurd (cc e)

module _ (known : List Known) (print : Fingerprint) (v : Deciding) (issuers : List Fingerprint) (body : List ℕ) where
  abbrev on_it : SubjectValue → PacketValue → JudgedValue
  on_it subject p = judged_on known print v subject p

  abbrev its : ComponentValue → JudgedComponentValue
  its d = component_on known print v issuers body d

  -- where nothing is left behind at all, no component leaves any
  none_left : (ds : List ComponentValue) → flat_map left_behind (map its ds) ≡ [] → (d : ComponentValue) → Contains ds d → left_behind (its d) ≡ []
  none_left [] e d h = absurd (none_in d h)
  none_left (x ∷ ds) e d h =
      let parts : (left_behind (its x) ≡ []) × (flat_map left_behind (map its ds) ≡ []) = both_empty (left_behind (its x)) (flat_map left_behind (map its ds)) e in
      elim (member_cases x d ds h) [
        | inl is ↦ subst (λ (y : ComponentValue). left_behind (its y) ≡ []) is parts.0
        | inr there ↦ none_left ds parts.1 d there
      ]

  module _ {X : Type 0} where
    -- nothing is made of what goes, and the same of what stays; of what is put behind the packets on
    -- the primary key nothing is made there
    pub record Agree (stays : ℕ → Bool) (make made : Option ℕ → SubjectValue → PacketValue → List X) : Type 0 where
      pub going : (o : Option ℕ) (subject : SubjectValue) (p : PacketValue) → role_stays (role_on known print v subject p) ≡ false → make o subject p ≡ []
      pub primary : (p : PacketValue) → make None (one body) p ≡ made None (one body) p
      pub left : (subject : SubjectValue) (p : PacketValue) → revokes (role_on known print v subject p) ≡ true → made None (one body) p ≡ []
      pub gone : (n : ℕ) (subject : SubjectValue) (p : PacketValue) → stays n ≡ false → is_genuine (role_on known print v subject p) ≡ false → make (Some n) subject p ≡ []
      pub staying : (n : ℕ) (subject : SubjectValue) (p : PacketValue) → stays n ≡ true → make (Some n) subject p ≡ made (Some n) subject p

    -- the same where nothing is put elsewhere: no key revocation is on a component that goes
    pub record AgreeInPlace (stays : ℕ → Bool) (make made : Option ℕ → SubjectValue → PacketValue → List X) : Type 0 where
      pub going : (o : Option ℕ) (subject : SubjectValue) (p : PacketValue) → role_stays (role_on known print v subject p) ≡ false → make o subject p ≡ []
      pub primary : (p : PacketValue) → make None (one body) p ≡ made None (one body) p
      pub gone : (n : ℕ) (subject : SubjectValue) (p : PacketValue) → stays n ≡ false → is_genuine (role_on known print v subject p) ≡ false → revokes (role_on known print v subject p) ≡ false → make (Some n) subject p ≡ []
      pub staying : (n : ℕ) (subject : SubjectValue) (p : PacketValue) → stays n ≡ true → make (Some n) subject p ≡ made (Some n) subject p

    kept_same : (f g : PacketValue → List X) (subject : SubjectValue) → ((p : PacketValue) → role_stays (role_on known print v subject p) ≡ false → f p ≡ []) → ((p : PacketValue) → f p ≡ g p)
        → (ps : List PacketValue) → flat_map f ps ≡ flat_map g (kept (map (on_it subject) ps))
    kept_same f g subject none same [] = refl
    kept_same f g subject none same (p ∷ ps) = go (role_stays (role_on known print v subject p)) refl (kept_same f g subject none same ps) where
      rest : List JudgedValue
      rest = filter (λ j. role_stays j.role) (map (on_it subject) ps)

      go : (t : Bool) → role_stays (role_on known print v subject p) ≡ t → flat_map f ps ≡ flat_map g (packets_of rest) → f p ++ flat_map f ps ≡ flat_map g (packets_of (if t then on_it subject p ∷ rest else rest))
      go true e r = ap (λ (l : List X). l ++ flat_map f ps) (same p) ∙ ap (λ (l : List X). g p ++ l) r
      go false e r = ap (λ (l : List X). l ++ flat_map f ps) (none p e) ∙ r

    left_none : (g : PacketValue → List X) (subject : SubjectValue) → ((p : PacketValue) → revokes (role_on known print v subject p) ≡ true → g p ≡ [])
        → (ps : List PacketValue) → flat_map g (packets_of (filter (λ j. revokes j.role) (map (on_it subject) ps))) ≡ []
    left_none g subject none [] = refl
    left_none g subject none (p ∷ ps) = go (revokes (role_on known print v subject p)) refl (left_none g subject none ps) where
      rest : List JudgedValue
      rest = filter (λ j. revokes j.role) (map (on_it subject) ps)

      go : (t : Bool) → revokes (role_on known print v subject p) ≡ t → flat_map g (packets_of rest) ≡ [] → flat_map g (packets_of (if t then on_it subject p ∷ rest else rest)) ≡ []
      go true e r = ap (λ (l : List X). l ++ flat_map g (packets_of rest)) (none p e) ∙ r
      go false e r = r

    gone_none : (f : PacketValue → List X) (subject : SubjectValue) → ((p : PacketValue) → is_genuine (role_on known print v subject p) ≡ false → f p ≡ [])
        → (ps : List PacketValue) → is_bound (map (on_it subject) ps) ≡ false → flat_map f ps ≡ []
    gone_none f subject none [] e = refl
    gone_none f subject none (p ∷ ps) e =
        let parts = or_parts (is_genuine (role_on known print v subject p)) (is_bound (map (on_it subject) ps)) e in
        ap (λ (l : List X). l ++ flat_map f ps) (none p parts.0) ∙ gone_none f subject none ps parts.1

    left_all : (made : Option ℕ → SubjectValue → PacketValue → List X) → ((subject : SubjectValue) (p : PacketValue) → revokes (role_on known print v subject p) ≡ true → made None (one body) p ≡ [])
        → (ds : List ComponentValue) → flat_map (made None (one body)) (flat_map left_behind (map its ds)) ≡ []
    left_all made none [] = refl
    left_all made none (d ∷ ds) =
        flat_map-append (made None (one body)) (left_behind (its d)) (flat_map left_behind (map its ds))
        ∙ ap (λ (l : List X). l ++ flat_map (made None (one body)) (flat_map left_behind (map its ds))) (go (component_stays (its d)))
        ∙ left_all made none ds where
          go : (t : Bool) → flat_map (made None (one body)) (if t then [] else packets_of (filter (λ j. revokes j.role) (its d).hangs)) ≡ []
          go true = refl
          go false = left_none (made None (one body)) (on_head body d.head) (none (on_head body d.head)) d.hangs

    -- nothing is made of what is on a component that goes
    abbrev GoesEmpty : (stays : ℕ → Bool) → (Option ℕ → SubjectValue → PacketValue → List X) → ℕ → ComponentValue → Type 0
    GoesEmpty stays make i d = stays i ≡ false → component_stays (its d) ≡ false → flat_map (make (Some i) (on_head body d.head)) d.hangs ≡ []

    gone_empty : (stays : ℕ → Bool) (make : Option ℕ → SubjectValue → PacketValue → List X)
        → ((n : ℕ) (subject : SubjectValue) (p : PacketValue) → stays n ≡ false → is_genuine (role_on known print v subject p) ≡ false → make (Some n) subject p ≡ [])
        → (i : ℕ) (d : ComponentValue) → GoesEmpty stays make i d
    gone_empty stays make gone i d e h =
        gone_none (make (Some i) (on_head body d.head)) (on_head body d.head) (λ p. gone i (on_head body d.head) p e) d.hangs (or_parts (is_bound (map (on_it (on_head body d.head)) d.hangs)) (is_issuer issuers d) h).0

    -- where no key revocation is there
    unrevoking_none : (f : PacketValue → List X) (subject : SubjectValue) → ((p : PacketValue) → is_genuine (role_on known print v subject p) ≡ false → revokes (role_on known print v subject p) ≡ false → f p ≡ [])
        → (ps : List PacketValue) → is_bound (map (on_it subject) ps) ≡ false → packets_of (filter (λ j. revokes j.role) (map (on_it subject) ps)) ≡ [] → flat_map f ps ≡ []
    unrevoking_none f subject none [] e h = refl
    unrevoking_none f subject none (p ∷ ps) e h = go (revokes (role_on known print v subject p)) refl h (λ g. unrevoking_none f subject none ps parts.1 g) where
      rest : List JudgedValue
      rest = filter (λ j. revokes j.role) (map (on_it subject) ps)

      parts : (is_genuine (role_on known print v subject p) ≡ false) × (is_bound (map (on_it subject) ps) ≡ false)
      parts = or_parts (is_genuine (role_on known print v subject p)) (is_bound (map (on_it subject) ps)) e

      go : (t : Bool) → revokes (role_on known print v subject p) ≡ t → packets_of (if t then on_it subject p ∷ rest else rest) ≡ [] → (packets_of rest ≡ [] → flat_map f ps ≡ []) → f p ++ flat_map f ps ≡ []
      go true i g later = absurd (cc g)
      go false i g later = ap (λ (l : List X). l ++ flat_map f ps) (none p parts.0 i) ∙ later g

    left_empty : (stays : ℕ → Bool) (make : Option ℕ → SubjectValue → PacketValue → List X)
        → ((n : ℕ) (subject : SubjectValue) (p : PacketValue) → stays n ≡ false → is_genuine (role_on known print v subject p) ≡ false → revokes (role_on known print v subject p) ≡ false → make (Some n) subject p ≡ [])
        → (i : ℕ) (d : ComponentValue) → left_behind (its d) ≡ [] → GoesEmpty stays make i d
    left_empty stays make gone i d l e h =
        unrevoking_none (make (Some i) (on_head body d.head)) (on_head body d.head) (λ p. gone i (on_head body d.head) p e) d.hangs (or_parts (is_bound (map (on_it (on_head body d.head)) d.hangs)) (is_issuer issuers d) h).0
        (ap (λ (t : Bool). if t then [] else packets_of (filter (λ j. revokes j.role) (its d).hangs)) (sym h) ∙ l)

    module _ (stays : ℕ → Bool) (make made : Option ℕ → SubjectValue → PacketValue → List X)
        (going : (o : Option ℕ) (subject : SubjectValue) (p : PacketValue) → role_stays (role_on known print v subject p) ≡ false → make o subject p ≡ [])
        (staying : (n : ℕ) (subject : SubjectValue) (p : PacketValue) → stays n ≡ true → make (Some n) subject p ≡ made (Some n) subject p) where
      on_components : (n k : ℕ) (ds : List ComponentValue) (q : ℕ → ℕ) → ((i : ℕ) (d : ComponentValue) → Contains ds d → GoesEmpty stays make i d) → ((i : ℕ) → stays (n + i) ≡ flag_at (flags_of (map its ds)) i) → ((i : ℕ) → q (k + i) ≡ n + place (flags_of (map its ds)) i)
          → numbered make (λ i. i) body n ds ≡ numbered made q body k (kept_components (map its ds))
      on_components n k [] q empty f g = refl
      on_components n k (d ∷ ds) q empty f g = go (component_stays (its d)) refl f g (λ m a b. on_components (n + 1) m ds q (λ i e h. empty i e (member_there d e ds h)) a b) where
        rest : List JudgedComponentValue
        rest = filter component_stays (map its ds)

        flags : List Bool
        flags = flags_of (map its ds)

        subject : SubjectValue
        subject = on_head body d.head

        next_flag : (t : Bool) → ((i : ℕ) → stays (n + i) ≡ flag_at (t ∷ flags) i) → (i : ℕ) → stays ((n + 1) + i) ≡ flag_at flags i
        next_flag t f i = ap stays (one_on n i) ∙ f (suc i)

        here_flag : (t : Bool) → ((i : ℕ) → stays (n + i) ≡ flag_at (t ∷ flags) i) → stays n ≡ t
        here_flag t f = ap stays (sym (from_here n)) ∙ f zero

        Rest : Type 0
        Rest = (m : ℕ) → ((i : ℕ) → stays ((n + 1) + i) ≡ flag_at flags i) → ((i : ℕ) → q (m + i) ≡ (n + 1) + place flags i) → numbered make (λ i. i) body (n + 1) ds ≡ numbered made q body m (map kept_component rest)

        go : (t : Bool) → component_stays (its d) ≡ t → ((i : ℕ) → stays (n + i) ≡ flag_at (t ∷ flags) i) → ((i : ℕ) → q (k + i) ≡ n + place (t ∷ flags) i) → Rest
            → flat_map (make (Some n) subject) d.hangs ++ numbered make (λ i. i) body (n + 1) ds ≡ numbered made q body k (map kept_component (if t then its d ∷ rest else rest))
        go true e f g others =
            let number : q k ≡ n = ap q (sym (from_here k)) ∙ g zero ∙ from_here n in
            let later : numbered make (λ i. i) body (n + 1) ds ≡ numbered made q body (k + 1) (map kept_component rest) =
            others (k + 1) (next_flag true f) (λ i. ap q (one_on k i) ∙ g (suc i) ∙ out_of n (place flags i)) in
            ap (λ (l : List X). l ++ numbered make (λ i. i) body (n + 1) ds)
            (kept_same (make (Some n) subject) (made (Some n) subject) subject (going (Some n) subject) (λ p. staying n subject p (here_flag true f)) d.hangs)
            ∙ ap (λ (l : List X). flat_map (made (Some n) subject) (kept (map (on_it subject) d.hangs)) ++ l) later
            ∙ ap (λ (m : ℕ). flat_map (made (Some m) subject) (kept (map (on_it subject) d.hangs)) ++ numbered made q body (k + 1) (map kept_component rest)) (sym number)
        go false e f g others =
            ap (λ (l : List X). l ++ numbered make (λ i. i) body (n + 1) ds) (empty n d (member_here d ds) (here_flag false f) e)
            ∙ others k (next_flag false f) (λ i. g i ∙ out_of n (place flags i))

-- ---- of a certificate
module _ (known : List Known) (v : Deciding) (issuers : List Fingerprint) (c : CertificateValue) where
  abbrev print : Fingerprint
  print = print_of c.primary.body

  -- which of its components stay
  abbrev pub flags : List Bool
  flags = flags_of (map (component_on known print v issuers c.primary.body) c.components)

  from_zero : (n : ℕ) → 0 + n ≡ n
  from_zero n = omega arith

  module _ {X : Type 0} (make made : Option ℕ → SubjectValue → PacketValue → List X)
      (going : (o : Option ℕ) (subject : SubjectValue) (p : PacketValue) → role_stays (role_on known print v subject p) ≡ false → make o subject p ≡ [])
      (primary : (p : PacketValue) → make None (one c.primary.body) p ≡ made None (one c.primary.body) p)
      (staying : (n : ℕ) (subject : SubjectValue) (p : PacketValue) → flag_at flags n ≡ true → make (Some n) subject p ≡ made (Some n) subject p)
      (left : flat_map (made None (one c.primary.body)) (flat_map left_behind (map (component_on known print v issuers c.primary.body) c.components)) ≡ [])
      (empty : (i : ℕ) (d : ComponentValue) → Contains c.components d → GoesEmpty known print v issuers c.primary.body (flag_at flags) make i d) where
    parts_same : in_parts make (λ i. i) c ≡ in_parts made (place flags) (bound_by known v issuers c)
    parts_same =
        let body : List ℕ = c.primary.body in
        let stay : List PacketValue = kept (map (judged_on known print v (one body)) c.hangs) in
        let cs : List JudgedComponentValue = map (component_on known print v issuers body) c.components in
        let hangs : flat_map (make None (one body)) c.hangs ≡ flat_map (made None (one body)) (stay ++ flat_map left_behind cs) =
        kept_same known print v issuers body (make None (one body)) (made None (one body)) (one body) (going None (one body)) primary c.hangs
        ∙ sym (append-nil (flat_map (made None (one body)) stay))
        ∙ ap (λ (l : List X). flat_map (made None (one body)) stay ++ l) (sym left)
        ∙ sym (flat_map-append (made None (one body)) stay (flat_map left_behind cs)) in
        ap (λ (l : List X). l ++ numbered make (λ i. i) body 0 c.components) hangs
        ∙ ap (λ (l : List X). flat_map (made None (one body)) (stay ++ flat_map left_behind cs) ++ l)
        (on_components known print v issuers body (flag_at flags) make made going staying 0 0 c.components (place flags) empty (λ i. ap (flag_at flags) (from_zero i)) (λ i. ap (place flags) (from_zero i) ∙ sym (from_zero (place flags i))))

  pub parts_agree : {X : Type 0} (make made : Option ℕ → SubjectValue → PacketValue → List X) → Agree known print v issuers c.primary.body (flag_at flags) make made
      → in_parts make (λ i. i) c ≡ in_parts made (place flags) (bound_by known v issuers c)
  parts_agree make made agree =
      parts_same make made agree.going agree.primary agree.staying
      (left_all known print v issuers c.primary.body made agree.left c.components)
      (λ i d h. gone_empty known print v issuers c.primary.body (flag_at flags) make agree.gone i d)

  -- where no key revocation is put elsewhere
  pub parts_alike : {X : Type 0} (make made : Option ℕ → SubjectValue → PacketValue → List X) → flat_map left_behind (map (component_on known print v issuers c.primary.body) c.components) ≡ []
      → AgreeInPlace known print v issuers c.primary.body (flag_at flags) make made → in_parts make (λ i. i) c ≡ in_parts made (place flags) (bound_by known v issuers c)
  parts_alike make made none agree =
      parts_same make made agree.going agree.primary agree.staying
      (ap (flat_map (made None (one c.primary.body))) none)
      (λ i d h. left_empty known print v issuers c.primary.body (flag_at flags) make agree.gone i d (none_left known print v issuers c.primary.body c.components none d h))
