-- What the signatures of a certificate say, packet by packet, apart from where each hangs.
use Rattle.std.proofs.Common.{◌≡◌, ◌∙◌, ◌+◌, ◌≤◌, ◌==◌, ℕ, Bool, true, false, ◌&&◌, List, [], ◌∷◌, ◌++◌, map, Option, Some, None, Result, Ok, Err, is_some, refl, sym, ap, if◌then◌else◌, inl, inr, arith, append_assoc, append-nil}
use Rattle.std.specs.List.{flat_map, fold, list_any}
use Rattle.std.proofs.lemmas.Bool.{and_from, eq-eqb, or_from}
use Rattle.std.proofs.lemmas.Grind.{flat_map-append}
use Rattle.std.proofs.lemmas.List.{map-append}
use Rattle.std.proofs.lemmas.List.Folds.{list_any-append}
use Rattle.std.proofs.lemmas.List.Sums.{fold-append}
use Rattle.opgp_octets.specs.declared.fault.BodyFault.{BodyFault}
use Rattle.opgp_frame.specs.Packet.{PacketValue}
use Rattle.opgp_packet.specs.SignatureBody.{SignatureValue, signature_at}
use Rattle.opgp_hash.specs.SignedValue.{signed_of}
use Rattle.opgp_hash.specs.SubjectValue.{SubjectValue, one}
use Rattle.opgp_hash.specs.declared.fingerprints.Fingerprint.{Fingerprint}
use Rattle.opgp_hash.specs.declared.site.Site.TheVariants.{Embedded, Hung}
use Rattle.opgp_keyring.specs.Keyring.{CertificateValue, ComponentValue}
use Rattle.opgp_report.specs.Standing.{Standing, bodies_within, by_number, certificate_standing, component_standing, hang_standing, hangs_standing, hung_at, is_signature, nested_at, nested_standing, on_head, signature_standing, stands}
use Rattle.opgp_report.specs.declared.place.Place.{Place}
use Rattle.opgp_report.specs.declared.verifier.Verdict.{Verdict}
use Rattle.opgp_valid.specs.Group.{is_the}
use Rattle.opgp_valid.specs.Told.{author_of, back_in, change_last, holds, is_right, is_same_number, issuer, lives_in, second_key, stated, stated_by, statement_of, told, told_by, told_with, with_back, with_verdicts}
use Rattle.opgp_valid.specs.declared.known_keys.Known.{Known}
use Rattle.opgp_valid.specs.declared.policy.Policy.{Policy}
use Rattle.opgp_valid.specs.declared.statement.Author.{Author}
use Rattle.opgp_valid.specs.declared.statement.Life.{Life}
use Rattle.opgp_valid.specs.declared.statement.Statement.{Statement}
use Rattle.opgp_valid.proofs.Groups.{IsFrom, elsewhere, group_apart, rank}
use Rattle.opgp_valid.proofs.Renumbered.{renumbered}
use Rattle.opgp_bound.specs.Copies.{Deciding, decided}
use Rattle.opgp_bound.proofs.Revoking.{with_each}

-- ---- statements elsewhere
-- a statement at this place; and on this component, wherever it hangs there
abbrev pub at : Option ℕ → ℕ → Statement → Statement
at o n s = record s { component = o; hang = n }

abbrev pub on : Option ℕ → Statement → Statement
on o s = at o 0 s

-- with another number for each component, wherever they hang there
abbrev pub moved : (ℕ → ℕ) → Statement → Statement
moved q s = on (renumbered q s.component) s

abbrev pub set_back : Option Life → Statement → Statement
set_back life s = record s { back = life }

moved_at : (q : ℕ → ℕ) (o : Option ℕ) (n : ℕ) (ss : List Statement) → map (moved q) (map (at o n) ss) ≡ map (on (renumbered q o)) ss
moved_at q o n [] = refl
moved_at q o n (s ∷ ss) = ap (λ (l : List Statement). on (renumbered q o) s ∷ l) (moved_at q o n ss)

-- one is at its own place
itself : (o : Option ℕ) → is_same_number o o ≡ true
itself None = refl
itself (Some n) = eq-eqb n n refl

held : (o : Option ℕ) (n : ℕ) → (is_same_number o o && (n == n)) ≡ true
held o n = and_from (is_same_number o o) (n == n) (itself o) (eq-eqb n n refl)

pub last_at : (o : Option ℕ) (n i : ℕ) (life : Option Life) (ss : List Statement) → change_last (with_back (nested_at (hung_at 0 o n) i) life) (map (at o n) ss) ≡ map (at o n) (change_last (set_back life) ss)
last_at o n i life [] = refl
last_at o n i life (s ∷ []) = ap (λ (t : Bool). (if t then at o n (set_back life s) else at o n s) ∷ []) (held o n)
last_at o n i life (s ∷ r ∷ ss) = ap (λ (l : List Statement). at o n s ∷ l) (last_at o n i life (r ∷ ss))

-- ---- places in order
-- none of these is at this place, or behind it
abbrev pub AreBefore : ℕ → ℕ → List Statement → Type 0
AreBefore r n ss = (p : Place) → IsFrom r n p → list_any (holds p) ss ≡ false

pub nearer : (r n : ℕ) (p : Place) → IsFrom r (n + 1) p → IsFrom r n p
nearer r n p (inl l) = inl l
nearer r n p (inr l) = let h : n + 1 ≤ p.hang = l.1 in inr (l.0, omega arith)

pub further : (r n : ℕ) (p : Place) → IsFrom (r + 1) 0 p → IsFrom r n p
further r n p (inl l) = inl (omega arith)
further r n p (inr l) = let h : r + 1 ≡ rank p.component = l.0 in inl (omega arith)

pub away : (o : Option ℕ) (n : ℕ) (p : Place) → IsFrom (rank o) (n + 1) p → (ss : List Statement) → list_any (holds p) (map (at o n) ss) ≡ false
away o n p far [] = refl
away o n p far (s ∷ ss) = or_from _ _ (elsewhere o n p far) (away o n p far ss)

-- ---- part by part
-- what is made of each packet on the primary key and on the components, with these numbers
abbrev pub numbered : {X : Type 0} → (Option ℕ → SubjectValue → PacketValue → List X) → (ℕ → ℕ) → List ℕ → ℕ → List ComponentValue → List X
numbered make q body n [] = []
numbered make q body n (d ∷ ds) = flat_map (make (Some (q n)) (on_head body d.head)) d.hangs ++ numbered make q body (n + 1) ds

abbrev pub in_parts : {X : Type 0} → (Option ℕ → SubjectValue → PacketValue → List X) → (ℕ → ℕ) → CertificateValue → List X
in_parts make q c = flat_map (make None (one c.primary.body)) c.hangs ++ numbered make q c.primary.body 0 c.components

-- what is made of the items
module _ {X Y : Type 0} (f : X → List Y) where
  pub flat_in_flat : {Z : Type 0} (g : Z → List X) (zs : List Z) → flat_map f (flat_map g zs) ≡ flat_map (λ z. flat_map f (g z)) zs
  flat_in_flat g [] = refl
  flat_in_flat g (z ∷ zs) = flat_map-append f (g z) (flat_map g zs) ∙ ap (λ (l : List Y). flat_map f (g z) ++ l) (flat_in_flat g zs)

  module _ (make : Option ℕ → SubjectValue → PacketValue → List X) (q : ℕ → ℕ) where
    flat_in_numbered : (body : List ℕ) (n : ℕ) (ds : List ComponentValue) → flat_map f (numbered make q body n ds) ≡ numbered (λ o subject p. flat_map f (make o subject p)) q body n ds
    flat_in_numbered body n [] = refl
    flat_in_numbered body n (d ∷ ds) =
        flat_map-append f (flat_map (make (Some (q n)) (on_head body d.head)) d.hangs) (numbered make q body (n + 1) ds)
        ∙ ap (λ (l : List Y). l ++ flat_map f (numbered make q body (n + 1) ds)) (flat_in_flat (make (Some (q n)) (on_head body d.head)) d.hangs)
        ∙ ap (λ (l : List Y). flat_map (λ p. flat_map f (make (Some (q n)) (on_head body d.head) p)) d.hangs ++ l) (flat_in_numbered body (n + 1) ds)

    pub flat_in_parts : (c : CertificateValue) → flat_map f (in_parts make q c) ≡ in_parts (λ o subject p. flat_map f (make o subject p)) q c
    flat_in_parts c =
        flat_map-append f (flat_map (make None (one c.primary.body)) c.hangs) (numbered make q c.primary.body 0 c.components)
        ∙ ap (λ (l : List Y). l ++ flat_map f (numbered make q c.primary.body 0 c.components)) (flat_in_flat (make None (one c.primary.body)) c.hangs)
        ∙ ap (λ (l : List Y). flat_map (λ p. flat_map f (make None (one c.primary.body) p)) c.hangs ++ l) (flat_in_numbered c.primary.body 0 c.components)

-- ---- what a packet says
-- the first place of a certificate
abbrev pub start : Place
start = hung_at 0 None 0

-- a signature says the same at each place
module _ (known : List Known) (policy : Policy) (print : Fingerprint) (revokers : List Fingerprint) (o : Option ℕ) (n : ℕ) (subject : SubjectValue) where
  each_at : (w : SignatureValue) (by : Author) (lives : List (Option Life)) → map (statement_of known policy print revokers (hung_at 0 o n) subject w by) lives ≡ map (at o n) (map (statement_of known policy print revokers start subject w by) lives)
  each_at w by [] = refl
  each_at w by (l ∷ ls) = ap (λ (ss : List Statement). statement_of known policy print revokers (hung_at 0 o n) subject w by l ∷ ss) (each_at w by ls)

  by_at : (w : SignatureValue) (by : Option Author) → stated_by known policy print revokers (hung_at 0 o n) subject w by ≡ map (at o n) (stated_by known policy print revokers start subject w by)
  by_at w None = refl
  by_at w (Some by) = each_at w by (lives_in w)

  pub stated_at : (w : SignatureValue) → stated known policy print revokers (hung_at 0 o n) subject w ≡ map (at o n) (stated known policy print revokers start subject w)
  stated_at w = go (is_some (signed_of w)) where
    who : Option Author
    who = author_of known policy print revokers (issuer known policy print w)

    go : (t : Bool) → (if t then stated_by known policy print revokers (hung_at 0 o n) subject w who else []) ≡ map (at o n) (if t then stated_by known policy print revokers start subject w who else [])
    go true = by_at w who
    go false = refl

module _ (known : List Known) (policy : Policy) (print : Fingerprint) (revokers : List Fingerprint) (v : Deciding) where
  abbrev pub row : Standing → Standing × Verdict
  row s = (s, decided v s)

  abbrev tell : List Statement → Standing × Verdict → List Statement
  tell before x = told known policy print revokers before x

  abbrev pub tell_all : List Statement → List Standing → List Statement
  tell_all before ss = fold tell before (map row ss)

  -- the signature itself, and with the life of one that is embedded in it
  abbrev pub said_one : SubjectValue → Verdict → Result SignatureValue BodyFault → List Statement
  said_one subject found (Err fault) = []
  said_one subject found (Ok w) = if is_right Hung start subject found w then stated known policy print revokers start subject w else []

  abbrev pub with_one : SubjectValue → ℕ → Verdict → Result SignatureValue BodyFault → List Statement → List Statement
  with_one subject n found (Err fault) ss = ss
  with_one subject n found (Ok w) ss = if is_right Embedded (nested_at start n) subject found w
      then (if is_the 0 (Some n) then change_last (set_back (back_in known policy print (second_key subject) w)) ss else ss) else ss

  abbrev pub with_all : SubjectValue → ℕ → List (List ℕ) → List Statement → List Statement
  with_all subject n [] ss = ss
  with_all subject n (body ∷ bodies) ss = with_all subject (n + 1) bodies (with_one subject n (v Embedded subject body) (signature_at body) ss)

  abbrev pub said : SubjectValue → List ℕ → List Statement
  said subject body = with_all subject 0 (bodies_within subject (signature_at body)) (said_one subject (v Hung subject body) (signature_at body))

  -- of a packet on a subject
  abbrev pub said_of : SubjectValue → PacketValue → List Statement
  said_of subject p = if is_signature p then said subject p.body else []

  -- ---- the same at each place
  module _ (o : Option ℕ) (n : ℕ) (subject : SubjectValue) where
    abbrev here : Place
    here = hung_at 0 o n

    one_at : (body : List ℕ) (found : Verdict) (r : Result SignatureValue BodyFault) → told_with known policy print revokers [] (stands Hung here subject body) found r ≡ map (at o n) (said_one subject found r)
    one_at body found (Err fault) = refl
    one_at body found (Ok w) = go (is_right Hung start subject found w) where
      go : (t : Bool) → (if t then told_by known policy print revokers (stands Hung here subject body) w [] else []) ≡ map (at o n) (if t then stated known policy print revokers start subject w else [])
      go true = stated_at known policy print revokers o n subject w
      go false = refl

    with_at : (i : ℕ) (body : List ℕ) (found : Verdict) (r : Result SignatureValue BodyFault) (ss : List Statement)
        → told_with known policy print revokers (map (at o n) ss) (stands Embedded (nested_at here i) subject body) found r ≡ map (at o n) (with_one subject i found r ss)
    with_at i body found (Err fault) ss = refl
    with_at i body found (Ok w) ss = go (is_right Embedded (nested_at start i) subject found w) where
      life : Option Life
      life = back_in known policy print (second_key subject) w

      first : (t : Bool) → (if t then change_last (with_back (nested_at here i) life) (map (at o n) ss) else map (at o n) ss) ≡ map (at o n) (if t then change_last (set_back life) ss else ss)
      first true = last_at o n i life ss
      first false = refl

      go : (t : Bool) → (if t then told_by known policy print revokers (stands Embedded (nested_at here i) subject body) w (map (at o n) ss) else map (at o n) ss)
          ≡ map (at o n) (if t then (if is_the 0 (Some i) then change_last (set_back life) ss else ss) else ss)
      go true = first (is_the 0 (Some i))
      go false = refl

    all_at : (i : ℕ) (bodies : List (List ℕ)) (ss : List Statement) → tell_all (map (at o n) ss) (by_number (nested_standing here subject) i bodies) ≡ map (at o n) (with_all subject i bodies ss)
    all_at i [] ss = refl
    all_at i (body ∷ bodies) ss =
        ap (λ (l : List Statement). tell_all l (by_number (nested_standing here subject) (i + 1) bodies)) (with_at i body (v Embedded subject body) (signature_at body) ss)
        ∙ all_at (i + 1) bodies (with_one subject i (v Embedded subject body) (signature_at body) ss)

    said_at : (body : List ℕ) → tell_all [] (signature_standing here subject body) ≡ map (at o n) (said subject body)
    said_at body =
        ap (λ (l : List Statement). tell_all l (by_number (nested_standing here subject) 0 (bodies_within subject (signature_at body)))) (one_at body (v Hung subject body) (signature_at body))
        ∙ all_at 0 (bodies_within subject (signature_at body)) (said_one subject (v Hung subject body) (signature_at body))

    -- behind what is said at other places
    apart_at : (body : List ℕ) (before : List Statement) → list_any (holds here) before ≡ false → tell_all before (signature_standing here subject body) ≡ before ++ map (at o n) (said subject body)
    apart_at body before e =
        let rows : List Standing = signature_standing here subject body in
        let founds : List Verdict = map (decided v) rows in
        ap (fold tell before) (sym (with_each (decided v) rows))
        ∙ ap (λ (l : List Statement). fold tell l (with_verdicts founds rows)) (sym (append-nil before))
        ∙ group_apart known policy print revokers here subject body founds before [] e
        ∙ ap (λ (l : List (Standing × Verdict)). before ++ fold tell [] l) (with_each (decided v) rows)
        ∙ ap (λ (l : List Statement). before ++ l) (said_at body)

    hang_at : (p : PacketValue) (before : List Statement) → list_any (holds here) before ≡ false → tell_all before (hang_standing 0 o subject n p) ≡ before ++ map (at o n) (said_of subject p)
    hang_at p before e = go (is_signature p) where
      go : (t : Bool) → tell_all before (if t then signature_standing here subject p.body else []) ≡ before ++ map (at o n) (if t then said subject p.body else [])
      go true = apart_at p.body before e
      go false = sym (append-nil before)

  -- ---- one after the other
  abbrev placed : Option ℕ → SubjectValue → ℕ → List PacketValue → List Statement
  placed o subject n [] = []
  placed o subject n (p ∷ ps) = map (at o n) (said_of subject p) ++ placed o subject (n + 1) ps

  abbrev TellsOn : Option ℕ → SubjectValue → ℕ → List PacketValue → List Statement → Type 0
  TellsOn o subject n ps before = (tell_all before (by_number (hang_standing 0 o subject) n ps) ≡ before ++ placed o subject n ps)
      × AreBefore (rank o + 1) 0 (before ++ placed o subject n ps)

  hangs_tell : (o : Option ℕ) (subject : SubjectValue) (n : ℕ) (ps : List PacketValue) (before : List Statement) → AreBefore (rank o) n before → TellsOn o subject n ps before
  hangs_tell o subject n [] before h = (sym (append-nil before), λ p far. ap (list_any (holds p)) (append-nil before) ∙ h p (further (rank o) n p far))
  hangs_tell o subject n (p ∷ ps) before h =
      let these : List Statement = map (at o n) (said_of subject p) in
      let next : AreBefore (rank o) (n + 1) (before ++ these) = λ q far. list_any-append (holds q) before these ∙ or_from _ _ (h q (nearer (rank o) n q far)) (away o n q far (said_of subject p)) in
      let rest : TellsOn o subject (n + 1) ps (before ++ these) = hangs_tell o subject (n + 1) ps (before ++ these) next in
      let more : List Standing = by_number (hang_standing 0 o subject) (n + 1) ps in (
        ap (fold tell before) (map-append row (hang_standing 0 o subject n p) more)
            ∙ fold-append tell before (map row (hang_standing 0 o subject n p)) (map row more)
            ∙ ap (λ (l : List Statement). tell_all l more) (hang_at o n subject p before (h (hung_at 0 o n) (inr (refl, omega arith))))
            ∙ rest.0 ∙ append_assoc before these (placed o subject (n + 1) ps),
        λ q far. ap (list_any (holds q)) (sym (append_assoc before these (placed o subject (n + 1) ps))) ∙ rest.1 q far,
      )

  abbrev placed_on : List ℕ → ℕ → List ComponentValue → List Statement
  placed_on body n [] = []
  placed_on body n (d ∷ ds) = placed (Some n) (on_head body d.head) 0 d.hangs ++ placed_on body (n + 1) ds

  components_tell : (body : List ℕ) (n : ℕ) (ds : List ComponentValue) (before : List Statement) → AreBefore (n + 1) 0 before → tell_all before (by_number (component_standing body 0) n ds) ≡ before ++ placed_on body n ds
  components_tell body n [] before h = sym (append-nil before)
  components_tell body n (d ∷ ds) before h =
      let these : List Statement = placed (Some n) (on_head body d.head) 0 d.hangs in
      let this : TellsOn (Some n) (on_head body d.head) 0 d.hangs before = hangs_tell (Some n) (on_head body d.head) 0 d.hangs before h in
      let more : List Standing = by_number (component_standing body 0) (n + 1) ds in
      ap (fold tell before) (map-append row (component_standing body 0 n d) more)
      ∙ fold-append tell before (map row (component_standing body 0 n d)) (map row more)
      ∙ ap (λ (l : List Statement). tell_all l more) this.0
      ∙ components_tell body (n + 1) ds (before ++ these) this.1
      ∙ append_assoc before these (placed_on body (n + 1) ds)

  certificate_tells : (c : CertificateValue) → tell_all [] (certificate_standing 0 c) ≡ placed None (one c.primary.body) 0 c.hangs ++ placed_on c.primary.body 0 c.components
  certificate_tells c =
      let on_key : List Standing = hangs_standing 0 None (one c.primary.body) c.hangs in
      let more : List Standing = by_number (component_standing c.primary.body 0) 0 c.components in
      let this : TellsOn None (one c.primary.body) 0 c.hangs [] = hangs_tell None (one c.primary.body) 0 c.hangs [] (λ p far. refl) in
      ap (fold tell []) (map-append row on_key more)
      ∙ fold-append tell [] (map row on_key) (map row more)
      ∙ ap (λ (l : List Statement). tell_all l more) this.0
      ∙ components_tell c.primary.body 0 c.components (placed None (one c.primary.body) 0 c.hangs) this.1

  -- ---- with other numbers
  abbrev pub said_on : Option ℕ → SubjectValue → PacketValue → List Statement
  said_on o subject p = map (on o) (said_of subject p)

  module _ (q : ℕ → ℕ) where
    placed_moved : (o : Option ℕ) (subject : SubjectValue) (n : ℕ) (ps : List PacketValue) → map (moved q) (placed o subject n ps) ≡ flat_map (λ p. map (on (renumbered q o)) (said_of subject p)) ps
    placed_moved o subject n [] = refl
    placed_moved o subject n (p ∷ ps) =
        map-append (moved q) (map (at o n) (said_of subject p)) (placed o subject (n + 1) ps)
        ∙ ap (λ (l : List Statement). l ++ map (moved q) (placed o subject (n + 1) ps)) (moved_at q o n (said_of subject p))
        ∙ ap (λ (l : List Statement). map (on (renumbered q o)) (said_of subject p) ++ l) (placed_moved o subject (n + 1) ps)

    on_moved : (body : List ℕ) (n : ℕ) (ds : List ComponentValue) → map (moved q) (placed_on body n ds) ≡ numbered said_on q body n ds
    on_moved body n [] = refl
    on_moved body n (d ∷ ds) =
        map-append (moved q) (placed (Some n) (on_head body d.head) 0 d.hangs) (placed_on body (n + 1) ds)
        ∙ ap (λ (l : List Statement). l ++ map (moved q) (placed_on body (n + 1) ds)) (placed_moved (Some n) (on_head body d.head) 0 d.hangs)
        ∙ ap (λ (l : List Statement). flat_map (said_on (Some (q n)) (on_head body d.head)) d.hangs ++ l) (on_moved body (n + 1) ds)

    -- all that is said by a certificate, part by part
    pub told_in_parts : (c : CertificateValue) → map (moved q) (tell_all [] (certificate_standing 0 c)) ≡ in_parts said_on q c
    told_in_parts c =
        let on_key : List Statement = placed None (one c.primary.body) 0 c.hangs in
        ap (map (moved q)) (certificate_tells c)
        ∙ map-append (moved q) on_key (placed_on c.primary.body 0 c.components)
        ∙ ap (λ (l : List Statement). l ++ map (moved q) (placed_on c.primary.body 0 c.components)) (placed_moved None (one c.primary.body) 0 c.hangs)
        ∙ ap (λ (l : List Statement). flat_map (said_on None (one c.primary.body)) c.hangs ++ l) (on_moved c.primary.body 0 c.components)
