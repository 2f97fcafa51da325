-- What is judged of a key hangs on which statements are on the same component, and not on that component's number.
use Rattle.std.proofs.Common.{◌≡◌, ◌∙◌, ◌++◌, ℕ, ◌==◌, nat_lt, List, [], ◌∷◌, map, Bool, true, false, not, ◌&&◌, ◌||◌, cond, Option, Some, None, is_none, is_some, refl, sym, ap}
use Rattle.std.specs.List.{filter, list_all, list_any}
use Rattle.std.proofs.lemmas.Bool.{eq-eqb, eqb-true, true≢false}
use Rattle.std.proofs.lemmas.List.{map-append}
use Rattle.opgp_octets.specs.declared.signature_type.SignatureType.{SignatureType}
use Rattle.opgp_octets.specs.declared.signature_type.SignatureType.TheVariants as types
use Rattle.opgp_valid.specs.Facts.{FactsValue}
use Rattle.opgp_valid.specs.Group.{any, binds, certifies, good, is_certification_on, is_direct, is_in, is_primary, is_the, kept, on_component, speaks}
use Rattle.opgp_valid.specs.Saying.{is_nonempty}
use Rattle.opgp_valid.specs.Speaking.{current, end_in, is_current, is_same, latest, latest_on, made_at, made_then, newest, newest_current, uses_in}
use Rattle.opgp_valid.specs.Speaking as speaking
use Rattle.opgp_valid.specs.Standing.{applies, created_of, has_ended, heard, is_component, is_expired_at, is_revocation_of, is_unbacked_at, is_unbound_at, limiters, limiting, may_not_sign_at, must_stand, revokes, speakers, spoken, standing_of}
use Rattle.opgp_valid.specs.State.{revokes_certification}
use Rattle.opgp_valid.specs.Statement.{has_back, is_alive, is_good}
use Rattle.opgp_valid.specs.Told.{is_older, is_revoked_among, is_revoked_by, is_same_number, with_revocations, with_revoked}
use Rattle.opgp_valid.specs.declared.facts.Key.{Key}
use Rattle.opgp_valid.specs.declared.facts.Key.TheVariants as key
use Rattle.opgp_valid.specs.declared.group.Group.{Group}
use Rattle.opgp_valid.specs.declared.group.Sort.{Sort}
use Rattle.opgp_valid.specs.declared.group.Sort.TheVariants.{Direct, UserIds, Certifications, Main, Expiring, Identity, Bindings}
use Rattle.opgp_valid.specs.declared.statement.Statement.{Statement}
use Rattle.opgp_valid.specs.declared.why.Why.{Why}
use Rattle.opgp_valid.specs.declared.why.Why.TheVariants.{Future, Revoked, Early, Unbound, Expired, Flags, Back}
use Rattle.opgp_valid.proofs.Alike.{find_agree, or_same}

-- a statement with this component in place of its own
abbrev pub to : Option ℕ → Statement → Statement
to o s = record {
  kind = s.kind;
  component = o;
  is_on_user_id = s.is_on_user_id;
  hang = s.hang;
  author = s.author;
  is_understood = s.is_understood;
  doubt = s.doubt;
  life = s.life;
  key_lasts = s.key_lasts;
  has_flags = s.has_flags;
  uses = s.uses;
  is_main = s.is_main;
  is_revoked = s.is_revoked;
  back = s.back;
  reason = s.reason;
}

-- with another number for each component
abbrev pub renumbered : (ℕ → ℕ) → Option ℕ → Option ℕ
renumbered p None = None
renumbered p (Some n) = Some (p n)

abbrev pub renumber : (ℕ → ℕ) → Statement → Statement
renumber p s = to (renumbered p s.component) s

abbrev pub renumber_facts : (ℕ → ℕ) → FactsValue → FactsValue
renumber_facts p f = record { version = f.version; created = f.created; statements = map (renumber p) f.statements }

abbrev pub rekey : (ℕ → ℕ) → Key → Key
rekey p key.Primary = key.Primary
rekey p (key.Subkey n created) = key.Subkey (p n) created

abbrev resort : (ℕ → ℕ) → Sort → Sort
resort p Direct = Direct
resort p UserIds = UserIds
resort p Certifications = Certifications
resort p Main = Main
resort p Expiring = Expiring
resort p (Identity n) = Identity (p n)
resort p (Bindings n) = Bindings (p n)

abbrev regroup : (ℕ → ℕ) → Group → Group
regroup p group = record { sort = resort p group.sort; must_be_good = group.must_be_good; must_stand = group.must_stand }

-- ---- lists
kept_map : {A B : Type 0} (h : A → B) (q : B → Bool) (r : A → Bool) → ((x : A) → q (h x) ≡ r x) → (xs : List A) → filter q (map h xs) ≡ map h (filter r xs)
kept_map h q r same [] = refl
kept_map {A} {B} h q r same (x ∷ xs) = ap (λ (t : Bool). cond t (h x ∷ filter q (map h xs)) (filter q (map h xs))) (same x) ∙ step (r x) (kept_map h q r same xs) where
  step : (t : Bool) → filter q (map h xs) ≡ map h (filter r xs) → cond t (h x ∷ filter q (map h xs)) (filter q (map h xs)) ≡ map h (cond t (x ∷ filter r xs) (filter r xs))
  step true e = ap (λ (l : List B). h x ∷ l) e
  step false e = e

pub any_map : {A B : Type 0} (h : A → B) (q : B → Bool) (r : A → Bool) → ((x : A) → q (h x) ≡ r x) → (xs : List A) → list_any q (map h xs) ≡ list_any r xs
any_map h q r same [] = refl
any_map h q r same (x ∷ xs) = rw (same x, any_map h q r same xs) refl

same_kind : (new old : Key) (kind : SignatureType) (a b : Option ℕ) → is_component new a ≡ is_component old b → is_revocation_of new kind a ≡ is_revocation_of old kind b
same_kind new old types.KeyRevocation a b e = refl
same_kind new old types.SubkeyRevocation a b e = e
same_kind new old other a b e = refl

-- ---- other numbers, each for one component
module _ (p : ℕ → ℕ) (once : (m n : ℕ) → p m ≡ p n → m ≡ n) where
  same_test : (m n : ℕ) → (p m == p n) ≡ (m == n)
  same_test m n = step (p m == p n) (m == n) refl refl where
    step : (t u : Bool) → (p m == p n) ≡ t → (m == n) ≡ u → t ≡ u
    step true true a b = refl
    step false false a b = refl
    step true false a b = absurd (true≢false (sym (eq-eqb m n (once m n (eqb-true (p m) (p n) a))) ∙ b))
    step false true a b = absurd (true≢false (sym (eq-eqb (p m) (p n) (ap p (eqb-true m n b))) ∙ a))

  no_component : (o : Option ℕ) → is_none (renumbered p o) ≡ is_none o
  no_component None = refl
  no_component (Some n) = refl

  some_component : (o : Option ℕ) → is_some (renumbered p o) ≡ is_some o
  some_component None = refl
  some_component (Some n) = refl

  the_same : (n : ℕ) (o : Option ℕ) → is_the (p n) (renumbered p o) ≡ is_the n o
  the_same n None = refl
  the_same n (Some m) = same_test m n

  number_same : (a b : Option ℕ) → is_same_number (renumbered p a) (renumbered p b) ≡ is_same_number a b
  number_same None None = refl
  number_same None (Some b) = refl
  number_same (Some a) None = refl
  number_same (Some a) (Some b) = same_test a b

  -- ---- the certifications that are revoked
  by_same : (s r : Statement) → is_revoked_by (renumber p s) (renumber p r) ≡ is_revoked_by s r
  by_same s r = ap (λ (t : Bool). revokes_certification r.kind && (is_primary r.author && (t && not (is_older r.life s.life)))) (number_same r.component s.component)

  among_same : (ss : List Statement) (s : Statement) → is_revoked_among (map (renumber p) ss) (renumber p s) ≡ is_revoked_among ss s
  among_same ss s =
      ap (λ (t : Bool). (certifies s.kind && t) && list_any (is_revoked_by (renumber p s)) (map (renumber p) ss)) (some_component s.component)
      ∙ ap (λ (t : Bool). is_certification_on s && t) (any_map (renumber p) (is_revoked_by (renumber p s)) (is_revoked_by s) (by_same s) ss)

  marks_same : (all ss : List Statement) → map (renumber p) (map (λ s. with_revoked (is_revoked_among all s) s) ss) ≡ map (λ s. with_revoked (is_revoked_among (map (renumber p) all) s) s) (map (renumber p) ss)
  marks_same all [] = refl
  marks_same all (s ∷ ss) =
      ap (λ (t : Bool). with_revoked t (renumber p s) ∷ map (renumber p) (map (λ r. with_revoked (is_revoked_among all r) r) ss)) (sym (among_same all s))
      ∙ ap (λ (l : List Statement). with_revoked (is_revoked_among (map (renumber p) all) (renumber p s)) (renumber p s) ∷ l) (marks_same all ss)

  pub revocations_same : (ss : List Statement) → map (renumber p) (with_revocations ss) ≡ with_revocations (map (renumber p) ss)
  revocations_same ss = marks_same ss ss

  -- ---- those that speak
  in_same : (sort : Sort) (s : Statement) → is_in (resort p sort) (renumber p s) ≡ is_in sort s
  in_same Direct s = ap (λ (t : Bool). is_direct s.kind && t) (no_component s.component)
  in_same UserIds s = ap (λ (t : Bool). (certifies s.kind && t) && s.is_on_user_id) (some_component s.component)
  in_same Certifications s = ap (λ (t : Bool). certifies s.kind && t) (some_component s.component)
  in_same Main s = ap (λ (t : Bool). (certifies s.kind && t) && s.is_main) (some_component s.component)
  in_same Expiring s = ap (λ (t : Bool). (certifies s.kind && t) && not (s.key_lasts == 0)) (some_component s.component)
  in_same (Identity n) s =
      ap (λ (t : Bool). (certifies s.kind && t) && is_the (p n) (renumbered p s.component)) (some_component s.component)
      ∙ ap (λ (t : Bool). is_certification_on s && t) (the_same n s.component)
  in_same (Bindings n) s = ap (λ (t : Bool). binds s.kind && t) (the_same n s.component)

  speaks_same : (group : Group) (at : ℕ) (s : Statement) → speaks (regroup p group) at (renumber p s) ≡ speaks group at s
  speaks_same group at s =
      ap (λ (t : Bool). t && ((not group.must_be_good || is_good s) && ((not group.must_stand || not s.is_revoked) && (s.is_understood && (is_primary s.author && is_alive at s))))) (in_same group.sort s)

  latest_same : (ss : List Statement) → latest (map (renumber p) ss) ≡ latest ss
  latest_same [] = refl
  latest_same (s ∷ ss) = rw (latest_same ss) refl

  made_same : (ss : List Statement) → made_then (latest (map (renumber p) ss)) (map (renumber p) ss) ≡ map (renumber p) (made_then (latest ss) ss)
  made_same ss =
      ap (λ (time : Option ℕ). made_then time (map (renumber p) ss)) (latest_same ss)
      ∙ kept_map (renumber p) (λ s. is_same (made_at s) (latest ss)) (λ s. is_same (made_at s) (latest ss)) (λ s. refl) ss

  module _ (group : Group) (at : ℕ) (ss : List Statement) where
    abbrev all : List Statement
    all = map (renumber p) ss

    speaking_same : speaking.speakers (regroup p group) at all ≡ map (renumber p) (speaking.speakers group at ss)
    speaking_same = kept_map (renumber p) (speaks (regroup p group) at) (speaks group at) (speaks_same group at) ss

    newest_same : newest (regroup p group) at all ≡ map (renumber p) (newest group at ss)
    newest_same = ap (λ (l : List Statement). made_then (latest l) l) speaking_same ∙ made_same (speaking.speakers group at ss)

  latest_on_same : (group : Group) (at : ℕ) (ss : List Statement) (o : Option ℕ) → latest_on (regroup p group) at (map (renumber p) ss) (renumbered p o) ≡ latest_on group at ss o
  latest_on_same group at ss None = refl
  latest_on_same group at ss (Some n) = ap latest (speaking_same (on_component n group) at ss) ∙ latest_same (speaking.speakers (on_component n group) at ss)

  module _ (group : Group) (at : ℕ) (ss : List Statement) where
    current_same : current (regroup p group) at (map (renumber p) ss) ≡ map (renumber p) (current group at ss)
    current_same =
        ap (filter (is_current (regroup p group) at (map (renumber p) ss))) (speaking_same group at ss)
        ∙ kept_map (renumber p) (is_current (regroup p group) at (map (renumber p) ss)) (is_current group at ss) (λ s. ap (is_same (made_at s)) (latest_on_same group at ss s.component)) (speaking.speakers group at ss)

    newest_current_same : newest_current (regroup p group) at (map (renumber p) ss) ≡ map (renumber p) (newest_current group at ss)
    newest_current_same = ap (λ (l : List Statement). made_then (latest l) l) current_same ∙ made_same (current group at ss)

  -- ---- what is said by them
  both_mapped : (a b c d : List Statement) → a ≡ map (renumber p) c → b ≡ map (renumber p) d → a ++ b ≡ map (renumber p) (c ++ d)
  both_mapped a b c d e f = rw (e, f) (sym (map-append (renumber p) c d))

  nonempty_same : (ss : List Statement) → is_nonempty (map (renumber p) ss) ≡ is_nonempty ss
  nonempty_same [] = refl
  nonempty_same (s ∷ ss) = refl

  end_same : (created : ℕ) (ss : List Statement) → end_in created (map (renumber p) ss) ≡ end_in created ss
  end_same created [] = refl
  end_same created (s ∷ ss) = rw (end_same created ss) refl

  uses_same : (ss : List Statement) → uses_in (map (renumber p) ss) ≡ uses_in ss
  uses_same [] = refl
  uses_same (s ∷ ss) = rw (uses_same ss) refl

  backed_same : (at : ℕ) (ss : List Statement) → list_all (has_back at) (map (renumber p) ss) ≡ list_all (has_back at) ss
  backed_same at [] = refl
  backed_same at (s ∷ ss) = rw (backed_same at ss) refl

  -- ---- what is judged
  module _ (f : FactsValue) where
    certified_same : (stand : Bool) (at : ℕ) (t : Bool) → cond t (newest (kept stand (good UserIds)) at (map (renumber p) f.statements)) [] ≡ map (renumber p) (cond t (newest (kept stand (good UserIds)) at f.statements) [])
    certified_same stand at true = newest_same (kept stand (good UserIds)) at f.statements
    certified_same stand at false = refl

    spoken_same : (stand : Bool) (at : ℕ) → spoken (renumber_facts p f) stand at ≡ map (renumber p) (spoken f stand at)
    spoken_same stand at =
        both_mapped _ _ (newest (good Direct) at f.statements) (cond (f.version == 4) (newest (kept stand (good UserIds)) at f.statements) [])
        (newest_same (good Direct) at f.statements) (certified_same stand at (f.version == 4))

    must_same : (at : ℕ) → must_stand (renumber_facts p f) at ≡ must_stand f at
    must_same at = ap is_nonempty (spoken_same true at) ∙ nonempty_same (spoken f true at)

    limiting_same : (stand : Bool) (at : ℕ) → limiting (renumber_facts p f) stand at ≡ map (renumber p) (limiting f stand at)
    limiting_same stand at =
        let direct : List Statement = newest (any Direct) at f.statements in
        let certified : List Statement = newest (kept stand (any Certifications)) at f.statements in
        let main : List Statement = newest_current (kept stand (any Main)) at f.statements in
        let expiring : List Statement = newest_current (kept stand (any Expiring)) at f.statements in
        both_mapped _ _ direct (certified ++ (main ++ expiring)) (newest_same (any Direct) at f.statements)
        (both_mapped _ _ certified (main ++ expiring) (newest_same (kept stand (any Certifications)) at f.statements)
        (both_mapped _ _ main expiring (newest_current_same (kept stand (any Main)) at f.statements) (newest_current_same (kept stand (any Expiring)) at f.statements)))

    speak_same : (k : Key) (at : ℕ) → speakers (renumber_facts p f) (rekey p k) at ≡ map (renumber p) (speakers f k at)
    speak_same key.Primary at = ap (λ (t : Bool). spoken (renumber_facts p f) t at) (must_same at) ∙ spoken_same (must_stand f at) at
    speak_same (key.Subkey n created) at = newest_same (good (Bindings n)) at f.statements

    limit_same : (k : Key) (at : ℕ) → limiters (renumber_facts p f) (rekey p k) at ≡ map (renumber p) (limiters f k at)
    limit_same key.Primary at = ap (λ (t : Bool). limiting (renumber_facts p f) t at) (must_same at) ∙ limiting_same (must_stand f at) at
    limit_same (key.Subkey n created) at = newest_same (any (Bindings n)) at f.statements

    heard_same : (k : Key) (at : ℕ) → heard (renumber_facts p f) (rekey p k) at ≡ map (renumber p) (heard f k at)
    heard_same k at = both_mapped _ _ (speakers f k at) (limiters f k at) (speak_same k at) (limit_same k at)

    created_same : (k : Key) → created_of (renumber_facts p f) (rekey p k) ≡ created_of f k
    created_same key.Primary = refl
    created_same (key.Subkey n created) = refl

    component_same : (k : Key) (o : Option ℕ) → is_component (rekey p k) (renumbered p o) ≡ is_component k o
    component_same key.Primary o = refl
    component_same (key.Subkey n created) o = the_same n o

    revokes_same : (k : Key) (s : Statement) → revokes (rekey p k) (renumber p s) ≡ revokes k s
    revokes_same k s = same_kind (rekey p k) k s.kind (renumbered p s.component) s.component (component_same k s.component)

    unbacked_same : (k : Key) (at : ℕ) → is_unbacked_at (renumber_facts p f) (rekey p k) at ≡ is_unbacked_at f k at
    unbacked_same key.Primary at = refl
    unbacked_same (key.Subkey n created) at = ap not (ap (list_all (has_back at)) (heard_same (key.Subkey n created) at) ∙ backed_same at (heard f (key.Subkey n created) at))

    said_same : (k : Key) (at : ℕ) → is_nonempty (speakers (renumber_facts p f) (rekey p k) at) ≡ is_nonempty (speakers f k at)
    said_same k at = ap is_nonempty (speak_same k at) ∙ nonempty_same (speakers f k at)

    ended_same : (k : Key) (created at : ℕ) → has_ended at (end_in created (heard (renumber_facts p f) (rekey p k) at)) ≡ has_ended at (end_in created (heard f k at))
    ended_same k created at = ap (has_ended at) (ap (end_in created) (heard_same k at) ∙ end_same created (heard f k at))

    module _ (k : Key) where
      unbound_same : (at : ℕ) → is_unbound_at (renumber_facts p f) (rekey p k) at ≡ is_unbound_at f k at
      unbound_same at = or_same _ _ _ _ (ap not (said_same key.Primary at)) (ap not (said_same k at))

      expired_same : (at : ℕ) → is_expired_at (renumber_facts p f) (rekey p k) at ≡ is_expired_at f k at
      expired_same at = or_same _ _ _ _ (ended_same key.Primary f.created at)
          (ap (λ (n : ℕ). has_ended at (end_in n (heard (renumber_facts p f) (rekey p k) at))) (created_same k) ∙ ended_same k (created_of f k) at)

      flags_same : (at : ℕ) → may_not_sign_at (renumber_facts p f) (rekey p k) at ≡ may_not_sign_at f k at
      flags_same at = or_same _ _ _ _
          (ap not (ap (list_any (λ s. s.has_flags)) (speak_same k at) ∙ any_map (renumber p) (λ s. s.has_flags) (λ s. s.has_flags) (λ s. refl) (speakers f k at)))
          (ap (λ u. not u.sign) (ap uses_in (heard_same k at) ∙ uses_same (heard f k at)))

      applies_same : (made now : ℕ) (why : Why) → applies (renumber_facts p f) (rekey p k) made now why ≡ applies f k made now why
      applies_same made now Future = refl
      applies_same made now Revoked = any_map (renumber p) (revokes (rekey p k)) (revokes k) (revokes_same k) f.statements
      applies_same made now Early = ap (λ (n : ℕ). nat_lt made f.created || nat_lt made n) (created_same k)
      applies_same made now Unbound = or_same _ _ _ _ (unbound_same made) (unbound_same now)
      applies_same made now Expired = or_same _ _ _ _ (expired_same made) (expired_same now)
      applies_same made now Flags = or_same _ _ _ _ (flags_same made) (flags_same now)
      applies_same made now Back = or_same _ _ _ _ (unbacked_same k made) (unbacked_same k now)

      pub stands_alike : (made now : ℕ) → standing_of (renumber_facts p f) (rekey p k) made now ≡ standing_of f k made now
      stands_alike made now = find_agree (applies (renumber_facts p f) (rekey p k) made now) (applies f k made now) (applies_same made now) (Future ∷ Revoked ∷ Early ∷ Unbound ∷ Expired ∷ Flags ∷ Back ∷ [])
