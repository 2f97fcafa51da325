-- What a composer's state says is what it was fed.
use Rattle.std.proofs.Common.{◌≡◌, Bool, true, false, ◌&&◌, All, inl, inr, List, [], ◌∷◌, ◌++◌, Some, None, length, refl, sym, ap, subst, ◌∙◌, append_assoc, append-nil, length-append, arith}
use Rattle.std.proofs.lemmas.List.Elements.{All-cons, All-head, All-nil, All-tail}
use Rattle.opgp_octets.specs.Limits.{malformed_of}
use Rattle.opgp_octets.specs.declared.limits.Limits.{Limits}
use Rattle.opgp_octets.specs.declared.fault.Fault.{Fault}
use Rattle.opgp_frame.specs.Packet.{PacketValue}
use Rattle.opgp_keyring.specs.declared.composer.Composer.{Composer}
use Rattle.opgp_keyring.specs.declared.composer.State.{State}
use Rattle.opgp_keyring.specs.declared.composer.State.TheVariants.{Leading, Growing, Disordered, Broken, Spent}
use Rattle.opgp_keyring.specs.Composed.{IsKeyringOf, PartValue, of_lead, of_certificate, lead_parts, parts_of}
use Rattle.opgp_keyring.specs.Bodies.{IsSound}
use Rattle.opgp_keyring.specs.Composition.{Composes, Item, labels_fit, packets_in, placed_in}
use Rattle.opgp_keyring.specs.Fed.{Fed, IsFaultOf}
use Rattle.opgp_keyring.specs.Keyring.{KeyringValue, CertificateValue, flat}
use Rattle.opgp_keyring.specs.State.{fault_of_state, is_broken_state, is_spent_state, open_parts}
use Rattle.opgp_keyring.specs.Taken.{AreHandedOut, EndsKeyrings, IsAllButLast}
use Rattle.opgp_keyring.proofs.Adding.{keyring}
use Rattle.opgp_keyring.proofs.Feeding.{labels_fit-append, packets_in-append, placed_in-append}
use Rattle.opgp_keyring.proofs.Parts.{is_first, parts_push, same_parts}
use Rattle.opgp_keyring.proofs.Prefixes.{Ends, ends, prefix, same_front, same_last}
use Rattle.opgp_keyring.proofs.Split.{one_keyring}
use Rattle.opgp_keyring.proofs.Standing.{IsGrowing, IsIn, IsLeading, Standing}

-- ---- from the state

-- what is handed out in a state, and until a fault comes what is kept
pub record Handed (limits : Limits) (s : State) (given : List Item) (parts : List PartValue) : Type 0 where
  pub out : AreHandedOut limits given parts
  pub kept : fault_of_state s ≡ None → (r : KeyringValue) × IsKeyringOf limits given r × (parts_of r ≡ parts ++ open_parts s)

lead_last : (lead : List PacketValue) → IsAllButLast [] (parts_of (keyring lead []))
lead_last [] = inl (refl, refl)
lead_last (p ∷ lead) = inr (of_lead (p ∷ lead), refl)

pub handed_in : (limits : Limits) (s : State) (given : List Item) (parts : List PartValue) → IsIn limits s given parts → Handed limits s given parts
handed_in limits (Leading lead) given parts is = record {
  out = record {
    front = given;
    back = [];
    whole = sym (append-nil given);
    ring = keyring lead [];
    composed = is.stands;
    ends = tt;
    but_last = subst (λ (ps : List PartValue). IsAllButLast ps (parts_of (keyring lead []))) (sym is.none) (lead_last lead);
  };
  kept = λ _. (keyring lead [], is.stands, append-nil (lead_parts lead) ∙ ap (λ (ps : List PartValue). ps ++ lead_parts lead) (sym is.none));
}
handed_in limits (Growing c) given parts is =
    let all : parts_of (keyring is.lead (is.done ++ c ∷ [])) ≡ parts ++ of_certificate c ∷ [] = sym (parts_push is.lead is.done c) ∙ ap (λ (ps : List PartValue). ps ++ of_certificate c ∷ []) (sym is.so_far) in
    record {
      out = record {
        front = given;
        back = [];
        whole = sym (append-nil given);
        ring = keyring is.lead (is.done ++ c ∷ []);
        composed = is.stands;
        ends = tt;
        but_last = inr (of_certificate c, all);
      };
      kept = λ _. (keyring is.lead (is.done ++ c ∷ []), is.stands, all);
    }
handed_in limits (Disordered f) given parts is = record { out = is.0; kept = λ e. absurd cc }
handed_in limits (Broken f) given parts is = record { out = is.0; kept = λ e. absurd cc }
handed_in limits Spent given parts is = absurd is

fault_in : (limits : Limits) (s : State) (given : List Item) (parts : List PartValue) (f : Fault) → IsIn limits s given parts → fault_of_state s ≡ Some f → IsFaultOf (is_broken_state s) limits given f
fault_in limits (Leading lead) given parts f is e = absurd cc
fault_in limits (Growing c) given parts f is e = absurd cc
fault_in limits (Disordered g) given parts f is e = subst (IsFaultOf false limits given) (let same : g ≡ f = cc in same) is.1
fault_in limits (Broken g) given parts f is e = subst (IsFaultOf true limits given) (let same : g ≡ f = cc in same) is.1
fault_in limits Spent given parts f is e = absurd is

unspent_in : (limits : Limits) (s : State) (given : List Item) (parts : List PartValue) → IsIn limits s given parts → is_spent_state s ≡ false
unspent_in limits (Leading lead) given parts is = refl
unspent_in limits (Growing c) given parts is = refl
unspent_in limits (Disordered f) given parts is = refl
unspent_in limits (Broken f) given parts is = refl
unspent_in limits Spent given parts is = absurd is

pub fed_of : {limits : Limits} {c : Composer} {given : List Item} {taken : List PartValue} → Standing limits c given taken → Fed limits c given taken
fed_of {limits} {c} {given} {taken} s =
    let h = handed_in limits c.state given _ s.state in
    record { limits_kept = s.limits_kept; unspent = unspent_in limits c.state given _ s.state; handed = h.out; kept = h.kept; fault = λ f e. fault_in limits c.state given _ f s.state e }

-- ---- and back

and_left : (a b : Bool) → (a && b) ≡ true → a ≡ true
and_left true b e = refl
and_left false b e = e

All-front : {X : Type 0} (P : X → Type 0) (xs ys : List X) → All P (xs ++ ys) → All P xs
All-front P [] ys a = All-nil P
All-front P (x ∷ xs) ys a = All-cons P x xs (All-head P x (xs ++ ys) a) (All-front P xs ys (All-tail P x (xs ++ ys) a))

-- what is all of it and all but the last is nothing
but_all : (front all : List PartValue) → IsAllButLast front all → all ≡ front → front ≡ []
but_all front all (inl (none, e)) same = e
but_all front all (inr (last, e)) same = absurd (omega (arith, ap (length {A = PartValue}) (sym same ∙ e), length-append front (last ∷ [])))

leading : (limits : Limits) (given : List Item) (parts : List PartValue) (lead : List PacketValue) (r : KeyringValue) → IsKeyringOf limits given r → IsAllButLast parts (parts_of r) → parts_of r ≡ parts ++ lead_parts lead → IsLeading limits lead given parts
leading limits given parts [] r k b e =
    let all : parts_of r ≡ parts = e ∙ append-nil parts in
    let none : parts ≡ [] = but_all parts (parts_of r) b all in
    record { stands = subst (IsKeyringOf limits given) (same_parts r (keyring [] []) (all ∙ none)) k; none = none }
leading limits given parts (p ∷ lead) r k b e =
    let first = is_first parts (p ∷ lead) r (sym e) in
    record { stands = subst (IsKeyringOf limits given) first.whole k; none = first.none }

-- a keyring whose last part this is, or a keyring without its last part
record WithoutLast (lead : List PacketValue) (cs : List CertificateValue) (parts : List PartValue) (last : PartValue) : Type 0 where
  pub less : KeyringValue
  pub parts_are : parts ≡ parts_of less
  pub of_last : (c : CertificateValue) → last ≡ of_certificate c → (less.lead ≡ lead) × (cs ≡ less.certificates ++ c ∷ [])

alone : (lead : List PacketValue) (parts : List PartValue) (last : PartValue) → parts_of (keyring lead []) ≡ parts ++ last ∷ [] → WithoutLast lead [] parts last
alone [] [] last e = absurd cc
alone [] (x ∷ parts) last e = absurd cc
alone (p ∷ lead) [] last e = record { less = keyring [] []; parts_are = refl; of_last = λ c is. absurd cc }
alone (p ∷ lead) (x ∷ []) last e = absurd cc
alone (p ∷ lead) (x ∷ y ∷ parts) last e = absurd cc

without_last : (lead : List PacketValue) (cs : List CertificateValue) (parts : List PartValue) (last : PartValue) → Ends cs → parts_of (keyring lead cs) ≡ parts ++ last ∷ [] → WithoutLast lead cs parts last
without_last lead cs parts last (inl none) e = subst (λ (l : List CertificateValue). WithoutLast lead l parts last) (sym none) (alone lead parts last (ap (λ (l : List CertificateValue). parts_of (keyring lead l)) (sym none) ∙ e))
without_last lead cs parts last (inr (done, d, split)) e =
    let all : parts_of (keyring lead done) ++ of_certificate d ∷ [] ≡ parts ++ last ∷ [] = parts_push lead done d ∙ ap (λ (l : List CertificateValue). parts_of (keyring lead l)) (sym split) ∙ e in
    record {
      less = keyring lead done;
      parts_are = sym (same_front (parts_of (keyring lead done)) parts (of_certificate d) last all);
      of_last = λ c is.
          let own : of_certificate d ≡ of_certificate c = same_last (parts_of (keyring lead done)) parts (of_certificate d) last all ∙ is in
          let same : d ≡ c = cc in (refl, split ∙ ap (λ (x : CertificateValue). done ++ x ∷ []) same);
    }

growing : (limits : Limits) (given : List Item) (parts : List PartValue) (c : CertificateValue) (r : KeyringValue) → IsKeyringOf limits given r → parts_of r ≡ parts ++ of_certificate c ∷ [] → IsGrowing limits c given parts
growing limits given parts c r k e =
    let w = without_last r.lead r.certificates parts (of_certificate c) (ends r.certificates) e in
    let last = w.of_last c refl in
    record {
      lead = w.less.lead;
      done = w.less.certificates;
      stands = subst (λ (l : List PacketValue). IsKeyringOf limits given (keyring l (w.less.certificates ++ c ∷ []))) (sym last.0) (subst (λ (cs : List CertificateValue). IsKeyringOf limits given (keyring r.lead cs)) last.1 k);
      so_far = w.parts_are;
    }

-- all parts of a keyring but the last are those of a keyring
pub parts_before : (parts : List PartValue) (r : KeyringValue) → IsAllButLast parts (parts_of r) → (s : KeyringValue) × (parts ≡ parts_of s)
parts_before parts r (inl (none, e)) = (keyring [] [], e)
parts_before parts r (inr (last, e)) = let w = without_last r.lead r.certificates parts last (ends r.certificates) e in (w.less, w.parts_are)

-- what begins the items of a keyring is a keyring's
composed_before : (limits : Limits) (xs ys : List Item) (r : KeyringValue) → IsKeyringOf limits (xs ++ ys) r → (s : KeyringValue) × IsKeyringOf limits xs s
composed_before limits xs ys r k =
    let before = prefix limits (packets_in xs) (packets_in ys) (r, subst (λ (ps : List PacketValue). Composes limits ps r) (packets_in-append xs ys) k.composes) in (
      before.0,
      record { labels = and_left (labels_fit xs) (labels_fit ys) (sym (labels_fit-append xs ys) ∙ k.labels); sound = All-front (IsSound (malformed_of limits)) (placed_in xs) (placed_in ys) (subst (All (IsSound (malformed_of limits))) (placed_in-append xs ys) k.sound); composes = before.1 },
    )

whole_out : (limits : Limits) (given front back : List Item) (parts : List PartValue) (ring r : KeyringValue) → given ≡ front ++ back → IsKeyringOf limits front ring → EndsKeyrings limits front back → IsAllButLast parts (parts_of ring)
    → IsKeyringOf limits given r → IsAllButLast parts (parts_of r)
whole_out limits given front [] parts ring r whole composed ends but_last k =
    let same : flat ring ≡ flat r = composed.composes.whole ∙ ap packets_in (sym (whole ∙ append-nil front)) ∙ sym k.composes.whole in
    subst (λ (x : KeyringValue). IsAllButLast parts (parts_of x)) (one_keyring ring r composed.composes.keyring k.composes.keyring same) but_last
whole_out limits given front (next ∷ back) parts ring r whole composed ends but_last k =
    let split : given ≡ (front ++ next ∷ []) ++ back = whole ∙ sym (append_assoc front (next ∷ []) back) in
    let before = composed_before limits (front ++ next ∷ []) back r (subst (λ (items : List Item). IsKeyringOf limits items r) split k) in
    absurd (ends before.0 before.1)

-- where the items are all a keyring's, all its parts but the last were handed out
pub all_but_last : (limits : Limits) (given : List Item) (parts : List PartValue) (r : KeyringValue) → AreHandedOut limits given parts → IsKeyringOf limits given r → IsAllButLast parts (parts_of r)
all_but_last limits given parts r h k = whole_out limits given h.front h.back parts h.ring r h.whole h.composed h.ends h.but_last k

stands_in : (limits : Limits) (s : State) (given : List Item) (parts : List PartValue) → Handed limits s given parts → is_spent_state s ≡ false → ((f : Fault) → fault_of_state s ≡ Some f → IsFaultOf (is_broken_state s) limits given f) → IsIn limits s given parts
stands_in limits (Leading lead) given parts h unspent fault = let k = h.kept refl in leading limits given parts lead k.0 k.1 (all_but_last limits given parts k.0 h.out k.1) k.2
stands_in limits (Growing c) given parts h unspent fault = let k = h.kept refl in growing limits given parts c k.0 k.1 k.2
stands_in limits (Disordered f) given parts h unspent fault = (h.out, fault f refl)
stands_in limits (Broken f) given parts h unspent fault = (h.out, fault f refl)
stands_in limits Spent given parts h unspent fault = absurd cc

pub standing_of : {limits : Limits} {c : Composer} {given : List Item} {taken : List PartValue} → Fed limits c given taken → Standing limits c given taken
standing_of {limits} {c} {given} {taken} f =
    record { limits_kept = f.limits_kept; state = stands_in limits c.state given _ (record { out = f.handed; kept = f.kept }) f.unspent f.fault }

-- ---- one more item

more_in : (limits : Limits) (given front back : List Item) (i : Item) (parts : List PartValue) (ring : KeyringValue) → given ≡ front ++ back → IsKeyringOf limits front ring → EndsKeyrings limits front back → IsAllButLast parts (parts_of ring)
    → ((r : KeyringValue) → IsKeyringOf limits (given ++ i ∷ []) r → ⊥) → AreHandedOut limits (given ++ i ∷ []) parts
more_in limits given front [] i parts ring whole composed ends but_last none =
    record { front = given; back = i ∷ []; whole = refl; ring = ring; composed = subst (λ (items : List Item). IsKeyringOf limits items ring) (sym (whole ∙ append-nil front)) composed; ends = none; but_last = but_last }
more_in limits given front (next ∷ back) i parts ring whole composed ends but_last none =
    record { front = front; back = next ∷ (back ++ i ∷ []); whole = ap (λ (l : List Item). l ++ i ∷ []) whole ∙ append_assoc front (next ∷ back) (i ∷ []); ring = ring; composed = composed; ends = ends; but_last = but_last }

-- an item with which they are no keyring's hands nothing out
pub handed_more : (limits : Limits) (given : List Item) (i : Item) (parts : List PartValue) → AreHandedOut limits given parts → ((r : KeyringValue) → IsKeyringOf limits (given ++ i ∷ []) r → ⊥) → AreHandedOut limits (given ++ i ∷ []) parts
handed_more limits given i parts h none = more_in limits given h.front h.back i parts h.ring h.whole h.composed h.ends h.but_last none
