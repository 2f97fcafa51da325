-- Labels and packets have one answer: a signed literal, or a fault.
use Rattle.std.proofs.Common.{◌≡◌, ℕ, suc, zero, ◌+◌, ◌-◌, Bool, true, false, not, cond, ◌==◌, ◌⊎◌, inl, inr, List, [], ◌∷◌, ◌++◌, All, replicate, refl, sym, ap, subst, ◌∙◌, append_assoc, append-nil, arith}
use Rattle.std.specs.List.{AllByRecursion}
use Rattle.std.proofs.lemmas.Bool.{eqb-true, eqb-false}
use Rattle.std.proofs.lemmas.List.{replicate_more}
use Rattle.std.proofs.lemmas.List.Elements.{All-nil, recursion_from_All}
use Rattle.opgp_octets.specs.declared.malformed.Malformed.{Malformed}
use Rattle.opgp_octets.specs.declared.fault.Fault.{Fault}
use Rattle.opgp_octets.specs.declared.fault.Reason.TheVariants.{BlockLabel, NotASignedLiteral}
use Rattle.opgp_octets.specs.PacketType.{packet_type_of}
use Rattle.opgp_frame.specs.declared.packet.Placed.{Placed}
use Rattle.opgp_frame.specs.Packet.{PacketValue}
use Rattle.opgp_keyring.specs.declared.shape.Shape.{Shape}
use Rattle.opgp_keyring.specs.declared.shape.Shape.TheVariants.{Opening, Closing}
use Rattle.opgp_keyring.specs.declared.signed_gathering.SignedState.{SignedState}
use Rattle.opgp_keyring.specs.declared.signed_gathering.SignedState.TheVariants.{Open, Disordered, Broken}
use Rattle.opgp_keyring.specs.Bodies.{HasNoFault, IsSound, placed_fault}
use Rattle.opgp_keyring.specs.Composed.{HasOctets}
use Rattle.opgp_keyring.specs.Composition.{Item, of_label, of_packet, placed_in, packets_in, labels_fit, fault_at}
use Rattle.opgp_keyring.specs.Keyring.{is_filler}
use Rattle.opgp_keyring.specs.Shape.{IsClosing, Stands, is_whole}
use Rattle.opgp_keyring.specs.Signed.{BeginsSigned, IsSigned, IsSignedFault, IsSignedFaultAt, IsSignedOf, StopsAt, EndsEarly, types_of, end_block, end_pos}
use Rattle.opgp_keyring.specs.SignedState.{IsOpen, IsSignedIn}
use Rattle.opgp_keyring.proofs.Faults.{label_fails}
use Rattle.opgp_keyring.proofs.Feeding.{packets_in-append, packets_push, body_fault_comes}
use Rattle.opgp_keyring.proofs.OneFault.{Two, same, before, behind, two, OneBodyFault, body_by, none_sound}
use Rattle.opgp_keyring.proofs.SignedShapes.{types-append, types-push, open_ends, close_ends, closes}
use Rattle.opgp_keyring.proofs.SignedStates.{labelled, refused, stopped, followed, closed, early, broken}
use Rattle.opgp_keyring.proofs.SignedStates.{behind as stays_behind}
use Rattle.opgp_keyring.proofs.SomeAnswer.{Laws, decided}

-- ---- one fault

prefix : (ps qs : List PacketValue) → BeginsSigned (ps ++ qs) → BeginsSigned ps
prefix ps qs (more, w) = (qs ++ more, subst IsSigned (append_assoc ps qs more) w)

whole_begins : (ps : List PacketValue) → IsSigned ps → BeginsSigned ps
whole_begins ps w = ([], subst IsSigned (sym (append-nil ps)) w)

-- what is at fault stands in none that begins a signed literal
at_fails : (front after : List Item) (at : Item) (f : Fault) → BeginsSigned (packets_in (front ++ at ∷ after)) → labels_fit (front ++ at ∷ after) ≡ true → IsSignedFaultAt (packets_in front) at f → ⊥
at_fails front after (of_label block fits) f k labels here =
    label_fails front after block (subst (λ (b : Bool). labels_fit (front ++ of_label block b ∷ after) ≡ true) here.0 labels)
at_fails front after (of_packet p) f k labels here =
    let split : packets_in (front ++ of_packet p ∷ after) ≡ (packets_in front ++ p.packet ∷ []) ++ packets_in after =
    packets_in-append front (of_packet p ∷ after) ∙ sym (append_assoc (packets_in front) (p.packet ∷ []) (packets_in after)) in
    here.0 (prefix (packets_in front ++ p.packet ∷ []) (packets_in after) (subst BeginsSigned split k))

stop_fails : (items : List Item) (f : Fault) → BeginsSigned (packets_in items) → labels_fit items ≡ true → StopsAt items f → ⊥
stop_fails items f k labels o =
    at_fails o.before o.after o.at f (subst (λ (l : List Item). BeginsSigned (packets_in l)) o.whole k) (subst (λ (l : List Item). labels_fit l ≡ true) o.whole labels) o.here

one_here : (ps : List PacketValue) (at : Item) (f g : Fault) → IsSignedFaultAt ps at f → IsSignedFaultAt ps at g → f ≡ g
one_here ps (of_label block fits) f g p q = p.1 ∙ sym q.1
one_here ps (of_packet x) f g p q = p.1 ∙ sym q.1

stop_by : (items : List Item) (f g : Fault) (o : StopsAt items f) (q : StopsAt items g) → Two o.before q.before o.at q.at → f ≡ g
stop_by items f g o q (same xs at) =
    one_here (packets_in q.before) q.at f g (subst (λ (i : Item). IsSignedFaultAt (packets_in q.before) i f) at (subst (λ (l : List Item). IsSignedFaultAt (packets_in l) o.at f) xs o.here)) q.here
stop_by items f g o q (before more e) =
    absurd (at_fails o.before more o.at f (subst (λ (l : List Item). BeginsSigned (packets_in l)) e q.begins) (subst (λ (l : List Item). labels_fit l ≡ true) e q.labels) o.here)
stop_by items f g o q (behind more e) =
    absurd (at_fails q.before more q.at g (subst (λ (l : List Item). BeginsSigned (packets_in l)) e o.begins) (subst (λ (l : List Item). labels_fit l ≡ true) e o.labels) q.here)

one_order : (items : List Item) (f g : Fault) → StopsAt items f ⊎ EndsEarly (end_pos items) items f → StopsAt items g ⊎ EndsEarly (end_pos items) items g → f ≡ g
one_order items f g (inl o) (inl q) = stop_by items f g o q (two o.before q.before o.after q.after o.at q.at (sym o.whole ∙ q.whole))
one_order items f g (inl o) (inr q) = absurd (stop_fails items f q.begins q.labels o)
one_order items f g (inr o) (inl q) = absurd (stop_fails items g o.begins o.labels q)
one_order items f g (inr o) (inr q) = o.is ∙ sym q.is

pub one_signed_fault : (policy : Malformed) (one : OneBodyFault) (items : List Item) (f g : Fault) → IsSignedFault policy items f → IsSignedFault policy items g → f ≡ g
one_signed_fault policy one items f g (inl b) (inl q) = body_by policy one (placed_in items) f g b q (two b.before q.before b.after q.after b.at q.at (sym b.whole ∙ q.whole))
one_signed_fault policy one items f g (inl b) (inr o) = absurd (none_sound policy (placed_in items) f o.0 b)
one_signed_fault policy one items f g (inr o) (inl b) = absurd (none_sound policy (placed_in items) g o.0 b)
one_signed_fault policy one items f g (inr o) (inr q) = one_order items f g o.1 q.1

-- ---- no fault

order_fails : (policy : Malformed) (items : List Item) (ps : List PacketValue) (f : Fault) → IsSignedOf policy items ps → StopsAt items f ⊎ EndsEarly (end_pos items) items f → ⊥
order_fails policy items ps f k (inl o) = stop_fails items f (whole_begins (packets_in items) (subst IsSigned k.flat k.signed)) k.labels o
order_fails policy items ps f k (inr e) = e.lacks (subst IsSigned k.flat k.signed)

pub no_signed_fault : (policy : Malformed) (items : List Item) (ps : List PacketValue) (f : Fault) → IsSignedOf policy items ps → IsSignedFault policy items f → ⊥
no_signed_fault policy items ps f k (inl b) = none_sound policy (placed_in items) f k.sound b
no_signed_fault policy items ps f k (inr o) = order_fails policy items ps f k o.1

-- ---- some answer

-- packets with one more, or none
abbrev Next : List PacketValue → PacketValue → Type 0
Next ps p = ((s : Shape) × Stands s (ps ++ p ∷ [])) ⊎ (BeginsSigned (ps ++ p ∷ []) → ⊥)

bool_cases : (b : Bool) → (b ≡ true) ⊎ (b ≡ false)
bool_cases true = inl refl
bool_cases false = inr refl

types-none : (p : PacketValue) → is_filler p.kind ≡ true → types_of (p ∷ []) ≡ []
types-none p e = ap (λ (b : Bool). cond (not b) (p.kind ∷ []) []) e

types-skip : (ps : List PacketValue) (p : PacketValue) → is_filler p.kind ≡ true → types_of (ps ++ p ∷ []) ≡ types_of ps
types-skip ps p e = types-append ps (p ∷ []) ∙ ap (λ (l : List ℕ). types_of ps ++ l) (types-none p e) ∙ append-nil (types_of ps)

skips : (s : Shape) (ps : List PacketValue) (p : PacketValue) → is_filler p.kind ≡ true → Stands s ps → Stands s (ps ++ p ∷ [])
skips (Opening n) ps p e t = types-skip ps p e ∙ t
skips (Closing left) ps p e c = record { done = c.done; some = c.some; whole = types-skip ps p e ∙ c.whole }

opens : (n : ℕ) (ps : List PacketValue) (p : PacketValue) → is_filler p.kind ≡ false → types_of ps ≡ replicate n 4 → p.kind ≡ 4 → types_of (ps ++ p ∷ []) ≡ replicate (n + 1) 4
opens n ps p e t four = types-push ps p e ∙ ap (λ (l : List ℕ). l ++ p.kind ∷ []) t ∙ ap (λ (k : ℕ). replicate n 4 ++ k ∷ []) four ∙ replicate_more n 4

comes : (n : ℕ) (ps : List PacketValue) (p : PacketValue) → is_filler p.kind ≡ false → types_of ps ≡ replicate (suc n) 4 → p.kind ≡ 11 → IsClosing (suc n) (ps ++ p ∷ [])
comes n ps p e t eleven = record {
  done = 0;
  some = omega arith;
  whole = types-push ps p e ∙ ap (λ (l : List ℕ). l ++ p.kind ∷ []) t ∙ ap (λ (k : ℕ). replicate (suc n) 4 ++ k ∷ []) eleven ∙ ap (λ (k : ℕ). replicate k 4 ++ 11 ∷ []) (let at : suc n ≡ 0 + suc n = omega arith in at);
}

before_literal : (n : ℕ) (ps : List PacketValue) (p : PacketValue) → is_filler p.kind ≡ false → types_of ps ≡ replicate n 4 → (p.kind ≡ 4 → ⊥) → Next ps p
before_literal zero ps p e t four = inr (open_ends 0 ps p e t four (λ eleven. refl))
before_literal (suc n) ps p e t four =
    elim (bool_cases (p.kind == 11)) [
      | inl y ↦ inl (Closing (suc n), comes n ps p e t (eqb-true p.kind 11 y))
      | inr y ↦ inr (open_ends (suc n) ps p e t four (λ eleven. absurd (eqb-false p.kind 11 y eleven)))
    ]

behind_literal : (left : ℕ) (ps : List PacketValue) (p : PacketValue) → is_filler p.kind ≡ false → IsClosing left ps → Next ps p
behind_literal zero ps p e c = inr (close_ends 0 ps p e c (λ two. refl))
behind_literal (suc left) ps p e c =
    elim (bool_cases (p.kind == 2)) [
      | inl y ↦ inl (Closing (suc left - 1), closes (suc left) ps p e (eqb-true p.kind 2 y) (omega arith) c)
      | inr y ↦ inr (close_ends (suc left) ps p e c (λ two. absurd (eqb-false p.kind 2 y two)))
    ]

no_filler : (s : Shape) (ps : List PacketValue) (p : PacketValue) → is_filler p.kind ≡ false → Stands s ps → Next ps p
no_filler (Opening n) ps p e t =
    elim (bool_cases (p.kind == 4)) [ inl y ↦ inl (Opening (n + 1), opens n ps p e t (eqb-true p.kind 4 y)) | inr y ↦ before_literal n ps p e t (eqb-false p.kind 4 y) ]
no_filler (Closing left) ps p e c = behind_literal left ps p e c

next : (s : Shape) (ps : List PacketValue) (p : PacketValue) → Stands s ps → Next ps p
next s ps p t = elim (bool_cases (is_filler p.kind)) [ inl e ↦ inl (s, skips s ps p e t) | inr e ↦ no_filler s ps p e t ]

-- what items have come to
abbrev Reached : Malformed → List Item → Type 0
Reached policy items = (s : SignedState) × IsSignedIn policy s items (packets_in items)

open_packet : (policy : Malformed) (shape : Shape) (given : List Item) (p : Placed) → IsOpen policy shape given (packets_in given) → HasNoFault policy p.packet → Reached policy (given ++ of_packet p ∷ [])
open_packet policy shape given p o sound =
    elim (next shape (packets_in given) p.packet o.stands) [
      | inl (s, t) ↦ (Open s, followed policy shape s given (packets_in given) (packets_in (given ++ of_packet p ∷ [])) p o sound t (packets_push given p))
      | inr none ↦ (Disordered (fault_at NotASignedLiteral p.block p.pos), refused policy shape given (packets_in given) (of_packet p) (fault_at NotASignedLiteral p.block p.pos) o sound (stopped policy shape given (packets_in given) p o none))
    ]

label_step : (policy : Malformed) (s : SignedState) (given : List Item) (block : ℕ) (fits : Bool) → IsSignedIn policy s given (packets_in given) → Reached policy (given ++ of_label block fits ∷ [])
label_step policy s given block true is =
    (s, subst (IsSignedIn policy s (given ++ of_label block true ∷ [])) (sym (packets_in-append given (of_label block true ∷ []) ∙ append-nil (packets_in given))) (labelled policy s given (packets_in given) block is))
label_step policy (Open shape) given block false o =
    (Disordered (fault_at BlockLabel block 0), refused policy shape given (packets_in given) (of_label block false) (fault_at BlockLabel block 0) o tt (refl, refl))
label_step policy (Disordered f) given block false is = (Disordered f, stays_behind policy (Disordered f) given (packets_in given) (of_label block false) tt refl is)
label_step policy (Broken f) given block false is = (Broken f, stays_behind policy (Broken f) given (packets_in given) (of_label block false) tt refl is)

packet_step : (policy : Malformed) (laws : Laws) (s : SignedState) (given : List Item) (p : Placed) → HasOctets (of_packet p) → IsSignedIn policy s given (packets_in given) → Reached policy (given ++ of_packet p ∷ [])
packet_step policy laws (Open shape) given p octets o =
    elim (decided policy laws (packet_type_of p.packet.kind) p.packet.body octets) [ inl w ↦ (Broken (placed_fault p w.0), body_fault_comes policy given p w.0 o.sound octets w.1) | inr n ↦ open_packet policy shape given p o n ]
packet_step policy laws (Disordered f) given p octets is =
    elim (decided policy laws (packet_type_of p.packet.kind) p.packet.body octets) [
      | inl w ↦ (Broken (placed_fault p w.0), body_fault_comes policy given p w.0 is.0 octets w.1)
      | inr n ↦ (Disordered f, stays_behind policy (Disordered f) given (packets_in given) (of_packet p) n refl is)
    ]
packet_step policy laws (Broken f) given p octets is = (Broken f, broken policy (Broken f) given (packets_in given) p f refl is)

step : (policy : Malformed) (laws : Laws) (given : List Item) (i : Item) → HasOctets i → Reached policy given → Reached policy (given ++ i ∷ [])
step policy laws given (of_label block fits) o (s, is) = label_step policy s given block fits is
step policy laws given (of_packet p) o (s, is) = packet_step policy laws s given p o is

steps : (policy : Malformed) (laws : Laws) (given more : List Item) → Reached policy given → AllByRecursion HasOctets more → Reached policy (given ++ more)
steps policy laws given [] r o = subst (Reached policy) (sym (append-nil given)) r
steps policy laws given (i ∷ more) r o = subst (Reached policy) (append_assoc given (i ∷ []) more) (steps policy laws (given ++ i ∷ []) more (step policy laws given i o.0 r) o.1)

starts : (policy : Malformed) → Reached policy []
starts policy = (Open (Opening 0), record { labels = refl; sound = All-nil (IsSound policy); flat = refl; stands = refl })

abbrev pub Answer : Malformed → List Item → Type 0
Answer policy items = ((ps : List PacketValue) × IsSignedOf policy items ps) ⊎ ((f : Fault) × IsSignedFault policy items f)

ended : (policy : Malformed) (items : List Item) (s : SignedState) → IsSignedIn policy s items (packets_in items) → Answer policy items
ended policy items (Open shape) o =
    elim (bool_cases (is_whole shape)) [
      | inl e ↦ inl (packets_in items, closed policy shape items (packets_in items) e o)
      | inr e ↦ inr (fault_at NotASignedLiteral (end_block items) (end_pos items), early policy shape items (packets_in items) (end_block items) (end_pos items) (end_pos items) e o refl refl)
    ]
ended policy items (Disordered f) is = inr (f, inr (is.0, inl is.1))
ended policy items (Broken f) is = inr (f, inl is)

pub some_signed_answer : (policy : Malformed) (laws : Laws) (items : List Item) → All HasOctets items → Answer policy items
some_signed_answer policy laws items o = let r = steps policy laws [] items (starts policy) (recursion_from_All HasOctets items o) in ended policy items r.0 r.1
