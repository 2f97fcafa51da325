-- What a step of a reader does to the lists in which it stands.
use Rattle.std.proofs.Common.{◌≡◌, ℕ, ◌+◌, true, false, List, [], ◌∷◌, ◌++◌, length, take, Some, None, Option, is_some, option_to_list, refl, sym, ap, ◌∙◌, subst, append_assoc, append-nil, length-append, arith}
use Rattle.std.specs.Option.{IsSomeAnd}
use Rattle.std.proofs.lemmas.List.Concat.{flat_map-append}
use Rattle.std.proofs.lemmas.Option.{some_pair_parts}
use Rattle.std.specs.Prelude.{Result, Err}
use Rattle.opgp_octets.specs.declared.limits.Limits.{Limits}
use Rattle.opgp_octets.specs.declared.fault.Fault.{Fault}
use Rattle.opgp_octets.specs.declared.fault.Layer.TheVariants.{Framing}
use Rattle.opgp_octets.specs.declared.fault.Reason.{Reason}
use Rattle.opgp_octets.specs.declared.fault.Reason.TheVariants.{Truncated}
use Rattle.opgp_octets.proofs.Bytes.{same_some}
use Rattle.opgp_frame.specs.declared.packet.Placed.{Placed}
use Rattle.opgp_frame.specs.declared.deframe.Deframe.{Deframe}
use Rattle.opgp_frame.specs.declared.deframe.State.{State}
use Rattle.opgp_frame.specs.declared.deframe.State.TheVariants.{Between, InLength, InPiece, Faulty, Spent}
use Rattle.opgp_frame.specs.PacketFault.{PacketFault}
use Rattle.opgp_frame.specs.Fed.{Fed, KeepsFed, IsRest, fault_of_state, packets_of, is_spent_state}
use Rattle.opgp_frame.specs.Frames.{IsAllowed, IsFramingFault, StandFrom, spelled}
use Rattle.opgp_frame.specs.Packet.{PacketValue, spelling}
use Rattle.opgp_frame.specs.ReaderState.{state_fault}
use Rattle.opgp_frame.specs.Unfinished.{IsWhole}
use Rattle.opgp_frame.proofs.Faults.{IsAtLength-fault, IsInPiece-fault}
use Rattle.opgp_frame.proofs.OneFault.{fault_no_packet}

-- what is left is at fault
pub Fed-at_fault : (limits : Limits) (block : ℕ) (d : Deframe) (given : List ℕ) (taken : List Placed) (s : Fed limits block d given taken) (reason : Reason) (inner : ℕ) → PacketFault limits s.rest reason inner
    → IsFramingFault limits block given (record { layer = Framing; reason = reason; block = d.block; pos = d.start; inner = inner })
Fed-at_fault limits block d given taken s reason inner why = record {
  packets = packets_of d taken;
  rest = s.rest;
  longest = record { whole = s.whole; stand = s.stand; no_more = fault_no_packet limits s.rest reason inner why };
  why = why;
  layer = refl;
  in_block = s.block_kept;
  pos = s.start;
}

-- one more packet's octets stand after those of the others
pub spelled-push : (ps : List Placed) (p : Placed) → spelled (ps ++ p ∷ []) ≡ spelled ps ++ spelling p.packet
spelled-push ps p = flat_map-append (λ (q : Placed). spelling q.packet) ps (p ∷ []) ∙ ap (λ (l : List ℕ). spelled ps ++ l) (append-nil (spelling p.packet))

-- one more allowed packet that begins where the others end
pub StandFrom-push : (limits : Limits) (block at : ℕ) (ps : List Placed) (p : Placed) → StandFrom limits block at ps → IsAllowed limits p.packet → p.block ≡ block → p.pos ≡ at + length (spelled ps) → StandFrom limits block at (ps ++ p ∷ [])
StandFrom-push limits block at [] p s allowed here begins = (allowed, here, omega (arith, begins), tt)
StandFrom-push limits block at (q ∷ ps) p s allowed here begins =
    (s.0, s.1, s.2, StandFrom-push limits block (at + length (spelling q.packet)) ps p s.3 allowed here (omega (arith, begins, length-append (spelling q.packet) (spelled ps))))

-- nothing is ready
pub None-from_is_some : (o : Option Placed) → is_some o ≡ false → o ≡ None
None-from_is_some None e = refl
None-from_is_some (Some p) e = cc

-- the same packets, and more octets of what is left
grown : (limits : Limits) (block : ℕ) (d e : Deframe) (given piece : List ℕ) (taken : List Placed) (s : Fed limits block d given taken)
    → e.ready ≡ d.ready → is_some d.ready ≡ false → e.limits ≡ d.limits → e.block ≡ d.block → e.start ≡ d.start → e.given ≡ d.given + length piece
    → IsRest limits e.state e.exponents.items e.body.items (s.rest ++ piece) → Fed limits block e (given ++ piece) taken
grown limits block d e given piece taken s ready free same_limits same_block start count state =
    let packets : packets_of e taken ≡ packets_of d taken = ap (λ (o : Option Placed). taken ++ option_to_list o) ready in
    record {
      rest = s.rest ++ piece;
      limits_kept = same_limits ∙ s.limits_kept;
      block_kept = same_block ∙ s.block_kept;
      whole = ap (λ (l : List ℕ). l ++ piece) s.whole ∙ append_assoc (spelled (packets_of d taken)) s.rest piece ∙ ap (λ (ps : List Placed). spelled ps ++ (s.rest ++ piece)) (sym packets);
      stand = subst (StandFrom limits block 0) (sym packets) s.stand;
      start = start ∙ s.start ∙ ap (λ (ps : List Placed). length (spelled ps)) (sym packets);
      count = omega (arith, count, s.count, length-append given piece);
      state = state;
      waits = λ h. absurd (let k : is_some d.ready ≡ true = ap (is_some {T = Placed}) (sym ready) ∙ h in cc);
    }

pub Fed-grows : (limits : Limits) (block : ℕ) (d e : Deframe) (given piece : List ℕ) (taken : List Placed) (s : Fed limits block d given taken)
    → e.ready ≡ d.ready → is_some d.ready ≡ false → e.limits ≡ d.limits → e.block ≡ d.block → e.start ≡ d.start → e.given ≡ d.given + length piece
    → IsRest limits e.state e.exponents.items e.body.items (s.rest ++ piece) → Fed limits block e (given ++ piece) (taken ++ [])
Fed-grows limits block d e given piece taken s ready free same_limits same_block start count state =
    subst (Fed limits block e (given ++ piece)) (sym (append-nil taken)) (grown limits block d e given piece taken s ready free same_limits same_block start count state)

-- a piece that makes the octets of an allowed packet, which is ready, of what is left
pub Fed-completes : (limits : Limits) (block : ℕ) (d e : Deframe) (given piece : List ℕ) (taken : List Placed) (p : PacketValue) (s : Fed limits block d given taken)
    → is_some d.ready ≡ false → e.limits ≡ d.limits → e.block ≡ d.block → s.rest ++ piece ≡ spelling p → IsAllowed limits p → e.ready ≡ Some (record { packet = p; block = d.block; pos = d.start })
    → e.state ≡ Between → e.exponents.items ≡ [] → e.body.items ≡ [] → e.start ≡ d.given + length piece → e.given ≡ d.given + length piece → Fed limits block e (given ++ piece) taken
Fed-completes limits block d e given piece taken p s free same_limits same_block rest allowed ready state no_exponents no_body start count =
    let q : Placed = record { packet = p; block = d.block; pos = d.start } in
    let none : d.ready ≡ None = None-from_is_some d.ready free in
    let before : packets_of d taken ≡ taken = ap (λ (o : Option Placed). taken ++ option_to_list o) none ∙ append-nil taken in
    let after : packets_of e taken ≡ taken ++ q ∷ [] = ap (λ (o : Option Placed). taken ++ option_to_list o) ready in
    let stream : given ≡ spelled taken ++ s.rest = s.whole ∙ ap (λ (ps : List Placed). spelled ps ++ s.rest) before in
    let whole : given ++ piece ≡ spelled (packets_of e taken) =
    ap (λ (l : List ℕ). l ++ piece) stream ∙ append_assoc (spelled taken) s.rest piece ∙ ap (λ (l : List ℕ). spelled taken ++ l) rest ∙ sym (ap spelled after ∙ spelled-push taken q) in
    let begins : d.start ≡ 0 + length (spelled taken) = omega (arith, s.start ∙ ap (λ (ps : List Placed). length (spelled ps)) before) in
    let counted : d.given + length piece ≡ length (given ++ piece) = omega (arith, s.count, length-append given piece) in
    record {
      rest = [];
      limits_kept = same_limits ∙ s.limits_kept;
      block_kept = same_block ∙ s.block_kept;
      whole = whole ∙ sym (append-nil (spelled (packets_of e taken)));
      stand = subst (StandFrom limits block 0) (sym after) (StandFrom-push limits block 0 taken q (subst (StandFrom limits block 0) before s.stand) allowed s.block_kept begins);
      start = start ∙ counted ∙ ap (length {A = ℕ}) whole;
      count = count ∙ counted;
      state = subst (λ (t : State). IsRest limits t e.exponents.items e.body.items []) (sym state) (refl, no_exponents, no_body);
      waits = λ _. refl;
    }

-- a piece that makes the octets of an allowed packet, which is handed out, of what is left
pub Fed-lends : (limits : Limits) (block : ℕ) (d e : Deframe) (given piece : List ℕ) (taken : List Placed) (q : Placed) (s : Fed limits block d given taken)
    → is_some d.ready ≡ false → e.ready ≡ d.ready → e.limits ≡ d.limits → e.block ≡ d.block → q.block ≡ d.block → q.pos ≡ d.start → IsWhole limits (s.rest ++ piece) q.packet
    → e.state ≡ Between → e.exponents.items ≡ [] → e.body.items ≡ [] → e.start ≡ d.given + length piece → e.given ≡ d.given + length piece → Fed limits block e (given ++ piece) (taken ++ q ∷ [])
Fed-lends limits block d e given piece taken q s free same_ready same_limits same_block in_block at_start is state no_exponents no_body start count =
    let none : d.ready ≡ None = None-from_is_some d.ready free in
    let before : packets_of d taken ≡ taken = ap (λ (o : Option Placed). taken ++ option_to_list o) none ∙ append-nil taken in
    let after : packets_of e (taken ++ q ∷ []) ≡ taken ++ q ∷ [] = ap (λ (o : Option Placed). (taken ++ q ∷ []) ++ option_to_list o) (same_ready ∙ none) ∙ append-nil (taken ++ q ∷ []) in
    let stream : given ≡ spelled taken ++ s.rest = s.whole ∙ ap (λ (ps : List Placed). spelled ps ++ s.rest) before in
    let whole : given ++ piece ≡ spelled (packets_of e (taken ++ q ∷ [])) =
    ap (λ (l : List ℕ). l ++ piece) stream ∙ append_assoc (spelled taken) s.rest piece ∙ ap (λ (l : List ℕ). spelled taken ++ l) is.spelled ∙ sym (ap spelled after ∙ spelled-push taken q) in
    let begins : d.start ≡ 0 + length (spelled taken) = omega (arith, s.start ∙ ap (λ (ps : List Placed). length (spelled ps)) before) in
    let counted : d.given + length piece ≡ length (given ++ piece) = omega (arith, s.count, length-append given piece) in
    record {
      rest = [];
      limits_kept = same_limits ∙ s.limits_kept;
      block_kept = same_block ∙ s.block_kept;
      whole = whole ∙ sym (append-nil (spelled (packets_of e (taken ++ q ∷ []))));
      stand = subst (StandFrom limits block 0) (sym after) (StandFrom-push limits block 0 taken q (subst (StandFrom limits block 0) before s.stand) is.allowed (in_block ∙ s.block_kept) (at_start ∙ begins));
      start = start ∙ counted ∙ ap (length {A = ℕ}) whole;
      count = count ∙ counted;
      state = subst (λ (t : State). IsRest limits t e.exponents.items e.body.items []) (sym state) (refl, no_exponents, no_body);
      waits = λ _. refl;
    }

same_fault : (limits : Limits) (o : List ℕ) (why reason : Reason) (at inner : ℕ) → ◌≡◌ {A = Option (Reason × ℕ)} (Some (why, at)) (Some (reason, inner)) → PacketFault limits o why at → PacketFault limits o reason inner
same_fault limits o why reason at inner e fault =
    let parts = some_pair_parts why reason at inner e in
    subst (λ (n : ℕ). PacketFault limits o reason n) parts.1 (subst (λ (r : Reason). PacketFault limits o r at) parts.0 fault)

-- what is left is at fault as the state says
pub IsRest-fault : (limits : Limits) (state : State) (ks body rest : List ℕ) (reason : Reason) (inner : ℕ) → IsRest limits state ks body rest
    → state_fault state (length ks) (length body) ≡ Some (reason, inner) → PacketFault limits rest reason inner
IsRest-fault limits Between ks body rest reason inner r e = absurd cc
IsRest-fault limits (InLength header seen count) ks body rest reason inner r e =
    same_fault limits rest Truncated reason (1 + (length ks + length body)) inner e (IsAtLength-fault limits header (take count seen) ks body rest r)
IsRest-fault limits (InPiece header l from until) ks body rest reason inner r e =
    same_fault limits rest Truncated reason (1 + (length ks + from)) inner e (IsInPiece-fault limits header l from until ks body rest r.0 r.1)
IsRest-fault limits (Faulty why at) ks body rest reason inner r e =
    same_fault limits rest why reason at inner e (subst (λ (o : List ℕ). PacketFault limits o why at) (append-nil rest) (r []))
IsRest-fault limits Spent ks body rest reason inner r e = absurd r

pub Fed-fault : (limits : Limits) (block : ℕ) (d : Deframe) (given : List ℕ) (taken : List Placed) (reason : Reason) (inner : ℕ) → Fed limits block d given taken
    → state_fault d.state (length d.exponents.items) (length d.body.items) ≡ Some (reason, inner) → IsFramingFault limits block given (record { layer = Framing; reason = reason; block = d.block; pos = d.start; inner = inner })
Fed-fault limits block d given taken reason inner fed e =
    Fed-at_fault limits block d given taken fed reason inner (IsRest-fault limits d.state d.exponents.items d.body.items fed.rest reason inner fed.state e)

-- the fault that a state keeps is the one where the octets end
pub same_kept : (state : State) (exponents body block pos : ℕ) (fault : Fault) (reason : Reason) (inner : ℕ) → fault_of_state state block pos ≡ Some fault → state_fault state exponents body ≡ Some (reason, inner)
    → ◌≡◌ {A = Result (Unit {0}) Fault} (Err (record { layer = Framing; reason = reason; block = block; pos = pos; inner = inner })) (Err fault)
same_kept Between exponents body block pos fault reason inner e why = absurd cc
same_kept (InLength header seen count) exponents body block pos fault reason inner e why = absurd cc
same_kept (InPiece header l from until) exponents body block pos fault reason inner e why = absurd cc
same_kept (Faulty own place) exponents body block pos fault reason inner e why =
    let parts = some_pair_parts own reason place inner why in
    let by_reason : Reason → Fault = λ r. record { layer = Framing; reason = r; block = block; pos = pos; inner = inner } in
    let by_inner : ℕ → Fault = λ n. record { layer = Framing; reason = own; block = block; pos = pos; inner = n } in
    let kept : by_inner place ≡ fault = same_some (by_inner place) fault e in
    ap (λ (f : Fault). Err f) (ap by_reason (sym parts.0) ∙ ap by_inner (sym parts.1) ∙ kept)
same_kept Spent exponents body block pos fault reason inner e why = absurd cc

-- after running out of memory no fault is kept
pub state_fault-spent : (state : State) (exponents body : ℕ) (why : Reason × ℕ) → is_spent_state state ≡ true → state_fault state exponents body ≡ Some why → ⊥
state_fault-spent Spent exponents body why spent e = cc
state_fault-spent Between exponents body why spent e = cc
state_fault-spent (InLength header seen count) exponents body why spent e = cc
state_fault-spent (InPiece header l from until) exponents body why spent e = cc
state_fault-spent (Faulty reason inner) exponents body why spent e = cc

-- the packet that is ready, in its place
ready_whole : (limits : Limits) (block start : ℕ) (rest : List ℕ) (o : Option Placed) → IsSomeAnd o (λ p. (p.block ≡ block) × (p.pos ≡ start) × IsWhole limits rest p.packet)
    → (p : PacketValue) × (o ≡ Some (record { packet = p; block = block; pos = start })) × IsWhole limits rest p
ready_whole limits block start rest None h = absurd h
ready_whole limits block start rest (Some q) h =
    let in_block : ℕ → Placed = λ b. record { packet = q.packet; block = b; pos = q.pos } in
    let at_pos : ℕ → Placed = λ n. record { packet = q.packet; block = block; pos = n } in
    (q.packet, ap (λ (x : Placed). Some x) (ap in_block h.0 ∙ ap at_pos h.1), h.2)

pub Fed-ends : (limits : Limits) (block : ℕ) (d e : Deframe) (given piece : List ℕ) (taken : List Placed) (s : Fed limits block d given taken)
    → is_some d.ready ≡ false → e.limits ≡ d.limits → e.block ≡ d.block → IsSomeAnd e.ready (λ p. (p.block ≡ d.block) × (p.pos ≡ d.start) × IsWhole limits (s.rest ++ piece) p.packet)
    → e.state ≡ Between → e.exponents.items ≡ [] → e.body.items ≡ [] → e.start ≡ d.given + length piece → e.given ≡ d.given + length piece → Fed limits block e (given ++ piece) (taken ++ [])
Fed-ends limits block d e given piece taken s free same_limits same_block ready state no_exponents no_body start count =
    let r = ready_whole limits d.block d.start (s.rest ++ piece) e.ready ready in
    subst (Fed limits block e (given ++ piece)) (sym (append-nil taken)) (Fed-completes limits block d e given piece taken r.0 s free same_limits same_block r.2.spelled r.2.allowed r.1 state no_exponents no_body start count)

-- one push after another
pub KeepsFed-then : (a b c : Deframe) (x y : List ℕ) → KeepsFed a b x [] → KeepsFed b c y [] → KeepsFed a c (x ++ y) []
KeepsFed-then a b c x y first second limits block given taken f =
    subst (λ (o : List ℕ). Fed limits block c o (taken ++ [])) (append_assoc given x y)
    (subst (Fed limits block c ((given ++ x) ++ y)) (append-nil (taken ++ [])) (second limits block (given ++ x) (taken ++ []) (first limits block given taken f)))
