-- Octets are one list of packets, or have one fault.
use Rattle.std.proofs.Common.{◌≡◌, ◌≢◌, ℕ, ◌+◌, List, map, [], ◌∷◌, ◌++◌, length, refl, sym, ap, subst, ◌∙◌, append_assoc, append-nil}
use Rattle.std.proofs.lemmas.List.{append_cancel_left}
use Rattle.std.proofs.lemmas.List.Concat.{flat_map-append}
use Rattle.opgp_octets.specs.declared.limits.Limits.{Limits}
use Rattle.opgp_octets.specs.declared.fault.Fault.{Fault}
use Rattle.opgp_octets.specs.declared.fault.Layer.{Layer}
use Rattle.opgp_octets.specs.declared.fault.Reason.{Reason}
use Rattle.opgp_octets.specs.declared.fault.Reason.TheVariants.{Truncated}
use Rattle.opgp_frame.specs.declared.packet.Placed.{Placed}
use Rattle.opgp_frame.specs.declared.deframe.Deframe.{Deframe}
use Rattle.opgp_frame.specs.declared.deframe.State.{State}
use Rattle.opgp_frame.specs.declared.deframe.State.TheVariants.{Between, InLength, InPiece, Faulty, Spent}
use Rattle.opgp_frame.specs.PacketFault.{PacketFault}
use Rattle.opgp_frame.specs.Fed.{Fed, IsRest, packets_of}
use Rattle.opgp_frame.specs.Frames.{StandFrom, Frames, BeginsPacket, Longest, IsFramingFault, spelled}
use Rattle.opgp_frame.specs.Packet.{PacketValue, spelling, packets_octets}
use Rattle.opgp_frame.proofs.FedLemmas.{IsRest-fault}
use Rattle.opgp_frame.proofs.Faults.{PacketFault-stays}
use Rattle.opgp_frame.proofs.OneFault.{fault_no_packet, one_packet_fault}
use Rattle.opgp_frame.proofs.Unique.{one_packet}

-- a packet and its place
pub same_placed : (a b : Placed) → a.packet ≡ b.packet → a.block ≡ b.block → a.pos ≡ b.pos → a ≡ b
same_placed a b packet block pos =
    let by_packet : PacketValue → Placed = λ x. record { packet = x; block = a.block; pos = a.pos } in
    let by_block : ℕ → Placed = λ n. record { packet = b.packet; block = n; pos = a.pos } in
    let by_pos : ℕ → Placed = λ n. record { packet = b.packet; block = b.block; pos = n } in
    ap by_packet packet ∙ ap by_block block ∙ ap by_pos pos

-- two lists of packets from one place, the first with nothing more behind it
pub spelled-prefix : (limits : Limits) (block at : ℕ) (packets others : List Placed) (rest more : List ℕ) → StandFrom limits block at packets → StandFrom limits block at others
    → spelled packets ++ rest ≡ spelled others ++ more → ¬ BeginsPacket limits rest → (later : List Placed) × (packets ≡ others ++ later)
spelled-prefix limits block at packets [] rest more p q e none = (packets, refl)
spelled-prefix limits block at [] (o ∷ others) rest more p q e none =
    absurd (none (record { packet = o.packet; more = spelled others ++ more; begins = e ∙ append_assoc (spelling o.packet) (spelled others) more; allowed = q.0 }))
spelled-prefix limits block at (k ∷ packets) (o ∷ others) rest more p q e none =
    let joined : spelling k.packet ++ (spelled packets ++ rest) ≡ spelling o.packet ++ (spelled others ++ more) =
    sym (append_assoc (spelling k.packet) (spelled packets) rest) ∙ e ∙ append_assoc (spelling o.packet) (spelled others) more in
    let same = one_packet k.packet o.packet (spelled packets ++ rest) (spelled others ++ more) p.0.packet q.0.packet joined in
    let one : k ≡ o = same_placed k o same.0 (p.1 ∙ sym q.1) (p.2 ∙ sym q.2) in
    let again = spelled-prefix limits block (at + length (spelling k.packet)) packets others rest more p.3
    (subst (λ (v : PacketValue). StandFrom limits block (at + length (spelling v)) others) (sym same.0) q.3) same.1 none in
    (again.0, ap (λ (x : Placed). x ∷ packets) one ∙ ap (λ (l : List Placed). o ∷ l) again.1)

no_second : (a b : List Placed) → a ++ b ≡ [] → b ≡ []
no_second [] b e = e
no_second (x ∷ a) b e = absurd cc

-- the longest list is one
pub one_longest : (limits : Limits) (block : ℕ) (octets : List ℕ) (ps qs : List Placed) (r s : List ℕ) → Longest limits block octets ps r → Longest limits block octets qs s → (ps ≡ qs) × (r ≡ s)
one_longest limits block octets ps qs r s p q =
    let further = spelled-prefix limits block 0 ps qs r s p.stand q.stand (sym p.whole ∙ q.whole) p.no_more in
    let split : spelled ps ≡ spelled qs ++ spelled further.0 = ap spelled further.1 ∙ flat_map-append (λ (x : Placed). spelling x.packet) qs further.0 in
    let rests : spelled qs ++ (spelled further.0 ++ r) ≡ spelled qs ++ s = sym (append_assoc (spelled qs) (spelled further.0) r) ∙ ap (λ (l : List ℕ). l ++ r) (sym split) ∙ sym p.whole ∙ q.whole in
    let left : spelled further.0 ++ r ≡ s = append_cancel_left (spelled qs) (spelled further.0 ++ r) s rests in
    let back = spelled-prefix limits block 0 qs ps s r q.stand p.stand (sym q.whole ∙ p.whole) q.no_more in
    let loop : ps ≡ ps ++ (back.0 ++ further.0) = further.1 ∙ ap (λ (l : List Placed). l ++ further.0) back.1 ∙ append_assoc ps back.0 further.0 in
    let none : back.0 ++ further.0 ≡ [] = sym (append_cancel_left ps [] (back.0 ++ further.0) (append-nil ps ∙ loop)) in
    let empty : further.0 ≡ [] = no_second back.0 further.0 none in
    (further.1 ∙ ap (λ (l : List Placed). qs ++ l) empty ∙ append-nil qs, ap (λ (l : List Placed). spelled l ++ r) (sym empty) ∙ left)

-- the end of the octets is no packet
empty_begins : (limits : Limits) → ¬ BeginsPacket limits []
empty_begins limits b = let e : [] ≡ spelling b.packet ++ b.more = b.begins in cc

pub Frames-longest : (limits : Limits) (block : ℕ) (octets : List ℕ) (ps : List Placed) → Frames limits block octets ps → Longest limits block octets ps []
Frames-longest limits block octets ps f = record { whole = f.whole ∙ sym (append-nil (spelled ps)); stand = f.stand; no_more = empty_begins limits }

-- what is left of a reader's octets begins with no packet
pub IsRest-no_packet : (limits : Limits) (state : State) (ks body rest : List ℕ) → IsRest limits state ks body rest → ¬ BeginsPacket limits rest
IsRest-no_packet limits Between ks body rest r b = empty_begins limits (subst (BeginsPacket limits) r.0 b)
IsRest-no_packet limits (InLength header seen count) ks body rest r b = fault_no_packet limits rest _ _ (IsRest-fault limits (InLength header seen count) ks body rest _ _ r refl) b
IsRest-no_packet limits (InPiece header l from until) ks body rest r b = fault_no_packet limits rest _ _ (IsRest-fault limits (InPiece header l from until) ks body rest _ _ r refl) b
IsRest-no_packet limits (Faulty reason inner) ks body rest r b = fault_no_packet limits rest _ _ (IsRest-fault limits (Faulty reason inner) ks body rest _ _ r refl) b
IsRest-no_packet limits Spent ks body rest r b = r

pub Fed-longest : (limits : Limits) (block : ℕ) (d : Deframe) (given : List ℕ) (taken : List Placed) (f : Fed limits block d given taken) → Longest limits block given (packets_of d taken) f.rest
Fed-longest limits block d given taken f = record { whole = f.whole; stand = f.stand; no_more = IsRest-no_packet limits d.state d.exponents.items d.body.items f.rest f.state }

-- one fault
pub one_fault : (limits : Limits) (block : ℕ) (octets : List ℕ) (f g : Fault) → IsFramingFault limits block octets f → IsFramingFault limits block octets g → f ≡ g
one_fault limits block octets f g p q =
    let same = one_longest limits block octets p.packets q.packets p.rest q.rest p.longest q.longest in
    let why = one_packet_fault limits q.rest f.reason g.reason f.inner g.inner (subst (λ (o : List ℕ). PacketFault limits o f.reason f.inner) same.1 p.why) q.why in
    let layer : f.layer ≡ g.layer = p.layer ∙ sym q.layer in
    let in_block : f.block ≡ g.block = p.in_block ∙ sym q.in_block in
    let pos : f.pos ≡ g.pos = p.pos ∙ ap (λ (l : List Placed). length (spelled l)) same.0 ∙ sym q.pos in
    let by_layer : Layer → Fault = λ x. record { layer = x; reason = f.reason; block = f.block; pos = f.pos; inner = f.inner } in
    let by_reason : Reason → Fault = λ x. record { layer = g.layer; reason = x; block = f.block; pos = f.pos; inner = f.inner } in
    let by_block : ℕ → Fault = λ x. record { layer = g.layer; reason = g.reason; block = x; pos = f.pos; inner = f.inner } in
    let by_pos : ℕ → Fault = λ x. record { layer = g.layer; reason = g.reason; block = g.block; pos = x; inner = f.inner } in
    let by_inner : ℕ → Fault = λ x. record { layer = g.layer; reason = g.reason; block = g.block; pos = g.pos; inner = x } in
    ap by_layer layer ∙ ap by_reason why.0 ∙ ap by_block in_block ∙ ap by_pos pos ∙ ap by_inner why.1

-- a list of packets has no fault
pub no_fault : (limits : Limits) (block : ℕ) (octets : List ℕ) (ps : List Placed) (f : Fault) → Frames limits block octets ps → IsFramingFault limits block octets f → ⊥
no_fault limits block octets ps f frames fault =
    let same = one_longest limits block octets ps fault.packets [] fault.rest (Frames-longest limits block octets ps frames) fault.longest in
    subst (λ (o : List ℕ). PacketFault limits o f.reason f.inner) (sym same.1) fault.why

-- a fault but that of the end stays
pub fault_stays : (limits : Limits) (block : ℕ) (octets more : List ℕ) (f : Fault) → f.reason ≢ Truncated → IsFramingFault limits block octets f → IsFramingFault limits block (octets ++ more) f
fault_stays limits block octets more f other p =
    let why = PacketFault-stays limits p.rest more f.reason f.inner other p.why in
    record {
      packets = p.packets;
      rest = p.rest ++ more;
      longest = record {
        whole = ap (λ (o : List ℕ). o ++ more) p.longest.whole ∙ append_assoc (spelled p.packets) p.rest more;
        stand = p.longest.stand;
        no_more = fault_no_packet limits (p.rest ++ more) f.reason f.inner why;
      };
      why = why;
      layer = p.layer;
      in_block = p.in_block;
      pos = p.pos;
    }

-- places aren't spelled
pub spelled-packets : (packets : List Placed) → spelled packets ≡ packets_octets (map (λ (p : Placed). p.packet) packets)
spelled-packets [] = refl
spelled-packets (p ∷ ps) = ap (λ (o : List ℕ). spelling p.packet ++ o) (spelled-packets ps)
