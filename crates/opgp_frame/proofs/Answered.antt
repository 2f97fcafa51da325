-- All octets are a list of packets or have a fault.
use Rattle.std.proofs.Common.{◌≡◌, ℕ, zero, suc, ◌+◌, ◌<◌, List, [], ◌∷◌, ◌++◌, length, drop, get_or, Option, Some, None, refl, sym, ap, subst, ◌∙◌, arith, inl, inr, ◌⊎◌, append_assoc, append-nil, length-append}
use Rattle.std.proofs.lemmas.List.{drop_at}
use Rattle.opgp_octets.specs.declared.limits.Limits.{Limits}
use Rattle.opgp_octets.specs.Octets.{IsOctets}
use Rattle.opgp_octets.specs.declared.fault.Fault.{Fault}
use Rattle.opgp_octets.specs.declared.fault.Layer.TheVariants.{Framing}
use Rattle.opgp_octets.specs.declared.fault.Reason.{Reason}
use Rattle.opgp_octets.proofs.Bytes.{IsOctets-drop}
use Rattle.opgp_frame.specs.declared.packet.Placed.{Placed}
use Rattle.opgp_frame.specs.FaultReading.{packet_fault}
use Rattle.opgp_frame.specs.Frames.{StandFrom, Frames, BeginsPacket, IsFramingFault, spelled}
use Rattle.opgp_frame.specs.Packet.{spelling}
use Rattle.opgp_frame.specs.PacketFault.{PacketFault}
use Rattle.opgp_frame.proofs.Complete.{begins_packet}
use Rattle.opgp_frame.proofs.OneFault.{fault_no_packet}
use Rattle.opgp_frame.proofs.PacketFaults.{fault_is}

-- octets without a fault of a packet begin with an allowed packet
pub begins_without_fault : (limits : Limits) (header : ℕ) (o : List ℕ) → IsOctets (header ∷ o) → ((reason : Reason) (inner : ℕ) → ¬ PacketFault limits (header ∷ o) reason inner) → BeginsPacket limits (header ∷ o)
begins_without_fault limits header o octets none =
    elim (packet_fault limits (header ∷ o)) as (λ (r : Option (Reason × ℕ)). packet_fault limits (header ∷ o) ≡ r → BeginsPacket limits (header ∷ o)) [
      | None ↦ λ e. begins_packet limits header o octets e
      | Some why ↦ λ e. absurd (none why.0 why.1 (fault_is limits (header ∷ o) why.0 why.1 octets e))
    ] refl

pub record HasLongest (limits : Limits) (block at : ℕ) (octets : List ℕ) : Type 0 where
  pub packets : List Placed
  pub rest : List ℕ
  pub whole : octets ≡ spelled packets ++ rest
  pub stand : StandFrom limits block at packets
  pub why : (rest ≡ []) ⊎ ((reason : Reason) × (inner : ℕ) × PacketFault limits rest reason inner)

pub longest : (n : ℕ) (limits : Limits) (block at : ℕ) (octets : List ℕ) → IsOctets octets → length octets < n → HasLongest limits block at octets
longest zero limits block at octets fits enough = absurd (omega arith)
longest (suc n) limits block at [] fits enough = record { packets = []; rest = []; whole = refl; stand = tt; why = inl refl }
longest (suc n) limits block at (h ∷ o) fits enough =
    elim (packet_fault limits (h ∷ o)) as (λ (r : Option (Reason × ℕ)). packet_fault limits (h ∷ o) ≡ r → HasLongest limits block at (h ∷ o)) [
      | Some why ↦ λ e. record { packets = []; rest = h ∷ o; whole = refl; stand = tt; why = inr (why.0, why.1, fault_is limits (h ∷ o) why.0 why.1 fits e) }
      | None ↦ λ e.
          let b = begins_packet limits h o fits e in
          let size : length (h ∷ o) ≡ length (spelling b.packet) + length b.more = ap (length {A = ℕ}) b.begins ∙ length-append (spelling b.packet) b.more in
          let more_fits : IsOctets b.more = λ i. subst (λ (x : List ℕ). get_or x i 0 < 256) (ap (drop (length (spelling b.packet))) b.begins ∙ drop_at (spelling b.packet) b.more (length (spelling b.packet)) refl) (IsOctets-drop (length (spelling b.packet)) (h ∷ o) fits i) in
          let again = longest n limits block (at + length (spelling b.packet)) b.more more_fits (omega (arith, enough, size)) in
          let q : Placed = record { packet = b.packet; block = block; pos = at } in
          record {
            packets = q ∷ again.packets;
            rest = again.rest;
            whole = b.begins ∙ ap (λ (x : List ℕ). spelling b.packet ++ x) again.whole ∙ sym (append_assoc (spelling b.packet) (spelled again.packets) again.rest);
            stand = (b.allowed, refl, refl, again.stand);
            why = again.why;
          }
    ] refl

pub some_answer : (limits : Limits) (block : ℕ) (octets : List ℕ) → IsOctets octets → ((packets : List Placed) × Frames limits block octets packets) ⊎ ((fault : Fault) × IsFramingFault limits block octets fault)
some_answer limits block octets fits =
    let l = longest (suc (length octets)) limits block 0 octets fits (omega arith) in
    elim l.why [
      | inl none ↦ inl (l.packets, record { whole = l.whole ∙ ap (λ (x : List ℕ). spelled l.packets ++ x) none ∙ append-nil (spelled l.packets); stand = l.stand })
      | inr (reason, inner, why) ↦ inr (
        record { layer = Framing; reason = reason; block = block; pos = length (spelled l.packets); inner = inner },
        record {
          packets = l.packets;
          rest = l.rest;
          longest = record { whole = l.whole; stand = l.stand; no_more = fault_no_packet limits l.rest reason inner why };
          why = why;
          layer = refl;
          in_block = refl;
          pos = refl;
        },
      )
    ]
