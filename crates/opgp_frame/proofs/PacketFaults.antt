-- The fault that reading a packet gives is the relation's, and the other way round.
use Rattle.std.proofs.Common.{◌≡◌, ℕ, zero, suc, ◌+◌, ◌^◌, ◌≤◌, cond, ltb, List, [], ◌∷◌, ◌++◌, length, take, drop, Option, Some, None, refl, sym, ap, subst, ◌∙◌, arith, inl, inr, length-append, append-nil}
use Rattle.std.proofs.lemmas.Bool.{ltb-true, ltb-false, lt-ltb}
use Rattle.std.proofs.lemmas.List.{take-append-drop, take_at, drop_at, drop-drop, length-drop, length-take-le, drop_all}
use Rattle.std.proofs.lemmas.Option.{some_pair_parts}
use Rattle.opgp_octets.specs.declared.limits.Limits.{Limits}
use Rattle.opgp_octets.specs.declared.fault.Reason.{Reason}
use Rattle.opgp_octets.specs.declared.fault.Reason.TheVariants.{Truncated}
use Rattle.opgp_octets.specs.declared.packet_len.PacketLen.TheVariants as new
use Rattle.opgp_octets.specs.Octets.{IsOctets}
use Rattle.opgp_octets.proofs.Bytes.{chosen, IsOctets-drop}
use Rattle.opgp_frame.specs.declared.length.Length.{Length}
use Rattle.opgp_frame.specs.declared.length.Length.TheVariants.{New}
use Rattle.opgp_frame.specs.FaultReading.{lengths_fault, packet_fault, or_fault}
use Rattle.opgp_frame.specs.Header.{kind_in}
use Rattle.opgp_frame.specs.Length.{LengthBegins, length_amount, length_at, is_partial}
use Rattle.opgp_frame.specs.Packet.{cut_body}
use Rattle.opgp_frame.specs.PacketFault.{NextFault, FaultBehind, PacketFault, header_fault, length_fault}
use Rattle.opgp_frame.specs.PiecesValue.{pieces_sum}
use Rattle.opgp_frame.specs.Unfinished.{HasBegun}
use Rattle.opgp_frame.proofs.Chains.{GoodFrom, piece_length, behind, lengths_fault-read, lengths_fault-unread}
use Rattle.opgp_frame.proofs.Complete.{partial_is, GoodFrom-pieces}
use Rattle.opgp_frame.proofs.Cuts.{cut_body-last}
use Rattle.opgp_frame.proofs.Chains.{packet_fault-begun, packet_fault-header}
use Rattle.opgp_frame.proofs.Faults.{place_behind}
use Rattle.opgp_frame.proofs.Lengths.{length_takes, reads_there, none_there}

-- ---- what is read is so

-- where no length begins the octets none is read
nothing_read : (header : ℕ) (o : List ℕ) → IsOctets o → ((l : Length) (count : ℕ) → LengthBegins header o l count → ⊥) → length_at header o ≡ None
nothing_read header o octets none =
    elim (length_at header o) as (λ (r : Option (Length × ℕ)). length_at header o ≡ r → r ≡ None) [
      | None ↦ λ e. refl
      | Some x ↦ λ e. absurd (none x.0 x.1 (length_takes header o x octets e))
    ] refl

-- behind length headers that are good, those so far counted
record ChainFault (limits : Limits) (header before sum at : ℕ) (o : List ℕ) (reason : Reason) (inner : ℕ) : Type 0 where
  exponents : List ℕ
  body : List ℕ
  rest : List ℕ
  octets : o ≡ cut_body exponents rest body
  whole : length body ≡ pieces_sum exponents
  good : GoodFrom limits header before sum exponents
  place : inner ≡ at + (length exponents + pieces_sum exponents)
  next : NextFault limits header (before + length exponents) (sum + pieces_sum exponents) rest reason

here : (limits : Limits) (header before sum at : ℕ) (o : List ℕ) (reason : Reason) (inner : ℕ) → inner ≡ at → NextFault limits header before sum o reason → ChainFault limits header before sum at o reason inner
here limits header before sum at o reason inner place next =
    let b : before ≡ before + 0 = omega arith in
    let s : sum ≡ sum + 0 = omega arith in
    record {
      exponents = [];
      body = [];
      rest = o;
      octets = sym (append-nil o);
      whole = refl;
      good = tt;
      place = omega (arith, place);
      next = subst (λ (n : ℕ). NextFault limits header (before + 0) n o reason) s (subst (λ (n : ℕ). NextFault limits header n sum o reason) b next);
    }

before_it : (limits : Limits) (header before sum at k : ℕ) (o : List ℕ) (count : ℕ) (reason : Reason) (inner : ℕ) → LengthBegins header o (New (new.Partial k)) count → length_fault limits (kind_in header) before sum (piece_length k) ≡ None
    → count + 2 ^ k ≤ length o → ChainFault limits header (before + 1) (sum + 2 ^ k) (at + (count + 2 ^ k)) (drop (count + 2 ^ k) o) reason inner → ChainFault limits header before sum at o reason inner
before_it limits header before sum at k o count reason inner begins fine room c =
    let left : List ℕ = drop count o in
    let piece : List ℕ = take (2 ^ k) left in
    let size : length piece ≡ 2 ^ k = length-take-le (2 ^ k) left (omega (arith, room, length-drop count o)) in
    let behind_it : drop (2 ^ k) left ≡ cut_body c.exponents c.rest c.body = drop-drop (2 ^ k) count o ∙ c.octets in
    let front : take (2 ^ k) (piece ++ c.body) ≡ piece = take_at piece c.body (2 ^ k) size in
    let back : drop (2 ^ k) (piece ++ c.body) ≡ c.body = drop_at piece c.body (2 ^ k) size in
    let count_is : (before + 1) + length c.exponents ≡ before + length (k ∷ c.exponents) = omega arith in
    let sum_is : (sum + 2 ^ k) + pieces_sum c.exponents ≡ sum + pieces_sum (k ∷ c.exponents) = omega arith in
    record {
      exponents = k ∷ c.exponents;
      body = piece ++ c.body;
      rest = c.rest;
      octets = sym (take-append-drop count o) ∙ ap (λ (x : List ℕ). x ++ left) begins.spelled ∙ ap (λ (x : List ℕ). (224 + k) ∷ x) (sym (take-append-drop (2 ^ k) left) ∙ ap (λ (x : List ℕ). piece ++ x) behind_it ∙ rw (front, back) refl);
      whole = omega (arith, c.whole, size, length-append piece c.body);
      good = (begins.fits, begins.under, fine, c.good);
      place = omega (arith, c.place, begins.size);
      next = rw (← count_is, ← sum_is) c.next;
    }

chain : (n : ℕ) (limits : Limits) (header before sum at : ℕ) (o : List ℕ) (reason : Reason) (inner : ℕ) → IsOctets o → lengths_fault n limits header before sum at o ≡ Some (reason, inner) → ChainFault limits header before sum at o reason inner
unfolding lengths_fault
chain zero limits header before sum at o reason inner octets e = absurd cc
chain (suc n) limits header before sum at o reason inner octets e =
    elim (length_at header o) as (λ (r : Option (Length × ℕ)). length_at header o ≡ r → ChainFault limits header before sum at o reason inner) [
      | None ↦ λ k.
          let q = some_pair_parts Truncated reason at inner (sym (lengths_fault-unread n limits header before sum at o k) ∙ e) in
          here limits header before sum at o reason inner (sym q.1) (inl (none_there header o k, sym q.0))
      | Some x ↦ λ k.
          let l : Length = x.0 in
          let count : ℕ = x.1 in
          let begins = length_takes header o x octets k in
          let read = sym (lengths_fault-read n limits header before sum at o l count k) ∙ e in
          elim (length_fault limits (kind_in header) before sum l) as (λ (r : Option Reason). length_fault limits (kind_in header) before sum l ≡ r → or_fault r at (behind n limits header before sum at o l count) ≡ Some (reason, inner) → ChainFault limits header before sum at o reason inner) [
            | Some d ↦ λ bad h.
                let q = some_pair_parts d reason at inner h in
                here limits header before sum at o reason inner (sym q.1) (inr (l, count, begins, inl (bad ∙ ap (λ (y : Reason). Some y) q.0)))
            | None ↦ λ good h. elim (chosen (ltb (length o) (count + length_amount l)) (Some (Truncated, at)) (cond (is_partial l) (lengths_fault n limits header (before + 1) (sum + length_amount l) (at + (count + length_amount l)) (drop (count + length_amount l) o)) None) (Some (reason, inner)) h) [
              | inl p ↦
                  let q = some_pair_parts Truncated reason at inner p.1 in
                  here limits header before sum at o reason inner (sym q.1) (inr (l, count, begins, inr (good, ltb-true (length o) (count + length_amount l) p.0, sym q.0)))
              | inr p ↦ elim (chosen (is_partial l) (lengths_fault n limits header (before + 1) (sum + length_amount l) (at + (count + length_amount l)) (drop (count + length_amount l) o)) None (Some (reason, inner)) p.1) [
                | inr q ↦ absurd (let w = q.1 in cc)
                | inl q ↦
                    let is = partial_is l q.0 in
                    let room : count + length_amount l ≤ length o = ltb-false (length o) (count + length_amount l) p.0 in
                    let again = chain n limits header (before + 1) (sum + length_amount l) (at + (count + length_amount l)) (drop (count + length_amount l) o) reason inner (IsOctets-drop (count + length_amount l) o octets) q.1 in
                    before_it limits header before sum at is.0 o count reason inner (subst (λ (m : Length). LengthBegins header o m count) is.1 begins)
                    (subst (λ (m : Length). length_fault limits (kind_in header) before sum m ≡ None) is.1 good) (subst (λ (m : Length). count + length_amount m ≤ length o) is.1 room)
                    (subst (λ (m : Length). ChainFault limits header (before + 1) (sum + length_amount m) (at + (count + length_amount m)) (drop (count + length_amount m) o) reason inner) is.1 again)
              ]
            ]
          ] refl read
    ] refl

behind_all : (limits : Limits) (header : ℕ) (o : List ℕ) (reason : Reason) (inner : ℕ) → ChainFault limits header 0 0 1 o reason inner → FaultBehind limits header o reason inner
behind_all limits header o reason inner c =
    let n : 0 + length c.exponents ≡ length c.exponents = omega arith in
    let s : 0 + pieces_sum c.exponents ≡ pieces_sum c.exponents = omega arith in
    record {
      exponents = c.exponents;
      body = c.body;
      rest = c.rest;
      octets = c.octets;
      whole = c.whole;
      good = GoodFrom-pieces limits header c.exponents c.good;
      place = c.place;
      next = subst (λ (m : ℕ). NextFault limits header (length c.exponents) m c.rest reason) s (subst (λ (m : ℕ). NextFault limits header m (0 + pieces_sum c.exponents) c.rest reason) n c.next);
    }

pub fault_is : (limits : Limits) (o : List ℕ) (reason : Reason) (inner : ℕ) → IsOctets o → packet_fault limits o ≡ Some (reason, inner) → PacketFault limits o reason inner
unfolding packet_fault
fault_is limits [] reason inner octets e = absurd cc
fault_is limits (header ∷ o) reason inner octets e =
    elim (header_fault header) as (λ (r : Option Reason). header_fault header ≡ r → or_fault r 0 (lengths_fault (suc (length o)) limits header 0 0 1 o) ≡ Some (reason, inner) → PacketFault limits (header ∷ o) reason inner) [
      | Some d ↦ λ k h. let q = some_pair_parts d reason 0 inner h in inl (k ∙ ap (λ (y : Reason). Some y) q.0, sym q.1)
      | None ↦ λ k h. inr (k, behind_all limits header o reason inner (chain (suc (length o)) limits header 0 0 1 o reason inner (IsOctets-drop 1 (header ∷ o) octets) h))
    ] refl e

-- ---- what is so is read

next_read : (n : ℕ) (limits : Limits) (header before sum at : ℕ) (o : List ℕ) (reason : Reason) → IsOctets o → NextFault limits header before sum o reason → lengths_fault (suc n) limits header before sum at o ≡ Some (reason, at)
next_read n limits header before sum at o reason octets (inl h) = lengths_fault-unread n limits header before sum at o (nothing_read header o octets h.0) ∙ rw h.1 refl
next_read n limits header before sum at o reason octets (inr (l, count, begins, inl bad)) = lengths_fault-read n limits header before sum at o l count (reads_there header o l count begins) ∙ rw bad refl
next_read n limits header before sum at o reason octets (inr (l, count, begins, inr h)) =
    lengths_fault-read n limits header before sum at o l count (reads_there header o l count begins) ∙ rw (h.0, lt-ltb (length o) (count + length_amount l) h.1, h.2) refl

rest_octets : (ks rest body : List ℕ) → length body ≡ pieces_sum ks → IsOctets (cut_body ks rest body) → IsOctets rest
rest_octets ks rest body whole octets =
    let parts : cut_body ks [] body ++ rest ≡ cut_body ks rest body = cut_body-last ks [] body rest whole in
    subst IsOctets (drop_at (cut_body ks [] body) rest (length (cut_body ks [] body)) refl) (IsOctets-drop (length (cut_body ks [] body)) (cut_body ks [] body ++ rest) (subst IsOctets (sym parts) octets))

pub is_fault : (limits : Limits) (o : List ℕ) (reason : Reason) (inner : ℕ) → IsOctets o → PacketFault limits o reason inner → packet_fault limits o ≡ Some (reason, inner)
is_fault limits [] reason inner octets h = absurd h
is_fault limits (header ∷ o) reason inner octets (inl h) = packet_fault-header limits header o reason h.0 ∙ rw h.1 refl
is_fault limits (header ∷ o) reason inner octets (inr (good, b)) =
    let begun : HasBegun limits header b.exponents = record { octet = octets 0; read = good; pieces = b.good } in
    let run = packet_fault-begun limits header b.exponents b.rest b.body begun (omega (arith, b.whole)) in
    let all : b.rest ++ drop (pieces_sum b.exponents) b.body ≡ b.rest = ap (λ (x : List ℕ). b.rest ++ x) (drop_all (pieces_sum b.exponents) b.body (omega (arith, b.whole))) ∙ append-nil b.rest in
    let octets' : IsOctets b.rest = rest_octets b.exponents b.rest b.body b.whole (subst IsOctets b.octets (IsOctets-drop 1 (header ∷ o) octets)) in
    ap (λ (x : List ℕ). packet_fault limits (header ∷ x)) b.octets ∙ run.1 ∙ ap (lengths_fault (suc run.0) limits header (length b.exponents) (pieces_sum b.exponents) (place_behind b.exponents)) all
    ∙ next_read run.0 limits header (length b.exponents) (pieces_sum b.exponents) (place_behind b.exponents) b.rest reason octets' b.next ∙ rw b.place refl
