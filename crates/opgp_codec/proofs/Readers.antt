-- Readers whose parts and packets wait until they are taken.
use Rattle.std.proofs.Common.{◌≡◌, ◌+◌, ◌-◌, ◌≤◌, ◌++◌, ℕ, List, length, map, take, drop, sym, ap, subst, ◌∙◌, arith, append_assoc, length-append, Option, None, Some, Ok, Err, is_some, min, ◌^◌, refl}
use Rattle.std.proofs.Math.Seq.{take-add}
use Rattle.std.proofs.lemmas.List.{take-append-drop, take_rest}
use Rattle.opgp_octets.specs.declared.limits.Limits.{Limits}
use Rattle.opgp_keyring.specs.Composed.{PartValue}
use Rattle.opgp_codec.specs.declared.mode.Mode.{Mode}
use Rattle.opgp_codec.specs.declared.parts.Parts.{Parts}
use Rattle.opgp_armor.specs.Rules.{LineRule}
use Rattle.opgp_frame.specs.Fed.{held_of as packet_held, limits_of}
use Rattle.opgp_frame.specs.declared.packet.Placed.{Placed}
use Rattle.opgp_octets.specs.Limits.{body_limit, line_limit, malformed_of, pieces_limit}
use Rattle.opgp_octets.specs.declared.fault.Fault.{Fault}
use Rattle.opgp_octets.specs.declared.malformed.Malformed.{Malformed}
use Rattle.opgp_keyring.specs.Composition.{Item, of_packet, placed_in}
use Rattle.opgp_keyring.specs.State.{ready_parts}
use Rattle.opgp_keyring.specs.declared.ready.Ready.{Ready}
use Rattle.opgp_codec.specs.declared.accepts.Accepts.TheVariants.{Any}
use Rattle.opgp_codec.specs.declared.blocks.Blocks.{Blocks}
use Rattle.opgp_codec.specs.declared.found.Opening.{Opening}
use Rattle.opgp_codec.specs.declared.items.Front.{Front}
use Rattle.opgp_codec.specs.declared.items.Front.TheVariants.{Undecided, Binary, Armored}
use Rattle.opgp_codec.specs.declared.items.Items.{Items}
use Rattle.opgp_codec.specs.declared.packet_reader.PacketReader.{PacketReader}
use Rattle.opgp_codec.specs.declared.waiting_packets.WaitingPackets.{WaitingPackets}
use Rattle.opgp_codec.specs.Found.{opened}
use Rattle.opgp_codec.specs.Items.{Fed, IsDone, IsRest, Passed}
use Rattle.opgp_codec.specs.PacketReader.{Ends, IsSoFar, PacketUse, handed, most_held, packets_in}
use Rattle.opgp_codec.specs.PacketReader.{IsUsed as PacketsUsed}
use Rattle.opgp_codec.specs.Packets.{any_label}
use Rattle.opgp_codec.specs.Parts.{IsUsed, Use, front_held}
use Rattle.opgp_codec.specs.Reading.{AnswerOf}
use Rattle.opgp_codec.specs.SoundPackets.{AreSoFar}
use Rattle.opgp_codec.specs.Used.{one_if, shown_count}
use Rattle.opgp_codec.proofs.Concluding.{answer_fault, answer_top}
use Rattle.opgp_codec.proofs.Ends.{HasNoMoreOctets}
use Rattle.opgp_codec.proofs.SoundSoFar.{so_far_opened}

abbrev pub Using : Mode → Limits → List ℕ → List PartValue → Use
Using mode limits input taken = record { mode = mode; limits = limits; input = input; taken = taken }

pub used_as : (mode : Mode) (limits : Limits) (i j : List ℕ) (t s : List PartValue) (p : Parts) → i ≡ j → t ≡ s → IsUsed (Using mode limits i t) p → IsUsed (Using mode limits j s) p
used_as mode limits i j t s p e f used = subst (λ (l : List ℕ). IsUsed (Using mode limits l s) p) e (subst (λ (l : List PartValue). IsUsed (Using mode limits i l) p) f used)

-- n octets of the rest of a piece behind those before
pub input_more : (input piece : List ℕ) (at n : ℕ) → (input ++ take at piece) ++ take n (take (length piece - at) (drop at piece)) ≡ input ++ take (at + n) piece
input_more input piece at n =
    append_assoc input (take at piece) (take n (take (length piece - at) (drop at piece)))
    ∙ ap (λ (l : List ℕ). input ++ (take at piece ++ take n l)) (take_rest piece at) ∙ ap (λ (l : List ℕ). input ++ l) (sym (take-add at n piece))

pub input_all : (input piece : List ℕ) (at : ℕ) → (input ++ take at piece) ++ take (length piece - at) (drop at piece) ≡ input ++ piece
input_all input piece at =
    append_assoc input (take at piece) (take (length piece - at) (drop at piece))
    ∙ ap (λ (l : List ℕ). input ++ (take at piece ++ l)) (take_rest piece at) ∙ ap (λ (l : List ℕ). input ++ l) (take-append-drop at piece)

-- ---- how many were taken
pub one_handed : (o : Option Placed) → length (handed o) ≡ one_if (is_some o)
one_handed None = refl
one_handed (Some p) = refl

pub one_part : (o : Option Ready) → length (ready_parts o) ≡ one_if (is_some o)
one_part None = refl
one_part (Some p) = refl

pub counted_more : {P : Type 0} (taken more : List P) (was n one : ℕ) → was ≡ shown_count taken → length more ≡ one → n ≡ min (was + one) (2 ^ 64 - 1) → n ≡ shown_count (taken ++ more)
counted_more taken more was n one e f g = omega (arith, e, f, g, length-append taken more)

-- ---- packets
-- a reader of packets was used so, but for octets that wait to be framed
pub record AreFound (u : PacketUse) (r : PacketReader) : Type 0 where
  pub items : List Item
  pub fed : Fed Any u.mode u.limits r.items u.input items
  pub policy : r.malformed ≡ malformed_of u.limits
  pub so_far : IsSoFar r.malformed u.taken r.fault r.waiting items

pub found_used : (u : PacketUse) (r : PacketReader) → AreFound u r → r.taken ≡ shown_count u.taken → IsDone r.items → PacketsUsed u r
found_used u r f counted done = record { items = f.items; fed = f.fed; policy = f.policy; so_far = f.so_far; counted = counted; done = done }

pub used_found : (u : PacketUse) (r : PacketReader) → PacketsUsed u r → AreFound u r
used_found u r f = record { items = f.items; fed = f.fed; policy = f.policy; so_far = f.so_far }

-- what a step has found was kept
pub kept_found : (policy : Malformed) (taken : List Placed) (a b : Option Fault) (v w : WaitingPackets) (list found : List Item) (opening : Option Opening) (packets : List Placed) → found ≡ opened opening ++ map of_packet packets
    → ((list : List Item) → IsSoFar policy taken a v list → IsSoFar policy taken b w (list ++ map of_packet packets)) → IsSoFar policy taken a v list → IsSoFar policy taken b w (list ++ found)
kept_found policy taken a b v w list found opening packets f step h =
    let told = so_far_opened policy (λ ps. ps ≡ taken ++ packets_in v) a list opening h in
    subst (IsSoFar policy taken b w) (append_assoc list (opened opening) (map of_packet packets) ∙ ap (λ (l : List Item). list ++ l) (sym f)) (step (list ++ opened opening) told)

-- what they hold
front_short : (mode : Mode) (limits : Limits) (front : Front) (f : Blocks) (seen input : List ℕ) (items : List Item) → Passed Any mode limits front f seen input items → (f.limits ≡ limits) × (front_held front ≤ line_limit limits + 16)
front_short mode limits Undecided f seen input items x = (x.4.limits_kept, omega arith)
front_short mode limits Binary f seen input items x = (x.1.limits_kept, omega arith)
front_short mode limits (Armored t) f seen input items x = (x.2.framed.2.limits_kept, omega (arith, t.dearmor.bounded, ap (λ (r : LineRule). r.most) x.2.rule))

pub packets_held : (u : PacketUse) (a : Items) (items : List Item) → Fed Any u.mode u.limits a u.input items → front_held a.front + packet_held a.framer.deframe ≤ most_held u.limits
packets_held u a items fed =
    let d = a.framer.deframe in
    let front = front_short u.mode u.limits a.front a.framer u.input u.input items fed.passed in
    let framed : limits_of d ≡ u.limits = a.framer.within ∙ front.0 in
    let packet : packet_held d ≤ body_limit u.limits + pieces_limit u.limits + 16 = subst (λ (l : Limits). packet_held d ≤ body_limit l + pieces_limit l + 16) framed d.held in
    omega (arith, front.1, packet)

-- ---- the end
pub ends_sound : (u : PacketUse) (policy : Malformed) (waiting : WaitingPackets) (items : List Item) (opening : Option Opening) → policy ≡ malformed_of u.limits → HasNoMoreOctets → IsSoFar policy u.taken None waiting items → AnswerOf any_label (IsRest items) u.mode u.limits u.input (Ok opening) → Ends u (Ok waiting)
ends_sound u policy waiting items opening same law h answer =
    let told = so_far_opened policy (λ ps. ps ≡ u.taken ++ packets_in waiting) None items opening h in
    answer_top any_label _ u.mode u.limits u.input items opening (Ok waiting) law (λ read. subst (λ (m : Malformed). AreSoFar m (λ ps. ps ≡ u.taken ++ packets_in waiting) None (placed_in (items ++ opened opening))) same told) answer

pub ends_faulty : (u : PacketUse) (policy : Malformed) (waiting : WaitingPackets) (items : List Item) (fault : Fault) (opening : Option Opening) → policy ≡ malformed_of u.limits → HasNoMoreOctets → IsSoFar policy u.taken (Some fault) waiting items → AnswerOf any_label (IsRest items) u.mode u.limits u.input (Ok opening) → Ends u (Err fault)
ends_faulty u policy waiting items fault opening same law h answer =
    let told = so_far_opened policy (λ ps. ps ≡ u.taken ++ packets_in waiting) (Some fault) items opening h in
    answer_top any_label _ u.mode u.limits u.input items opening (Err fault) law (λ read. (subst (λ (m : Malformed). AreSoFar m (λ ps. ps ≡ u.taken ++ packets_in waiting) (Some fault) (placed_in (items ++ opened opening))) same told).0) answer

pub ends_below : (u : PacketUse) (items : List Item) (fault : Fault) → AnswerOf any_label (IsRest items) u.mode u.limits u.input (Err fault) → Ends u (Err fault)
ends_below u items fault answer = answer_fault any_label _ u.mode u.limits u.input items fault answer
