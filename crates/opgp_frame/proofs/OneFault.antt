-- Octets have one fault of a packet at most, and what is at fault begins with no allowed packet.
use Rattle.std.proofs.Common.{◌≡◌, ℕ, ◌+◌, ◌-◌, ◌^◌, ◌≤◌, false, true, List, [], ◌∷◌, ◌++◌, length, take, drop, None, refl, sym, ap, subst, ◌∙◌, arith, inl, inr, append-nil, length-append}
use Rattle.std.proofs.lemmas.List.{drop_at, nil_from_length, length-drop, length-take-le}
use Rattle.opgp_octets.specs.declared.limits.Limits.{Limits}
use Rattle.opgp_octets.specs.declared.fault.Reason.{Reason}
use Rattle.opgp_octets.proofs.Bytes.{same_some}
use Rattle.opgp_frame.specs.declared.length.Length.{Length}
use Rattle.opgp_frame.specs.Form.{header_octet, exponents_of, last_length}
use Rattle.opgp_frame.specs.Frames.{BeginsPacket}
use Rattle.opgp_frame.specs.Header.{kind_in}
use Rattle.opgp_frame.specs.Length.{LengthBegins, length_octets, length_amount, is_partial}
use Rattle.opgp_frame.specs.Packet.{cut_body}
use Rattle.opgp_frame.specs.PacketFault.{NextFault, PacketFault, length_fault}
use Rattle.opgp_frame.specs.PiecesValue.{pieces_sum}
use Rattle.opgp_frame.proofs.Chains.{GoodFrom, GoodFrom-from_pieces, piece_length}
use Rattle.opgp_frame.proofs.Cuts.{cut_body-append}
use Rattle.opgp_frame.proofs.Faults.{cut_body-split}
use Rattle.opgp_frame.proofs.Lengths.{length_begins, one_length}
use Rattle.opgp_frame.proofs.Packets.{IsAllowed-begun, form_last, last_good}

-- no partial length that may stand there begins the octets with its whole piece behind it
abbrev pub NoPiece : Limits → ℕ → ℕ → ℕ → List ℕ → Type 0
NoPiece limits header before sum o = (k : ℕ) → LengthBegins header o (piece_length k) 1 → length_fault limits (kind_in header) before sum (piece_length k) ≡ None → 1 + 2 ^ k ≤ length o → ⊥

-- such a piece is there
piece_there : (limits : Limits) (header before sum before' sum' k : ℕ) (o piece more : List ℕ) → o ≡ (224 + k) ∷ (piece ++ more) → length piece ≡ 2 ^ k → k ≤ 30 → 192 ≤ header
    → length_fault limits (kind_in header) before sum (piece_length k) ≡ None → before' ≡ before → sum' ≡ sum → NoPiece limits header before' sum' o → ⊥
piece_there limits header before sum before' sum' k o piece more e size small current fine same_before same_sum none =
    let begins = subst (λ (x : List ℕ). LengthBegins header x (piece_length k) 1) (sym e) (length_begins header (piece_length k) (piece ++ more) small current) in
    none k begins (rw (same_before, same_sum) fine) (omega (arith, ap (length {A = ℕ}) e, length-append piece more, size))

-- good pieces, and then what is none, in one way
pub one_chain : (limits : Limits) (header before sum before' sum' : ℕ) (ks js r s b c : List ℕ) → before ≡ before' → sum ≡ sum' → GoodFrom limits header before sum ks → GoodFrom limits header before' sum' js
    → length b ≡ pieces_sum ks → length c ≡ pieces_sum js → cut_body ks r b ≡ cut_body js s c → NoPiece limits header (before + length ks) (sum + pieces_sum ks) r → NoPiece limits header (before' + length js) (sum' + pieces_sum js) s
    → (ks ≡ js) × (r ≡ s)
one_chain limits header before sum before' sum' [] [] r s b c eb es p q lb lc e none none' =
    let nb : b ≡ [] = nil_from_length b lb in
    let nc : c ≡ [] = nil_from_length c lc in
    (refl, sym (append-nil r) ∙ ap (λ (x : List ℕ). r ++ x) (sym nb) ∙ e ∙ ap (λ (x : List ℕ). s ++ x) nc ∙ append-nil s)
one_chain limits header before sum before' sum' [] (j ∷ js) r s b c eb es p q lb lc e none none' =
    let nb : b ≡ [] = nil_from_length b lb in
    let same : r ≡ (224 + j) ∷ (take (2 ^ j) c ++ cut_body js s (drop (2 ^ j) c)) = sym (append-nil r) ∙ ap (λ (x : List ℕ). r ++ x) (sym nb) ∙ e in
    absurd (piece_there limits header before' sum' (before + 0) (sum + 0) j r (take (2 ^ j) c) (cut_body js s (drop (2 ^ j) c)) same (length-take-le (2 ^ j) c (omega (arith, lc))) q.0 q.1 q.2 (omega (arith, eb)) (omega (arith, es)) none)
one_chain limits header before sum before' sum' (k ∷ ks) [] r s b c eb es p q lb lc e none none' =
    let nc : c ≡ [] = nil_from_length c lc in
    let same : s ≡ (224 + k) ∷ (take (2 ^ k) b ++ cut_body ks r (drop (2 ^ k) b)) = sym (append-nil s) ∙ ap (λ (x : List ℕ). s ++ x) (sym nc) ∙ sym e in
    absurd (piece_there limits header before sum (before' + 0) (sum' + 0) k s (take (2 ^ k) b) (cut_body ks r (drop (2 ^ k) b)) same (length-take-le (2 ^ k) b (omega (arith, lb))) p.0 p.1 p.2 (omega (arith, eb)) (omega (arith, es)) none')
one_chain limits header before sum before' sum' (k ∷ ks) (j ∷ js) r s b c eb es p q lb lc e none none' =
    let pb : List ℕ = take (2 ^ k) b in
    let pc : List ℕ = take (2 ^ j) c in
    let rb : List ℕ = drop (2 ^ k) b in
    let rc : List ℕ = drop (2 ^ j) c in
    let heads : 224 + k ≡ 224 + j = cc in
    let tails : pb ++ cut_body ks r rb ≡ pc ++ cut_body js s rc = cc in
    let same : k ≡ j = omega (arith, heads) in
    let powers : 2 ^ k ≡ 2 ^ j = ap (λ (n : ℕ). 2 ^ n) same in
    let sb : length pb ≡ 2 ^ k = length-take-le (2 ^ k) b (omega (arith, lb)) in
    let sc : length pc ≡ 2 ^ k = length-take-le (2 ^ j) c (omega (arith, lc)) ∙ sym powers in
    let rests : cut_body ks r rb ≡ cut_body js s rc = sym (drop_at pb (cut_body ks r rb) (2 ^ k) sb) ∙ ap (drop (2 ^ k)) tails ∙ drop_at pc (cut_body js s rc) (2 ^ k) sc in
    let count_k : before + length (k ∷ ks) ≡ (before + 1) + length ks = omega arith in
    let sum_k : sum + pieces_sum (k ∷ ks) ≡ (sum + 2 ^ k) + pieces_sum ks = omega arith in
    let count_j : before' + length (j ∷ js) ≡ (before' + 1) + length js = omega arith in
    let sum_j : sum' + pieces_sum (j ∷ js) ≡ (sum' + 2 ^ j) + pieces_sum js = omega arith in
    let again = one_chain limits header (before + 1) (sum + 2 ^ k) (before' + 1) (sum' + 2 ^ j) ks js r s rb rc (omega (arith, eb)) (omega (arith, es, powers)) p.3 q.3
    (omega (arith, lb, length-drop (2 ^ k) b)) (omega (arith, lc, length-drop (2 ^ j) c)) rests (rw (count_k, sum_k) at none) (rw (count_j, sum_j) at none') in
    (ap (λ (n : ℕ). n ∷ ks) same ∙ ap (λ (ns : List ℕ). j ∷ ns) again.0, again.1)

-- ---- what is behind the pieces

no_piece : (limits : Limits) (header before sum : ℕ) (o : List ℕ) (reason : Reason) → NextFault limits header before sum o reason → NoPiece limits header before sum o
no_piece limits header before sum o reason (inl h) k begins fine room = h.0 (piece_length k) 1 begins
no_piece limits header before sum o reason (inr (l, count, there, inl bad)) k begins fine room =
    let same = one_length header o l (piece_length k) count 1 there begins in
    let none = sym bad ∙ ap (length_fault limits (kind_in header) before sum) same.0 ∙ fine in cc
no_piece limits header before sum o reason (inr (l, count, there, inr h)) k begins fine room =
    let same = one_length header o l (piece_length k) count 1 there begins in
    omega (arith, h.1, same.1, ap length_amount same.0, room)

one_next : (limits : Limits) (header before sum : ℕ) (o : List ℕ) (reason other : Reason) → NextFault limits header before sum o reason → NextFault limits header before sum o other → reason ≡ other
one_next limits header before sum o reason other (inl h) (inl g) = h.1 ∙ sym g.1
one_next limits header before sum o reason other (inl h) (inr (m, n, second, why)) = absurd (h.0 m n second)
one_next limits header before sum o reason other (inr (l, count, first, why)) (inl g) = absurd (g.0 l count first)
one_next limits header before sum o reason other (inr (l, count, first, inl bad)) (inr (m, n, second, inl worse)) =
    let same = one_length header o l m count n first second in
    same_some reason other (sym bad ∙ ap (length_fault limits (kind_in header) before sum) same.0 ∙ worse)
one_next limits header before sum o reason other (inr (l, count, first, inl bad)) (inr (m, n, second, inr g)) =
    let same = one_length header o l m count n first second in
    absurd (let none = sym bad ∙ ap (length_fault limits (kind_in header) before sum) same.0 ∙ g.0 in cc)
one_next limits header before sum o reason other (inr (l, count, first, inr h)) (inr (m, n, second, inl worse)) =
    let same = one_length header o l m count n first second in
    absurd (let none = sym h.0 ∙ ap (length_fault limits (kind_in header) before sum) same.0 ∙ worse in cc)
one_next limits header before sum o reason other (inr (l, count, first, inr h)) (inr (m, n, second, inr g)) = h.2 ∙ sym g.2

pub one_packet_fault : (limits : Limits) (o : List ℕ) (reason other : Reason) (inner place : ℕ) → PacketFault limits o reason inner → PacketFault limits o other place → (reason ≡ other) × (inner ≡ place)
one_packet_fault limits [] reason other inner place p q = absurd p
one_packet_fault limits (header ∷ o) reason other inner place (inl h) (inl g) = (same_some reason other (sym h.0 ∙ g.0), h.1 ∙ sym g.1)
one_packet_fault limits (header ∷ o) reason other inner place (inl h) (inr g) = absurd (let none = sym h.0 ∙ g.0 in cc)
one_packet_fault limits (header ∷ o) reason other inner place (inr h) (inl g) = absurd (let none = sym h.0 ∙ g.0 in cc)
one_packet_fault limits (header ∷ o) reason other inner place (inr (fine, p)) (inr (good, q)) =
    let zero_count : (ks : List ℕ) → 0 + length ks ≡ length ks = λ ks. omega arith in
    let zero_sum : (ks : List ℕ) → 0 + pieces_sum ks ≡ pieces_sum ks = λ ks. omega arith in
    let none = no_piece limits header (length p.exponents) (pieces_sum p.exponents) p.rest reason p.next in
    let none' = no_piece limits header (length q.exponents) (pieces_sum q.exponents) q.rest other q.next in
    let same = one_chain limits header 0 0 0 0 p.exponents q.exponents p.rest q.rest p.body q.body refl refl (GoodFrom-from_pieces limits header p.exponents p.good) (GoodFrom-from_pieces limits header q.exponents q.good)
    p.whole q.whole (sym p.octets ∙ q.octets) (rw (zero_count p.exponents, zero_sum p.exponents) none) (rw (zero_count q.exponents, zero_sum q.exponents) none') in
    let next = subst (λ (x : List ℕ). NextFault limits header (length q.exponents) (pieces_sum q.exponents) x reason) same.1
    (subst (λ (ks : List ℕ). NextFault limits header (length ks) (pieces_sum ks) p.rest reason) same.0 p.next) in (
      one_next limits header (length q.exponents) (pieces_sum q.exponents) q.rest reason other next q.next,
      p.place ∙ ap (λ (ks : List ℕ). 1 + (length ks + pieces_sum ks)) same.0 ∙ sym q.place,
    )

-- ---- an allowed packet

-- the last length of an allowed packet, and all that it announces
record LastThere (limits : Limits) (header before sum : ℕ) (o : List ℕ) : Type 0 where
  l : Length
  count : ℕ
  begins : LengthBegins header o l count
  last : is_partial l ≡ false
  fine : length_fault limits (kind_in header) before sum l ≡ None
  whole : count + length_amount l ≤ length o

last_is_no_piece : (limits : Limits) (header before sum : ℕ) (o : List ℕ) → LastThere limits header before sum o → NoPiece limits header before sum o
last_is_no_piece limits header before sum o t k begins fine room =
    let same = one_length header o t.l (piece_length k) t.count 1 t.begins begins in
    let partial : false ≡ true = sym t.last ∙ ap is_partial same.0 in cc

no_next : (limits : Limits) (header before sum : ℕ) (o : List ℕ) (reason : Reason) → LastThere limits header before sum o → NextFault limits header before sum o reason → ⊥
no_next limits header before sum o reason t (inl h) = h.0 t.l t.count t.begins
no_next limits header before sum o reason t (inr (l, count, begins, inl bad)) =
    let same = one_length header o l t.l count t.count begins t.begins in
    let none = sym bad ∙ ap (length_fault limits (kind_in header) before sum) same.0 ∙ t.fine in cc
no_next limits header before sum o reason t (inr (l, count, begins, inr h)) =
    let same = one_length header o l t.l count t.count begins t.begins in
    omega (arith, h.1, same.1, ap length_amount same.0, t.whole)

pub fault_no_packet : (limits : Limits) (o : List ℕ) (reason : Reason) (inner : ℕ) → PacketFault limits o reason inner → ¬ BeginsPacket limits o
fault_no_packet limits [] reason inner fault b = absurd fault
fault_no_packet limits (header ∷ o) reason inner fault b =
    let p = b.packet in
    let ks : List ℕ = exponents_of p.form in
    let n : ℕ = pieces_sum ks in
    let l : Length = last_length p.form (length p.body) in
    let first : ℕ = header_octet p.form p.kind in
    let body : List ℕ = p.body ++ b.more in
    let begun = IsAllowed-begun limits p b.allowed in
    let heads : header ≡ first = cc in
    let tails : o ≡ cut_body ks (length_octets l) p.body ++ b.more = cc in
    let last = form_last p.form p.kind (length p.body - n) b.allowed.packet.takes in
    let pieces : n ≤ length p.body = b.allowed.packet.spells.pieces in
    let room : n ≤ length body = omega (arith, pieces, length-append p.body b.more) in
    let amount : n + length_amount l ≡ length p.body = omega (arith, last.amount, pieces) in
    let rest : List ℕ = length_octets l ++ drop n body in
    let there : LastThere limits first (length ks) n rest = record {
      l = l;
      count = length (length_octets l);
      begins = length_begins first l (drop n body) b.allowed.packet.spells.rest last.under;
      last = last.last;
      fine = last_good limits (kind_in first) (length ks) n l last.last (omega (arith, amount, b.allowed.body));
      whole = omega (arith, length-append (length_octets l) (drop n body), length-drop n body, length-append p.body b.more, amount);
    } in
    let cut : o ≡ cut_body ks rest (take n body) = tails ∙ cut_body-append ks (length_octets l) p.body b.more pieces ∙ cut_body-split ks (length_octets l) body room in
    let at_first = subst (λ (h : ℕ). PacketFault limits (h ∷ o) reason inner) heads fault in
    elim at_first [
      | inl h ↦ let none = sym h.0 ∙ begun.read in cc
      | inr (good, f) ↦
          let count_f : 0 + length f.exponents ≡ length f.exponents = omega arith in
          let sum_f : 0 + pieces_sum f.exponents ≡ pieces_sum f.exponents = omega arith in
          let count_k : 0 + length ks ≡ length ks = omega arith in
          let sum_k : 0 + n ≡ n = omega arith in
          let same = one_chain limits first 0 0 0 0 f.exponents ks f.rest rest f.body (take n body) refl refl (GoodFrom-from_pieces limits first f.exponents f.good) (GoodFrom-from_pieces limits first ks begun.pieces)
          f.whole (length-take-le n body room) (sym f.octets ∙ cut) (rw (count_f, sum_f) (no_piece limits first (length f.exponents) (pieces_sum f.exponents) f.rest reason f.next))
          (rw (count_k, sum_k) (last_is_no_piece limits first (length ks) n rest there)) in
          no_next limits first (length ks) n rest reason there (subst (λ (x : List ℕ). NextFault limits first (length ks) n x reason) same.1
          (subst (λ (js : List ℕ). NextFault limits first (length js) (pieces_sum js) f.rest reason) same.0 f.next))
    ]
