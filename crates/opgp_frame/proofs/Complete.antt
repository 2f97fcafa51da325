-- Octets that show no fault begin with an allowed packet.
use Rattle.std.proofs.Common.{◌≡◌, ℕ, zero, suc, ◌+◌, ◌^◌, ◌<◌, ◌≤◌, true, false, cond, ltb, List, [], ◌∷◌, ◌++◌, length, take, drop, Option, Some, None, refl, sym, ap, subst, ◌∙◌, arith, inl, inr, append_assoc, length-append}
use Rattle.std.specs.List.{AllByRecursion}
use Rattle.std.proofs.lemmas.Bool.{cases_lt, ltb-false}
use Rattle.std.proofs.lemmas.List.{take_at, drop_at, take-append-drop, length-take-le, length-drop, drop-drop}
use Rattle.std.proofs.lemmas.List.Elements.{All-from_recursion}
use Rattle.std.proofs.lemmas.Nat.{pow_below}
use Rattle.opgp_octets.specs.declared.limits.Limits.{Limits}
use Rattle.opgp_octets.specs.Limits.{body_limit, pieces_limit}
use Rattle.opgp_octets.specs.Octets.{IsOctets}
use Rattle.opgp_octets.specs.declared.fault.Reason.{Reason}
use Rattle.opgp_octets.specs.declared.fault.Reason.TheVariants.{Truncated}
use Rattle.opgp_octets.specs.declared.packet_len.PacketLen.TheVariants as new
use Rattle.opgp_octets.proofs.Bytes.{chosen, IsOctets-drop, IsOctets-take}
use Rattle.opgp_frame.specs.declared.length.Length.{Length}
use Rattle.opgp_frame.specs.declared.length.Length.TheVariants.{OldOne, OldTwo, OldFour, New}
use Rattle.opgp_frame.specs.FaultReading.{lengths_fault, packet_fault, or_fault}
use Rattle.opgp_frame.specs.Frames.{BeginsPacket}
use Rattle.opgp_frame.specs.Header.{kind_in}
use Rattle.opgp_frame.specs.Length.{LengthFits, IsLengthUnder, LengthBegins, length_octets, length_amount, length_at, is_partial}
use Rattle.opgp_frame.specs.Packet.{cut_body}
use Rattle.opgp_frame.specs.PacketFault.{length_fault, header_fault}
use Rattle.opgp_frame.specs.PiecesValue.{pieces_sum, GoodPieces}
use Rattle.opgp_frame.specs.Unfinished.{HasBegun, IsInPiece}
use Rattle.opgp_frame.proofs.Chains.{GoodFrom, piece_length, behind, lengths_fault-read, lengths_fault-unread}
use Rattle.opgp_frame.proofs.Lengths.{length_takes}
use Rattle.opgp_frame.proofs.Made.{form_found, packet_whole}
use Rattle.opgp_frame.proofs.Packets.{no_pieces}
use Rattle.opgp_frame.proofs.Steps.{within_limit, partial_good, none_first}

-- what octets without a fault hold behind so many pieces of so many octets
pub record HasBody (limits : Limits) (header before sum : ℕ) (o : List ℕ) : Type 0 where
  pub exponents : List ℕ
  pub last : Length
  pub body : List ℕ
  pub more : List ℕ
  pub parts : o ≡ cut_body exponents (length_octets last) body ++ more
  pub good : GoodFrom limits header before sum exponents
  pub fits : LengthFits last
  pub under : IsLengthUnder header last
  pub ends : is_partial last ≡ false
  pub fine : length_fault limits (kind_in header) (before + length exponents) (sum + pieces_sum exponents) last ≡ None
  pub whole : pieces_sum exponents + length_amount last ≡ length body
  pub octets : IsOctets body

-- a length that isn't partial, and its octets
ends_here : (limits : Limits) (header before sum : ℕ) (o : List ℕ) (l : Length) (count : ℕ) → IsOctets o → LengthBegins header o l count → length_fault limits (kind_in header) before sum l ≡ None → is_partial l ≡ false → count + length_amount l ≤ length o → HasBody limits header before sum o
ends_here limits header before sum o l count octets begins fine last room =
    let left : List ℕ = drop count o in
    let n : ℕ = length_amount l in
    let size : length (take n left) ≡ n = length-take-le n left (omega (arith, room, length-drop count o)) in
    let zero_before : before + 0 ≡ before = omega arith in
    let zero_sum : sum + 0 ≡ sum = omega arith in
    record {
      exponents = [];
      last = l;
      body = take n left;
      more = drop n left;
      parts = sym (take-append-drop count o) ∙ ap (λ (x : List ℕ). x ++ left) begins.spelled ∙ ap (λ (x : List ℕ). length_octets l ++ x) (sym (take-append-drop n left)) ∙ sym (append_assoc (length_octets l) (take n left) (drop n left));
      good = tt;
      fits = begins.fits;
      under = begins.under;
      ends = last;
      fine = rw (zero_before, zero_sum) fine;
      whole = omega (arith, size);
      octets = IsOctets-take n left (IsOctets-drop count o octets);
    }

octets_append : (a b : List ℕ) → IsOctets a → IsOctets b → IsOctets (a ++ b)
octets_append [] b fa fb i = fb i
octets_append (x ∷ a) b fa fb zero = fa 0
octets_append (x ∷ a) b fa fb (suc i) = octets_append a b (λ j. fa (suc j)) fb i

-- a piece before what follows
piece_before : (limits : Limits) (header before sum k : ℕ) (o : List ℕ) (count : ℕ) → IsOctets o → LengthBegins header o (New (new.Partial k)) count → length_fault limits (kind_in header) before sum (piece_length k) ≡ None → count + 2 ^ k ≤ length o
    → HasBody limits header (before + 1) (sum + 2 ^ k) (drop (count + 2 ^ k) o) → HasBody limits header before sum o
piece_before limits header before sum k o count octets begins fine room b =
    let left : List ℕ = drop count o in
    let piece : List ℕ = take (2 ^ k) left in
    let size : length piece ≡ 2 ^ k = length-take-le (2 ^ k) left (omega (arith, room, length-drop count o)) in
    let rest : drop (2 ^ k) left ≡ cut_body b.exponents (length_octets b.last) b.body ++ b.more = drop-drop (2 ^ k) count o ∙ b.parts in
    let front : take (2 ^ k) (piece ++ b.body) ≡ piece = take_at piece b.body (2 ^ k) size in
    let back : drop (2 ^ k) (piece ++ b.body) ≡ b.body = drop_at piece b.body (2 ^ k) size in
    let count_is : (before + 1) + length b.exponents ≡ before + length (k ∷ b.exponents) = omega arith in
    let sum_is : (sum + 2 ^ k) + pieces_sum b.exponents ≡ sum + pieces_sum (k ∷ b.exponents) = omega arith in
    record {
      exponents = k ∷ b.exponents;
      last = b.last;
      body = piece ++ b.body;
      more = b.more;
      parts = sym (take-append-drop count o) ∙ ap (λ (x : List ℕ). x ++ left) begins.spelled ∙ ap (λ (x : List ℕ). (224 + k) ∷ x) (sym (take-append-drop (2 ^ k) left) ∙ ap (λ (x : List ℕ). piece ++ x) rest ∙ sym (append_assoc piece (cut_body b.exponents (length_octets b.last) b.body) b.more) ∙ rw (front, back) refl);
      good = (begins.fits, begins.under, fine, b.good);
      fits = b.fits;
      under = b.under;
      ends = b.ends;
      fine = rw (← count_is, ← sum_is) b.fine;
      whole = omega (arith, b.whole, size, length-append piece b.body);
      octets = octets_append piece b.body (IsOctets-take (2 ^ k) left (IsOctets-drop count o octets)) b.octets;
    }

-- a length that is partial
pub partial_is : (l : Length) → is_partial l ≡ true → (k : ℕ) × (l ≡ New (new.Partial k))
partial_is (New (new.Partial k)) e = (k, refl)
partial_is (New (new.One n)) e = absurd cc
partial_is (New (new.Two n)) e = absurd cc
partial_is (New (new.Five n)) e = absurd cc
partial_is (OldOne n) e = absurd cc
partial_is (OldTwo n) e = absurd cc
partial_is (OldFour n) e = absurd cc

fault_none : (why : Option Reason) (at : ℕ) (next : Option (Reason × ℕ)) → or_fault why at next ≡ None → (why ≡ None) × (next ≡ None)
fault_none None at next e = (refl, e)
fault_none (Some reason) at next e = absurd cc

pub lengths_body : (n : ℕ) (limits : Limits) (header before sum at : ℕ) (o : List ℕ) → IsOctets o → length o < n → lengths_fault n limits header before sum at o ≡ None → HasBody limits header before sum o
lengths_body zero limits header before sum at o octets enough e = absurd (omega arith)
lengths_body (suc n) limits header before sum at o octets enough e =
    elim (length_at header o) as (λ (r : Option (Length × ℕ)). length_at header o ≡ r → HasBody limits header before sum o) [
      | None ↦ λ k. absurd (let q = sym (lengths_fault-unread n limits header before sum at o k) ∙ e in cc)
      | Some x ↦ λ k.
          let l : Length = x.0 in
          let count : ℕ = x.1 in
          let begins = length_takes header o x octets k in
          let parts = fault_none (length_fault limits (kind_in header) before sum l) at (behind n limits header before sum at o l count) (sym (lengths_fault-read n limits header before sum at o l count k) ∙ e) in
          elim (chosen (ltb (length o) (count + length_amount l)) (Some (Truncated, at)) (cond (is_partial l) (lengths_fault n limits header (before + 1) (sum + length_amount l) (at + (count + length_amount l)) (drop (count + length_amount l) o)) None) None parts.1) [
            | inl p ↦ absurd (let q = p.1 in cc)
            | inr p ↦
                let room : count + length_amount l ≤ length o = ltb-false (length o) (count + length_amount l) p.0 in
                elim (chosen (is_partial l) (lengths_fault n limits header (before + 1) (sum + length_amount l) (at + (count + length_amount l)) (drop (count + length_amount l) o)) None None p.1) [
                  | inr q ↦ ends_here limits header before sum o l count octets begins parts.0 q.0 room
                  | inl q ↦
                      let is = partial_is l q.0 in
                      let rest : List ℕ = drop (count + length_amount l) o in
                      let some : 0 < count = omega (arith, begins.size, ap (λ (m : Length). length (length_octets m)) is.1) in
                      let again = lengths_body n limits header (before + 1) (sum + length_amount l) (at + (count + length_amount l)) rest (IsOctets-drop (count + length_amount l) o octets) (omega (arith, enough, room, some, length-drop (count + length_amount l) o)) q.1 in
                      piece_before limits header before sum is.0 o count octets (subst (λ (m : Length). LengthBegins header o m count) is.1 begins)
                      (subst (λ (m : Length). length_fault limits (kind_in header) before sum m ≡ None) is.1 parts.0) (subst (λ (m : Length). count + length_amount m ≤ length o) is.1 room)
                      (subst (λ (m : Length). HasBody limits header (before + 1) (sum + length_amount m) (drop (count + length_amount m) o)) is.1 again)
                ]
          ]
    ] refl

-- ---- from good pieces one by one

good_small : (limits : Limits) (header before sum : ℕ) (ks : List ℕ) → GoodFrom limits header before sum ks → AllByRecursion (λ k. k ≤ 30) ks
good_small limits header before sum [] good = tt
good_small limits header before sum (k ∷ ks) good = (good.0, good_small limits header (before + 1) (sum + 2 ^ k) ks good.3)

good_count : (limits : Limits) (header before sum : ℕ) (ks : List ℕ) → GoodFrom limits header before sum ks → before ≤ pieces_limit limits → before + length ks ≤ pieces_limit limits
good_count limits header before sum [] good le = omega (arith, le)
good_count limits header before sum (k ∷ ks) good le =
    let room = (partial_good limits (kind_in header) before (2 ^ k) (none_first _ _ good.2)).room in
    omega (arith, good_count limits header (before + 1) (sum + 2 ^ k) ks good.3 (omega (arith, room)))

good_sum : (limits : Limits) (header before sum : ℕ) (ks : List ℕ) → GoodFrom limits header before sum ks → sum ≤ body_limit limits → sum + pieces_sum ks ≤ body_limit limits
good_sum limits header before sum [] good le = omega (arith, le)
good_sum limits header before sum (k ∷ ks) good le =
    let room = within_limit limits (kind_in header) before sum (piece_length k) good.2 in
    omega (arith, good_sum limits header (before + 1) (sum + 2 ^ k) ks good.3 room)

pub GoodFrom-pieces : (limits : Limits) (header : ℕ) (ks : List ℕ) → GoodFrom limits header 0 0 ks → GoodPieces limits header ks
GoodFrom-pieces limits header [] good = no_pieces limits header
GoodFrom-pieces limits header (k ∷ ks) good =
    let part = partial_good limits (kind_in header) 0 (2 ^ k) (none_first _ _ good.2) in
    record {
      each = All-from_recursion (λ j. j ≤ 30) (k ∷ ks) (good_small limits header 0 0 (k ∷ ks) good);
      first = λ _. elim (cases_lt k 9) [ inl lt ↦ absurd (omega (arith, part.first refl, pow_below k 9 lt)) | inr le ↦ le ];
      current = λ _. good.1;
      kind = λ _. part.kind';
      count = omega (arith, good_count limits header 0 0 (k ∷ ks) good (omega arith));
      sum = omega (arith, good_sum limits header 0 0 (k ∷ ks) good (omega arith));
    }

-- octets that show no fault begin with an allowed packet
pub begins_packet : (limits : Limits) (header : ℕ) (o : List ℕ) → IsOctets (header ∷ o) → packet_fault limits (header ∷ o) ≡ None → BeginsPacket limits (header ∷ o)
unfolding packet_fault
begins_packet limits header o octets e =
    let parts = fault_none (header_fault header) 0 (lengths_fault (suc (length o)) limits header 0 0 1 o) e in
    let b = lengths_body (suc (length o)) limits header 0 0 1 o (λ i. octets (suc i)) (omega arith) parts.1 in
    let begun : HasBegun limits header b.exponents = record { octet = octets 0; read = parts.0; pieces = GoodFrom-pieces limits header b.exponents b.good } in
    let count : 0 + length b.exponents ≡ length b.exponents = omega arith in
    let total : 0 + pieces_sum b.exponents ≡ pieces_sum b.exponents = omega arith in
    let spelled_so : List ℕ = header ∷ cut_body b.exponents (length_octets b.last) b.body in
    let piece : IsInPiece limits header b.last (pieces_sum b.exponents) (length b.body) b.exponents b.body spelled_so = record {
      begun = begun;
      octets = refl;
      fits = b.fits;
      under = b.under;
      good = rw (count, total) at b.fine;
      begins = refl;
      ends = sym b.whole;
      least = omega (arith, b.whole);
      most = omega arith;
    } in
    let found = form_found limits header b.exponents b.last begun b.under b.ends in
    let whole = packet_whole limits header b.last (pieces_sum b.exponents) (length b.body) b.exponents b.body spelled_so found.0 piece refl b.octets found.2 in
    record { packet = record { form = found.0; kind = kind_in header; body = b.body }; more = b.more; begins = ap (λ (x : List ℕ). header ∷ x) b.parts ∙ ap (λ (x : List ℕ). x ++ b.more) whole.spelled; allowed = whole.allowed }
