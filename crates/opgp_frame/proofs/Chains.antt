-- The fault of a packet behind length headers that are good.
use Rattle.std.proofs.Common.{◌≡◌, ℕ, suc, ◌+◌, ◌-◌, ◌^◌, ◌<◌, ◌≤◌, true, false, ◌&&◌, cond, leb, eqb, ltb, List, [], ◌∷◌, ◌++◌, length, take, drop, get_or, Option, Some, None, refl, ap, ◌∙◌, arith, inl, inr, length-append}
use Rattle.std.specs.List.{AllByRecursion}
use Rattle.std.proofs.Math.Pow.{pow_mono}
use Rattle.std.proofs.lemmas.Bool.{and_left, and_right, cases_eq, lt-leb, ne_eqb, le-ltb}
use Rattle.std.proofs.lemmas.List.{drop_at, length-take-le, drop-drop, length-drop}
use Rattle.std.proofs.lemmas.List.Elements.{recursion_from_All}
use Rattle.opgp_octets.specs.declared.limits.Limits.{Limits}
use Rattle.opgp_octets.specs.Limits.{body_limit, pieces_limit}
use Rattle.opgp_octets.specs.declared.fault.Reason.{Reason}
use Rattle.opgp_octets.specs.declared.fault.Reason.TheVariants.{Truncated}
use Rattle.opgp_octets.specs.declared.packet_len.PacketLen.TheVariants as new
use Rattle.opgp_frame.specs.declared.length.Length.{Length}
use Rattle.opgp_frame.specs.declared.length.Length.TheVariants.{New}
use Rattle.opgp_frame.specs.FaultReading.{lengths_fault, packet_fault, or_fault}
use Rattle.opgp_frame.specs.Header.{is_data_kind, kind_in}
use Rattle.opgp_frame.specs.Length.{length_amount, length_at, is_partial}
use Rattle.opgp_frame.specs.Packet.{cut_body}
use Rattle.opgp_frame.specs.PacketFault.{header_fault, length_fault}
use Rattle.opgp_frame.specs.PiecesValue.{GoodPieces, pieces_sum}
use Rattle.opgp_frame.specs.Unfinished.{HasBegun}
use Rattle.opgp_frame.proofs.Cuts.{cut_body_size}
use Rattle.opgp_frame.proofs.Faults.{place_behind}
use Rattle.opgp_frame.proofs.Lengths.{length_again}

-- the length of a piece
abbrev pub piece_length : ℕ → Length
piece_length k = New (new.Partial k)

-- the answer behind a length header that may stand there
abbrev pub behind : ℕ → Limits → ℕ → ℕ → ℕ → ℕ → List ℕ → Length → ℕ → Option (Reason × ℕ)
behind n limits header before sum at o l count =
    cond (ltb (length o) (count + length_amount l)) (Some (Truncated, at))
    (cond (is_partial l) (lengths_fault n limits header (before + 1) (sum + length_amount l) (at + (count + length_amount l)) (drop (count + length_amount l) o)) None)

pub lengths_fault-read : (n : ℕ) (limits : Limits) (header before sum at : ℕ) (o : List ℕ) (l : Length) (count : ℕ) → length_at header o ≡ Some (l, count)
    → lengths_fault (suc n) limits header before sum at o ≡ or_fault (length_fault limits (kind_in header) before sum l) at (behind n limits header before sum at o l count)
unfolding lengths_fault
lengths_fault-read n limits header before sum at o l count e = rw e refl

pub lengths_fault-unread : (n : ℕ) (limits : Limits) (header before sum at : ℕ) (o : List ℕ) → length_at header o ≡ None → lengths_fault (suc n) limits header before sum at o ≡ Some (Truncated, at)
unfolding lengths_fault
lengths_fault-unread n limits header before sum at o e = rw e refl

-- ---- good pieces, one by one

abbrev pub GoodFrom : Limits → ℕ → ℕ → ℕ → List ℕ → Type 0
GoodFrom limits header before sum [] = Unit {0}
GoodFrom limits header before sum (k ∷ ks) = (k ≤ 30) × (192 ≤ header) × (length_fault limits (kind_in header) before sum (piece_length k) ≡ None) × GoodFrom limits header (before + 1) (sum + 2 ^ k) ks

large_enough : (k : ℕ) → 9 ≤ k → 512 ≤ 2 ^ k
large_enough k le = pow_mono le

-- a piece that is good
pub piece_good : (limits : Limits) (kind before sum k : ℕ) → is_data_kind kind ≡ true → (before ≡ 0 → 9 ≤ k) → before < pieces_limit limits → sum + 2 ^ k ≤ body_limit limits → length_fault limits kind before sum (piece_length k) ≡ None
piece_good limits kind before sum k «data» first room within =
    let fits : ltb (body_limit limits) (sum + 2 ^ k) ≡ false = le-ltb _ _ within in
    let some : leb (pieces_limit limits) before ≡ false = lt-leb _ _ room in
    elim (cases_eq before 0) [
      | inl z ↦
          let large : ltb (2 ^ k) 512 ≡ false = le-ltb _ _ (large_enough k (first z)) in
          let fine : (eqb before 0 && ltb (2 ^ k) 512) ≡ false = and_right _ _ large in
          rw («data», fine, some, fits) refl
      | inr ne ↦
          let fine : (eqb before 0 && ltb (2 ^ k) 512) ≡ false = and_left _ _ (ne_eqb _ _ ne) in
          rw («data», fine, some, fits) refl
    ]

good_from : (limits : Limits) (header before sum : ℕ) (ks : List ℕ) → AllByRecursion (λ k. k ≤ 30) ks → 192 ≤ header → is_data_kind (kind_in header) ≡ true → (before ≡ 0 → 0 < length ks → 9 ≤ get_or ks 0 0)
    → before + length ks ≤ pieces_limit limits → sum + pieces_sum ks ≤ body_limit limits → GoodFrom limits header before sum ks
good_from limits header before sum [] each current «data» first count within = tt
good_from limits header before sum (k ∷ ks) each current «data» first count within = (
  each.0,
  current,
  piece_good limits (kind_in header) before sum k «data» (λ z. first z (omega arith)) (omega arith) (omega arith),
  good_from limits header (before + 1) (sum + 2 ^ k) ks each.1 current «data» (λ z some. absurd (omega (arith, z))) (omega arith) (omega arith),
)

pub GoodFrom-from_pieces : (limits : Limits) (header : ℕ) (ks : List ℕ) → GoodPieces limits header ks → GoodFrom limits header 0 0 ks
GoodFrom-from_pieces limits header [] good = tt
GoodFrom-from_pieces limits header (k ∷ ks) good =
    let some : 0 < length (k ∷ ks) = omega arith in
    good_from limits header 0 0 (k ∷ ks) (recursion_from_All (λ k. k ≤ 30) (k ∷ ks) good.each) (good.current some) (good.kind some) (λ _. good.first) (omega (arith, good.count)) (omega (arith, good.sum))

-- ---- behind good pieces

abbrev pub fuel_for : List ℕ → ℕ → ℕ
fuel_for [] n = n
fuel_for (k ∷ ks) n = suc (fuel_for ks n)

pub fuel_for-is : (ks : List ℕ) (n : ℕ) → fuel_for ks n ≡ length ks + n
fuel_for-is [] n = omega arith
fuel_for-is (k ∷ ks) n = omega (arith, fuel_for-is ks n)

-- a piece and what follows
piece_steps : (n : ℕ) (limits : Limits) (header before sum at k : ℕ) (piece more : List ℕ) → k ≤ 30 → 192 ≤ header → length_fault limits (kind_in header) before sum (piece_length k) ≡ None → length piece ≡ 2 ^ k
    → lengths_fault (suc n) limits header before sum at ((224 + k) ∷ (piece ++ more)) ≡ lengths_fault n limits header (before + 1) (sum + 2 ^ k) (at + (1 + 2 ^ k)) more
piece_steps n limits header before sum at k piece more small current good size =
    let o : List ℕ = (224 + k) ∷ (piece ++ more) in
    let read : length_at header o ≡ Some (piece_length k, 1) = length_again header (piece_length k) (piece ++ more) small current in
    let all : ltb (length o) (1 + 2 ^ k) ≡ false = le-ltb _ _ (omega (arith, length-append piece more, size)) in
    let left : drop (1 + 2 ^ k) o ≡ more = drop_at ((224 + k) ∷ piece) more (1 + 2 ^ k) (omega (arith, size)) in
    lengths_fault-read n limits header before sum at o (piece_length k) 1 read ∙ rw (good, all, left) refl

-- what is behind good pieces is at fault as it would be there
pub lengths_fault-pieces : (limits : Limits) (header before sum at : ℕ) (ks last body : List ℕ) (n : ℕ) → GoodFrom limits header before sum ks → pieces_sum ks ≤ length body
    → lengths_fault (fuel_for ks n) limits header before sum at (cut_body ks last body) ≡ lengths_fault n limits header (before + length ks) (sum + pieces_sum ks) (at + (length ks + pieces_sum ks)) (last ++ drop (pieces_sum ks) body)
lengths_fault-pieces limits header before sum at [] last body n good le =
    let same : (b s a : ℕ) → b ≡ before → s ≡ sum → a ≡ at → lengths_fault n limits header before sum at (last ++ body) ≡ lengths_fault n limits header b s a (last ++ body) = λ b s a eb es ea. rw (eb, es, ea) refl in
    same (before + 0) (sum + 0) (at + (0 + 0)) (omega arith) (omega arith) (omega arith)
lengths_fault-pieces limits header before sum at (k ∷ ks) last body n good le =
    let size : length (take (2 ^ k) body) ≡ 2 ^ k = length-take-le (2 ^ k) body (omega (arith, le)) in
    let rest : List ℕ = drop (2 ^ k) body in
    let step = piece_steps (fuel_for ks n) limits header before sum at k (take (2 ^ k) body) (cut_body ks last rest) good.0 good.1 good.2 size in
    let again = lengths_fault-pieces limits header (before + 1) (sum + 2 ^ k) (at + (1 + 2 ^ k)) ks last rest n good.3 (omega (arith, length-drop (2 ^ k) body)) in
    let left : drop (pieces_sum ks) rest ≡ drop (2 ^ k + pieces_sum ks) body = drop-drop (pieces_sum ks) (2 ^ k) body in
    let count : (before + 1) + length ks ≡ before + length (k ∷ ks) = omega arith in
    let total : (sum + 2 ^ k) + pieces_sum ks ≡ sum + (2 ^ k + pieces_sum ks) = omega arith in
    let place : (at + (1 + 2 ^ k)) + (length ks + pieces_sum ks) ≡ at + (length (k ∷ ks) + (2 ^ k + pieces_sum ks)) = omega arith in
    step ∙ again ∙ rw (count, total, place, left) refl

-- ---- a packet

-- the first octet shows it
pub packet_fault-header : (limits : Limits) (header : ℕ) (more : List ℕ) (reason : Reason) → header_fault header ≡ Some reason → packet_fault limits (header ∷ more) ≡ Some (reason, 0)
unfolding packet_fault
packet_fault-header limits header more reason e = rw e refl

-- a packet that has begun is at fault as its next length header is
pub packet_fault-begun : (limits : Limits) (header : ℕ) (ks last body : List ℕ) → HasBegun limits header ks → pieces_sum ks ≤ length body
    → (n : ℕ) × (packet_fault limits (header ∷ cut_body ks last body) ≡ lengths_fault (suc n) limits header (length ks) (pieces_sum ks) (place_behind ks) (last ++ drop (pieces_sum ks) body))
unfolding packet_fault
packet_fault-begun limits header ks last body begun le =
    let o : List ℕ = cut_body ks last body in
    let n : ℕ = length o - length ks in
    let fuel : suc (length o) ≡ fuel_for ks (suc n) = omega (arith, fuel_for-is ks (suc n), cut_body_size ks last body) in
    let run = lengths_fault-pieces limits header 0 0 1 ks last body (suc n) (GoodFrom-from_pieces limits header ks begun.pieces) le in
    let count : 0 + length ks ≡ length ks = omega arith in
    let sum : 0 + pieces_sum ks ≡ pieces_sum ks = omega arith in
    (n, rw begun.read (ap (λ (f : ℕ). lengths_fault f limits header 0 0 1 o) fuel ∙ run ∙ rw (count, sum) refl))
