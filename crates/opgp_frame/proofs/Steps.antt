-- What each step of a reader does to the octets that its state stands for.
use Rattle.std.proofs.Common.{◌≡◌, ℕ, ◌+◌, ◌%◌, ◌^◌, ◌<◌, ◌≤◌, true, false, not, ◌&&◌, cond, leb, eqb, ltb, List, [], ◌∷◌, ◌++◌, length, get_or, Option, Some, None, refl, sym, ap, subst, ◌∙◌, arith, inl, inr, length-append}
use Rattle.std.proofs.lemmas.Bool.{cases_lt, cases_eq, cases_Bool, leb-false, ltb-false, lt-ltb, and_from, eq-eqb, not-false}
use Rattle.std.proofs.lemmas.List.{nil_from_length, get_or_append_left, length_push}
use Rattle.std.proofs.lemmas.List.Elements.{All-push}
use Rattle.std.proofs.lemmas.Nat.{pow_below, pow_pos}
use Rattle.opgp_octets.specs.declared.limits.Limits.{Limits}
use Rattle.opgp_octets.specs.Limits.{body_limit, pieces_limit}
use Rattle.opgp_octets.specs.PacketLen.{packet_len_at}
use Rattle.opgp_octets.specs.declared.fault.Reason.{Reason}
use Rattle.opgp_octets.specs.declared.fault.Reason.TheVariants.{PartialKind, FirstPartial, TooManyPieces, BodyTooLong}
use Rattle.opgp_octets.specs.declared.packet_len.PacketLen.TheVariants as new
use Rattle.opgp_octets.proofs.Bytes.{chosen}
use Rattle.opgp_frame.specs.declared.deframe.State.TheVariants.{Between, InLength, Faulty}
use Rattle.opgp_frame.specs.declared.length.Length.{Length}
use Rattle.opgp_frame.specs.declared.length.Length.TheVariants.{OldOne, OldTwo, OldFour, New}
use Rattle.opgp_frame.specs.Fed.{IsRest}
use Rattle.opgp_frame.specs.Header.{is_data_kind, kind_in}
use Rattle.opgp_frame.specs.Length.{LengthBegins, length_octets, length_amount, length_at, is_partial}
use Rattle.opgp_frame.specs.Packet.{cut_body}
use Rattle.opgp_frame.specs.PacketFault.{PacketFault, or_else, partial_fault, length_fault, header_fault}
use Rattle.opgp_frame.specs.PiecesValue.{pieces_sum, GoodPieces}
use Rattle.opgp_frame.specs.Unfinished.{EndsLength, IsAtLength, IsInPiece}
use Rattle.opgp_frame.proofs.Cuts.{cut_body-append, cut_body-push, cut_body-last, pieces_sum-push}
use Rattle.opgp_frame.proofs.Faults.{bad_length-fault, place_behind}
use Rattle.opgp_frame.proofs.Lengths.{length_completes}
use Rattle.opgp_frame.proofs.Packets.{no_pieces}

-- ---- the octet that begins a packet

length_at-nil : (header : ℕ) → length_at header [] ≡ None
unfolding length_at packet_len_at
length_at-nil header =
    elim (cases_Bool (leb 192 header)) [
      | inl y ↦ rw y refl
      | inr n ↦ elim (cases_Bool (eqb (header % 4) 0)) [
        | inl y ↦ rw (n, y) refl
        | inr m ↦ elim (cases_Bool (eqb (header % 4) 1)) [
          | inl y ↦ rw (n, m, y) refl
          | inr k ↦ elim (cases_Bool (eqb (header % 4) 2)) [ inl y ↦ rw (n, m, k, y) refl | inr j ↦ rw (n, m, k, j) refl ]
        ]
      ]
    ]

pub begins_fault : (limits : Limits) (octet : ℕ) (ks body rest : List ℕ) (reason : Reason) → IsRest limits Between ks body rest → header_fault octet ≡ Some reason → IsRest limits (Faulty reason 0) ks body (rest ++ octet ∷ [])
begins_fault limits octet ks body rest reason r e more =
    subst (λ (o : List ℕ). PacketFault limits ((o ++ octet ∷ []) ++ more) reason 0) (sym r.0) (inl (e, refl))

pub begins_packet : (limits : Limits) (octet : ℕ) (seen ks body rest : List ℕ) → IsRest limits Between ks body rest → octet < 256 → header_fault octet ≡ None → IsRest limits (InLength octet seen 0) ks body (rest ++ octet ∷ [])
begins_packet limits octet seen ks body rest r below e =
    record {
      begun = record { octet = below; read = e; pieces = subst (GoodPieces limits octet) (sym r.1) (no_pieces limits octet) };
      octets = rw (r.0, r.1, r.2) refl;
      whole = rw (r.1, r.2) refl;
      unread = length_at-nil octet;
    }

-- ---- an octet of a length header

pub more_of_length : (limits : Limits) (header octet : ℕ) (seen ks body rest : List ℕ) → IsAtLength limits header seen ks body rest → length_at header (seen ++ octet ∷ []) ≡ None → IsAtLength limits header (seen ++ octet ∷ []) ks body (rest ++ octet ∷ [])
more_of_length limits header octet seen ks body rest at e =
    record {
      begun = at.begun;
      octets = ap (λ (o : List ℕ). o ++ octet ∷ []) at.octets ∙ ap (λ (o : List ℕ). header ∷ o) (cut_body-last ks seen body (octet ∷ []) at.whole);
      whole = at.whole;
      unread = e;
    }

-- ---- a whole length header

-- its last octet makes it whole
pub ends_with_octet : (limits : Limits) (header octet : ℕ) (seen ks body rest : List ℕ) (l : Length) (count : ℕ) → IsAtLength limits header seen ks body rest → LengthBegins header (seen ++ octet ∷ []) l count → EndsLength header seen (octet ∷ []) l
ends_with_octet limits header octet seen ks body rest l count at begins =
    record { fits = begins.fits; under = begins.under; whole = length_completes header seen octet (l, count) begins at.unread }

-- the octets up to a whole length header
whole_length : (limits : Limits) (header : ℕ) (seen octets ks body rest : List ℕ) (l : Length) → IsAtLength limits header seen ks body rest → EndsLength header seen octets l → rest ++ octets ≡ header ∷ cut_body ks (length_octets l) body
whole_length limits header seen octets ks body rest l at ends =
    ap (λ (o : List ℕ). o ++ octets) at.octets ∙ ap (λ (o : List ℕ). header ∷ o) (cut_body-last ks seen body octets at.whole)
    ∙ ap (λ (o : List ℕ). header ∷ cut_body ks o body) ends.whole

-- the length may not stand there
pub length_faulty : (limits : Limits) (header : ℕ) (seen octets ks body rest : List ℕ) (l : Length) (reason : Reason) → IsAtLength limits header seen ks body rest → EndsLength header seen octets l
    → length_fault limits (kind_in header) (length ks) (length body) l ≡ Some reason → (more : List ℕ) → PacketFault limits ((rest ++ octets) ++ more) reason (1 + (length ks + length body))
length_faulty limits header seen octets ks body rest l reason at ends e more =
    let whole = whole_length limits header seen octets ks body rest l at ends in
    let place : place_behind ks ≡ 1 + (length ks + length body) = omega (arith, at.whole) in
    let same : length_fault limits (kind_in header) (length ks) (pieces_sum ks) l ≡ Some reason = rw (← at.whole) e in
    subst (λ (o : List ℕ). PacketFault limits (o ++ more) reason (1 + (length ks + length body))) (sym whole)
    (subst (λ (n : ℕ). PacketFault limits ((header ∷ cut_body ks (length_octets l) body) ++ more) reason n) place
    (bad_length-fault limits header l ks body more reason at.begun at.whole ends.fits ends.under same))

-- the length may stand there
pub length_good : (limits : Limits) (header : ℕ) (seen octets ks body rest : List ℕ) (l : Length) → IsAtLength limits header seen ks body rest → EndsLength header seen octets l
    → length_fault limits (kind_in header) (length ks) (length body) l ≡ None → IsInPiece limits header l (length body) (length body + length_amount l) ks body (rest ++ octets)
length_good limits header seen octets ks body rest l at ends e = record {
  begun = at.begun;
  octets = whole_length limits header seen octets ks body rest l at ends;
  fits = ends.fits;
  under = ends.under;
  good = rw (← at.whole) e;
  begins = at.whole;
  ends = refl;
  least = omega arith;
  most = omega arith;
}

-- ---- octets of a piece

pub more_of_piece : (limits : Limits) (header : ℕ) (l : Length) (from until : ℕ) (ks body piece rest : List ℕ) → IsInPiece limits header l from until ks body rest → length body + length piece ≤ until → IsInPiece limits header l from until ks (body ++ piece) (rest ++ piece)
more_of_piece limits header l from until ks body piece rest at room =
    record {
      begun = at.begun;
      octets = ap (λ (o : List ℕ). o ++ piece) at.octets ∙ ap (λ (o : List ℕ). header ∷ o) (cut_body-append ks (length_octets l) body piece (omega (arith, at.begins, at.least)));
      fits = at.fits;
      under = at.under;
      good = at.good;
      begins = at.begins;
      ends = at.ends;
      least = omega (arith, at.least, length-append body piece);
      most = omega (arith, room, length-append body piece);
    }

-- ---- what a good length says

pub within_limit : (limits : Limits) (kind before sum : ℕ) (l : Length) → length_fault limits kind before sum l ≡ None → sum + length_amount l ≤ body_limit limits
within_limit limits kind before sum l e =
    let rest : (first : Option Reason) → or_else first (cond (ltb (body_limit limits) (sum + length_amount l)) (Some BodyTooLong) None) ≡ None → cond (ltb (body_limit limits) (sum + length_amount l)) (Some BodyTooLong) None ≡ None =
    λ first. elim first as (λ (f : Option Reason). or_else f (cond (ltb (body_limit limits) (sum + length_amount l)) (Some BodyTooLong) None) ≡ None → cond (ltb (body_limit limits) (sum + length_amount l)) (Some BodyTooLong) None ≡ None) [ None ↦ λ k. k | Some r ↦ λ k. absurd cc ] in
    elim (chosen (ltb (body_limit limits) (sum + length_amount l)) (Some BodyTooLong) None None (rest (cond (is_partial l) (partial_fault limits kind before (length_amount l)) None) e)) [
      | inl p ↦ absurd (let k = p.1 in cc)
      | inr p ↦ ltb-false (body_limit limits) (sum + length_amount l) p.0
    ]

pub record GoodPartial (limits : Limits) (kind before amount : ℕ) : Type 0 where
  pub kind' : is_data_kind kind ≡ true
  pub first : before ≡ 0 → 512 ≤ amount
  pub room : before < pieces_limit limits

pub partial_good : (limits : Limits) (kind before amount : ℕ) → partial_fault limits kind before amount ≡ None → GoodPartial limits kind before amount
partial_good limits kind before amount e =
    elim (chosen (not (is_data_kind kind)) (Some PartialKind) (cond (eqb before 0 && ltb amount 512) (Some FirstPartial) (cond (leb (pieces_limit limits) before) (Some TooManyPieces) None)) None e) [
      | inl p ↦ absurd (let k = p.1 in cc)
      | inr p ↦ elim (chosen (eqb before 0 && ltb amount 512) (Some FirstPartial) (cond (leb (pieces_limit limits) before) (Some TooManyPieces) None) None p.1) [
        | inl q ↦ absurd (let k = q.1 in cc)
        | inr q ↦ elim (chosen (leb (pieces_limit limits) before) (Some TooManyPieces) None None q.1) [
          | inl r ↦ absurd (let k = r.1 in cc)
          | inr r ↦ record {
            kind' = not-false (is_data_kind kind) p.0;
            first = λ z. elim (cases_lt amount 512) [
              | inl lt ↦ absurd (let both = and_from (eqb before 0) (ltb amount 512) (eq-eqb before 0 z) (lt-ltb amount 512 lt) in let k = sym both ∙ q.0 in cc)
              | inr le ↦ le
            ];
            room = leb-false (pieces_limit limits) before r.0;
          }
        ]
      ]
    ]

pub none_first : (first rest : Option Reason) → or_else first rest ≡ None → first ≡ None
none_first None rest e = refl
none_first (Some reason) rest e = absurd cc

-- one more piece that is good
pieces_push : (limits : Limits) (header k : ℕ) (ks : List ℕ) → GoodPieces limits header ks → k ≤ 30 → 192 ≤ header → length_fault limits (kind_in header) (length ks) (pieces_sum ks) (New (new.Partial k)) ≡ None → GoodPieces limits header (ks ++ k ∷ [])
pieces_push limits header k ks good small current fine =
    let part = partial_good limits (kind_in header) (length ks) (2 ^ k) (none_first _ _ fine) in
    let sum = within_limit limits (kind_in header) (length ks) (pieces_sum ks) (New (new.Partial k)) fine in
    let large : length ks ≡ 0 → 9 ≤ k = λ z. elim (cases_lt k 9) [ inl lt ↦ absurd (omega (arith, part.first z, pow_below k 9 lt)) | inr le ↦ le ] in
    record {
      each = All-push (λ j. j ≤ 30) ks k good.each small;
      first = λ _. elim (cases_eq (length ks) 0) [
        | inl z ↦ subst (λ (js : List ℕ). 9 ≤ get_or (js ++ k ∷ []) 0 0) (sym (nil_from_length ks z)) (large z)
        | inr some ↦ let positive : 0 < length ks = omega (arith, some) in rw (get_or_append_left ks (k ∷ []) 0 0 positive) (good.first positive)
      ];
      current = λ _. current;
      kind = λ _. part.kind';
      count = omega (arith, part.room, length_push ks k);
      sum = omega (arith, sum, pieces_sum-push ks k);
    }

-- a piece is whole, and another length header follows
pub ends_piece : (limits : Limits) (header k from until : ℕ) (seen ks body rest : List ℕ) → IsInPiece limits header (New (new.Partial k)) from until ks body rest → length body ≡ until → IsRest limits (InLength header seen 0) (ks ++ k ∷ []) body rest
ends_piece limits header k from until seen ks body rest at full =
    record {
      begun = record { octet = at.begun.octet; read = at.begun.read; pieces = pieces_push limits header k ks at.begun.pieces at.fits at.under at.good };
      octets = at.octets ∙ ap (λ (o : List ℕ). header ∷ o) (cut_body-push ks body k);
      whole = omega (arith, full, at.ends, at.begins, pieces_sum-push ks k);
      unread = length_at-nil header;
    }

-- only a last length announces nothing
pub partial_some : (l : Length) → length_amount l ≡ 0 → is_partial l ≡ false
partial_some (OldOne n) e = refl
partial_some (OldTwo n) e = refl
partial_some (OldFour n) e = refl
partial_some (New (new.One n)) e = refl
partial_some (New (new.Two n)) e = refl
partial_some (New (new.Five n)) e = refl
partial_some (New (new.Partial k)) e = absurd (omega (arith, e, pow_pos k))

-- a partial length that is good leaves room for its piece's form
pub room_for_piece : (limits : Limits) (kind before sum : ℕ) (l : Length) → length_fault limits kind before sum l ≡ None → is_partial l ≡ true → before + 1 ≤ pieces_limit limits
room_for_piece limits kind before sum (OldOne n) e some = absurd cc
room_for_piece limits kind before sum (OldTwo n) e some = absurd cc
room_for_piece limits kind before sum (OldFour n) e some = absurd cc
room_for_piece limits kind before sum (New (new.One n)) e some = absurd cc
room_for_piece limits kind before sum (New (new.Two n)) e some = absurd cc
room_for_piece limits kind before sum (New (new.Five n)) e some = absurd cc
room_for_piece limits kind before sum (New (new.Partial k)) e some = omega (arith, (partial_good limits kind before (2 ^ k) (none_first _ _ e)).room)

-- the same length behind the same pieces
pub length_fault-same : (limits others : Limits) (kind kind' before before' sum sum' : ℕ) (l : Length) → limits ≡ others → kind ≡ kind' → before ≡ before' → sum ≡ sum' → length_fault limits kind before sum l ≡ length_fault others kind' before' sum' l
length_fault-same limits others kind kind' before before' sum sum' l el ek eb es =
    ap (λ (x : Limits). length_fault x kind before sum l) el ∙ ap (λ (k : ℕ). length_fault others k before sum l) ek ∙ ap (λ (b : ℕ). length_fault others kind' b sum l) eb ∙ ap (λ (n : ℕ). length_fault others kind' before' n l) es
