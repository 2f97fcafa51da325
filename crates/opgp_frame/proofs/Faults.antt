-- The fault of a packet of which only a part has come, or which is at fault.
use Rattle.std.proofs.Common.{◌≡◌, ◌≢◌, ℕ, ◌+◌, ◌<◌, ◌≤◌, List, [], ◌∷◌, ◌++◌, length, take, drop, Some, refl, sym, ap, subst, ◌∙◌, arith, inl, inr, length-append}
use Rattle.std.proofs.lemmas.List.{take-append-drop, length-drop, length-take-le}
use Rattle.opgp_octets.specs.declared.limits.Limits.{Limits}
use Rattle.opgp_octets.specs.declared.fault.Reason.{Reason}
use Rattle.opgp_octets.specs.declared.fault.Reason.TheVariants.{Truncated}
use Rattle.opgp_frame.specs.declared.length.Length.{Length}
use Rattle.opgp_frame.specs.Header.{kind_in}
use Rattle.opgp_frame.specs.Length.{LengthFits, IsLengthUnder, length_octets, length_amount}
use Rattle.opgp_frame.specs.Packet.{cut_body}
use Rattle.opgp_frame.specs.PacketFault.{NextFault, FaultBehind, PacketFault, length_fault}
use Rattle.opgp_frame.specs.PiecesValue.{pieces_sum}
use Rattle.opgp_frame.specs.Unfinished.{HasBegun, IsAtLength, IsInPiece}
use Rattle.opgp_frame.proofs.Cuts.{cut_body-append, cut_body-last}
use Rattle.opgp_frame.proofs.Lengths.{none_there, length_begins, LengthBegins-more}

-- where the length header behind the pieces begins
abbrev pub place_behind : List ℕ → ℕ
place_behind ks = 1 + (length ks + pieces_sum ks)

-- a body with more than its whole pieces: what is more stands behind the last length
pub cut_body-split : (ks last body : List ℕ) → pieces_sum ks ≤ length body → cut_body ks last body ≡ cut_body ks (last ++ drop (pieces_sum ks) body) (take (pieces_sum ks) body)
cut_body-split ks last body le =
    let n : ℕ = pieces_sum ks in
    let whole : length (take n body) ≡ n = length-take-le n body le in
    ap (cut_body ks last) (sym (take-append-drop n body)) ∙ sym (cut_body-append ks last (take n body) (drop n body) (omega (arith, whole)))
    ∙ cut_body-last ks last (take n body) (drop n body) whole

-- the length header isn't all there
pub IsAtLength-fault : (limits : Limits) (header : ℕ) (seen ks body rest : List ℕ) → IsAtLength limits header seen ks body rest → PacketFault limits rest Truncated (1 + (length ks + length body))
IsAtLength-fault limits header seen ks body rest at =
    let behind : FaultBehind limits header (cut_body ks seen body) Truncated (1 + (length ks + length body)) = record {
      exponents = ks;
      body = body;
      rest = seen;
      octets = refl;
      whole = at.whole;
      good = at.begun.pieces;
      place = omega (arith, at.whole);
      next = inl (none_there header seen at.unread, refl);
    } in
    subst (λ (o : List ℕ). PacketFault limits o Truncated (1 + (length ks + length body))) (sym at.octets) (inr (at.begun.read, behind))

-- the piece isn't all there
pub IsInPiece-fault : (limits : Limits) (header : ℕ) (l : Length) (from until : ℕ) (ks body rest : List ℕ) → IsInPiece limits header l from until ks body rest → length body < until → PacketFault limits rest Truncated (1 + (length ks + from))
IsInPiece-fault limits header l from until ks body rest at below =
    let n : ℕ = pieces_sum ks in
    let some : List ℕ = drop n body in
    let o : List ℕ = length_octets l ++ some in
    let room : n ≤ length body = omega (arith, at.begins, at.least) in
    let short : length o < length (length_octets l) + length_amount l = omega (arith, length-append (length_octets l) some, length-drop n body, at.begins, at.ends, at.least, below) in
    let behind : FaultBehind limits header (cut_body ks (length_octets l) body) Truncated (1 + (length ks + from)) = record {
      exponents = ks;
      body = take n body;
      rest = o;
      octets = cut_body-split ks (length_octets l) body room;
      whole = length-take-le n body room;
      good = at.begun.pieces;
      place = omega (arith, at.begins);
      next = inr (l, length (length_octets l), length_begins header l some at.fits at.under, inr (at.good, short, refl));
    } in
    subst (λ (o : List ℕ). PacketFault limits o Truncated (1 + (length ks + from))) (sym at.octets) (inr (at.begun.read, behind))

-- the length header may not stand there, whatever follows
pub bad_length-fault : (limits : Limits) (header : ℕ) (l : Length) (ks body more : List ℕ) (reason : Reason) → HasBegun limits header ks → length body ≡ pieces_sum ks → LengthFits l → IsLengthUnder header l
    → length_fault limits (kind_in header) (length ks) (pieces_sum ks) l ≡ Some reason → PacketFault limits ((header ∷ cut_body ks (length_octets l) body) ++ more) reason (place_behind ks)
bad_length-fault limits header l ks body more reason begun whole fits under bad = inr (
  begun.read,
  record {
    exponents = ks;
    body = body;
    rest = length_octets l ++ more;
    octets = cut_body-last ks (length_octets l) body more whole;
    whole = whole;
    good = begun.pieces;
    place = refl;
    next = inr (l, length (length_octets l), length_begins header l more fits under, inl bad);
  },
)

-- what is at fault other than by its end stays so, whatever follows
next_stays : (limits : Limits) (header before sum : ℕ) (o more : List ℕ) (reason : Reason) → reason ≢ Truncated → NextFault limits header before sum o reason → NextFault limits header before sum (o ++ more) reason
next_stays limits header before sum o more reason other (inl h) = absurd (other h.1)
next_stays limits header before sum o more reason other (inr (l, count, begins, inl bad)) = inr (l, count, LengthBegins-more header o more l count begins, inl bad)
next_stays limits header before sum o more reason other (inr (l, count, begins, inr h)) = absurd (other h.2)

pub PacketFault-stays : (limits : Limits) (o more : List ℕ) (reason : Reason) (inner : ℕ) → reason ≢ Truncated → PacketFault limits o reason inner → PacketFault limits (o ++ more) reason inner
PacketFault-stays limits [] more reason inner other fault = absurd fault
PacketFault-stays limits (header ∷ o) more reason inner other (inl h) = inl h
PacketFault-stays limits (header ∷ o) more reason inner other (inr (good, b)) = inr (
  good,
  record {
    exponents = b.exponents;
    body = b.body;
    rest = b.rest ++ more;
    octets = ap (λ (x : List ℕ). x ++ more) b.octets ∙ cut_body-last b.exponents b.rest b.body more b.whole;
    whole = b.whole;
    good = b.good;
    place = b.place;
    next = next_stays limits header (length b.exponents) (pieces_sum b.exponents) b.rest more reason other b.next;
  },
)
