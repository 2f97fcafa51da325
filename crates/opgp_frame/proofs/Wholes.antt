-- A header and all of the body that it announces.
use Rattle.std.proofs.Common.{◌≡◌, ◌∙◌, ℕ, suc, ◌+◌, ◌-◌, ◌<◌, ◌≤◌, false, List, [], ◌∷◌, ◌++◌, length, take, drop, slice_index_or, None, Some, refl, sym, ap, subst, arith, length-take-le, append_assoc, length-append}
use Rattle.std.proofs.Math.Seq.{take-add}
use Rattle.std.proofs.lemmas.List.{length-drop}
use Rattle.opgp_octets.specs.declared.limits.Limits.{Limits}
use Rattle.opgp_octets.specs.Limits.{body_limit}
use Rattle.opgp_octets.specs.Octets.{IsOctets}
use Rattle.opgp_octets.proofs.Bytes.{IsOctets-drop, IsOctets-take}
use Rattle.opgp_frame.specs.declared.form.Form.{Form}
use Rattle.opgp_frame.specs.declared.length.Length.{Length}
use Rattle.opgp_frame.specs.Form.{exponents_of, header_octet, last_length}
use Rattle.opgp_frame.specs.FormOf.{form_with}
use Rattle.opgp_frame.specs.Header.{kind_in}
use Rattle.opgp_frame.specs.Length.{LengthBegins, length_amount, length_at, length_octets, is_partial}
use Rattle.opgp_frame.specs.Packet.{PacketValue, cut_body}
use Rattle.opgp_frame.specs.PiecesValue.{pieces_sum}
use Rattle.opgp_frame.specs.PacketFault.{header_fault}
use Rattle.opgp_frame.specs.Unfinished.{IsInPiece}
use Rattle.opgp_frame.specs.Whole.{LiesWhole, BeginInOnePiece}
use Rattle.opgp_frame.proofs.Made.{form_fits, packet_whole}
use Rattle.opgp_frame.proofs.Packets.{IsLast, form_last, no_pieces, last_good}
use Rattle.opgp_frame.proofs.Headers.{header_octet-read}
use Rattle.opgp_frame.proofs.Lengths.{length_begins, reads_there}

whole_piece : (limits : Limits) (header : ℕ) (o : List ℕ) (l : Length) (count : ℕ) → header < 256 → header_fault header ≡ None → LengthBegins header o l count → is_partial l ≡ false → length_amount l ≤ body_limit limits → count + length_amount l ≤ length o
    → IsInPiece limits header l 0 (length_amount l) [] (take (length_amount l) (drop count o)) (header ∷ take (count + length_amount l) o)
whole_piece limits header o l count octet read begins last small room =
    let size : length (take (length_amount l) (drop count o)) ≡ length_amount l = length-take-le (length_amount l) (drop count o) (omega (arith, room, length-drop count o)) in
    record {
      begun = record { octet = octet; read = read; pieces = no_pieces limits header };
      octets = ap (λ (p : List ℕ). header ∷ p) (take-add count (length_amount l) o ∙ ap (λ (p : List ℕ). p ++ take (length_amount l) (drop count o)) begins.spelled);
      fits = begins.fits;
      under = begins.under;
      good = last_good limits (kind_in header) 0 0 l last (omega (arith, small));
      begins = refl;
      ends = omega arith;
      least = omega arith;
      most = omega (arith, size);
    }

pub whole_lies : (limits : Limits) (o : List ℕ) (l : Length) (count amount : ℕ) (form : Form) (block pos : ℕ) → 0 < length o → IsOctets o → header_fault (slice_index_or o 0 0) ≡ None → LengthBegins (slice_index_or o 0 0) (drop 1 o) l count
    → is_partial l ≡ false → amount ≡ length_amount l → amount ≤ body_limit limits → amount ≤ length o - (1 + count) → form_with [] l ≡ Some form
    → LiesWhole limits (record { form = form; kind = kind_in (slice_index_or o 0 0); from = 1 + count; until = 1 + count + amount; block = block; pos = pos }) o
whole_lies limits [] l count amount form block pos some octets read begins last same small room found = absurd (omega arith)
whole_lies limits (h ∷ o) l count amount form block pos some octets read begins last same small room found =
    let fits : count + amount ≤ length o = omega (arith, room, begins.within) in
    let is = whole_piece limits h o l count (octets 0) read begins last (omega (arith, small, same)) (omega (arith, fits, same)) in
    let at : IsInPiece limits h l 0 amount [] (take amount (drop count o)) (h ∷ take (count + amount) o) = subst (λ (n : ℕ). IsInPiece limits h l 0 n [] (take n (drop count o)) (h ∷ take (count + n) o)) (sym same) is in
    let body : List ℕ = take amount (drop count o) in
    let full : length body ≡ amount = length-take-le amount (drop count o) (omega (arith, fits, length-drop count o)) in
    let fitting = form_fits limits h [] l form at.begun at.under last found in
    let whole = packet_whole limits h l 0 amount [] body (h ∷ take (count + amount) o) form at full (IsOctets-take amount (drop count o) (IsOctets-drop (suc count) (h ∷ o) octets)) fitting in
    let packet : PacketValue = record { form = form; kind = kind_in h; body = body } in
    let between : ℕ → ℕ → Type 0 = λ from until. LiesWhole limits (record { form = form; kind = kind_in h; from = from; until = until; block = block; pos = pos }) (h ∷ o) in
    let here : between (suc count) (suc (count + amount)) = record {
      placed = record { packet = packet; block = block; pos = pos };
      lies = record {
        form = refl;
        kind = refl;
        order = omega arith;
        within = omega (arith, fits);
        body = ap (λ (n : ℕ). take n (drop count o)) (omega arith);
        block = refl;
        pos = refl;
        packet = whole.allowed.packet;
      };
      some = omega arith;
      pieces = fitting.exponents;
      whole = whole;
    } in
    subst (λ (from : ℕ). between from (1 + count + amount)) (omega arith) (subst (between (suc count)) (omega arith) here)

-- what a packet of one piece shows: a length that isn't partial, and all of the body that it announces
pub record ShowsWhole (limits : Limits) (o : List ℕ) : Type 0 where
  pub last : Length
  pub size : ℕ
  pub some : 0 < length o
  pub read : header_fault (slice_index_or o 0 0) ≡ None
  pub found : length_at (slice_index_or o 0 0) (drop 1 o) ≡ Some (last, size)
  pub whole : is_partial last ≡ false
  pub small : length_amount last ≤ body_limit limits
  pub room : 1 + size + length_amount last ≤ length o

pub shows_whole : (limits : Limits) (o : List ℕ) → BeginInOnePiece limits o → ShowsWhole limits o
shows_whole limits o h =
    let p = h.packet in
    let header : ℕ = header_octet p.form p.kind in
    let l : Length = last_length p.form (length p.body) in
    let none : pieces_sum (exponents_of p.form) ≡ 0 = ap pieces_sum h.pieces in
    let is : IsLast header l (length p.body - pieces_sum (exponents_of p.form)) = form_last p.form p.kind (length p.body - pieces_sum (exponents_of p.form)) h.is.takes in
    let amount : length_amount l ≡ length p.body = omega (arith, is.amount, none) in
    let spelled : o ≡ header ∷ (length_octets l ++ (p.body ++ h.more)) =
    h.spelled ∙ ap (λ (ks : List ℕ). header ∷ (cut_body ks (length_octets l) p.body ++ h.more)) h.pieces ∙ ap (λ (r : List ℕ). header ∷ r) (append_assoc (length_octets l) p.body h.more) in
    let begins = length_begins header l (p.body ++ h.more) h.is.spells.rest is.under in
    subst (ShowsWhole limits) (sym spelled) (record {
      last = l;
      size = length (length_octets l);
      some = omega arith;
      read = header_octet-read p.form p.kind h.is.takes h.is.kind;
      found = reads_there header (length_octets l ++ (p.body ++ h.more)) l (length (length_octets l)) begins;
      whole = is.last;
      small = omega (arith, amount, h.short);
      room = omega (arith, amount, length-append (length_octets l) (p.body ++ h.more), length-append p.body h.more);
    })
