-- A piece that is whole and the last ends an allowed packet.
use Rattle.std.proofs.Common.{◌≡◌, ℕ, ◌+◌, ◌-◌, ◌*◌, ◌%◌, ◌<◌, ◌≤◌, true, false, List, [], ◌∷◌, length, Some, refl, sym, ap, subst, ◌∙◌, arith}
use Rattle.std.proofs.lemmas.Bool.{lt-ltb}
use Rattle.opgp_octets.specs.declared.limits.Limits.{Limits}
use Rattle.opgp_octets.specs.Limits.{body_limit}
use Rattle.opgp_octets.specs.Octets.{IsOctets}
use Rattle.opgp_octets.specs.declared.packet_len.PacketLen.TheVariants as new
use Rattle.opgp_octets.proofs.Bytes.{same_some}
use Rattle.opgp_frame.specs.declared.form.Form.{Form}
use Rattle.opgp_frame.specs.declared.form.Form.TheVariants.{OldOne, OldTwo, OldFour, NewOne, NewTwo, NewFive}
use Rattle.opgp_frame.specs.declared.length.Length.{Length}
use Rattle.opgp_frame.specs.declared.length.Length.TheVariants as len
use Rattle.opgp_frame.specs.declared.pieces.LastForm.{LastForm}
use Rattle.opgp_frame.specs.declared.pieces.LastForm.TheVariants.{One, Two, Five}
use Rattle.opgp_frame.specs.Form.{HasPieces, form_takes, header_octet, exponents_of, last_length, length_of_rest, current_length}
use Rattle.opgp_frame.specs.FormOf.{with_pieces, form_with}
use Rattle.opgp_frame.specs.Header.{kind_in}
use Rattle.opgp_frame.specs.Length.{LengthFits, IsLengthUnder, length_amount, is_partial}
use Rattle.opgp_frame.specs.PiecesValue.{ArePieces, pieces_sum, GoodPieces}
use Rattle.opgp_frame.specs.Unfinished.{HasBegun, IsInPiece, IsWhole}
use Rattle.opgp_frame.proofs.Headers.{read_header, header_read_kind, current_kind, legacy_kind}
use Rattle.opgp_frame.proofs.Steps.{within_limit}

-- the form that fits a first octet, pieces and a last length
pub record IsFormOf (header : ℕ) (ks : List ℕ) (l : Length) (form : Form) : Type 0 where
  pub exponents : exponents_of form ≡ ks
  pub rest : length_of_rest form (length_amount l) ≡ l
  pub takes : form_takes form (kind_in header) ≡ true
  pub octet : header_octet form (kind_in header) ≡ header
  pub stand : HasPieces form

-- pieces so far are such as may be
pub good_pieces : (limits : Limits) (header : ℕ) (ks : List ℕ) → GoodPieces limits header ks → 0 < length ks → ArePieces ks
good_pieces limits header ks good some = record { some = some; first = good.first some; each = good.each }

no_legacy_pieces : (limits : Limits) (header : ℕ) (ks : List ℕ) → GoodPieces limits header ks → header < 192 → ks ≡ []
no_legacy_pieces limits header [] good low = refl
no_legacy_pieces limits header (k ∷ ks) good low = absurd (omega (arith, good.current (omega arith)))

current_octet : (header : ℕ) → 192 ≤ header → 192 + kind_in header ≡ header
current_octet header high = omega (arith, current_kind header high)

with_pieces-is : (limits : Limits) (header : ℕ) (ks : List ℕ) (last : LastForm) (plain : Form) (n : ℕ) → GoodPieces limits header ks → 192 ≤ header → exponents_of plain ≡ [] → ((m : ℕ) → length_of_rest plain m ≡ current_length last m)
    → ((kind : ℕ) → form_takes plain kind ≡ true) → ((kind : ℕ) → header_octet plain kind ≡ 192 + kind) → HasPieces plain → length_amount (current_length last n) ≡ n → IsFormOf header ks (current_length last n) (with_pieces ks last plain)
with_pieces-is limits header [] last plain n good high none rest takes octet stand amount =
    record { exponents = none; rest = rest (length_amount (current_length last n)) ∙ ap (current_length last) amount; takes = takes (kind_in header); octet = octet (kind_in header) ∙ current_octet header high; stand = stand }
with_pieces-is limits header (k ∷ ks) last plain n good high none rest takes octet stand amount =
    let some : 0 < length (k ∷ ks) = omega arith in
    record { exponents = refl; rest = ap (current_length last) amount; takes = good.kind some; octet = current_octet header high; stand = good_pieces limits header (k ∷ ks) good some }

legacy_octet : (header bits : ℕ) → 128 ≤ header → header < 192 → header % 4 ≡ bits → 128 + bits + 4 * kind_in header ≡ header
legacy_octet header bits high low e = omega (arith, legacy_kind header low)

legacy_small : (header : ℕ) → header < 192 → kind_in header < 16
legacy_small header low = omega (arith, legacy_kind header low)

pub form_found : (limits : Limits) (header : ℕ) (ks : List ℕ) (l : Length) → HasBegun limits header ks → IsLengthUnder header l → is_partial l ≡ false → (form : Form) × (form_with ks l ≡ Some form) × IsFormOf header ks l form
form_found limits header ks (len.OldOne n) begun under last =
    let high = (read_header header begun.read).high in
    (OldOne, refl, record { exponents = sym (no_legacy_pieces limits header ks begun.pieces under.0); rest = refl; takes = lt-ltb _ 16 (legacy_small header under.0); octet = legacy_octet header 0 high under.0 under.1; stand = tt })
form_found limits header ks (len.OldTwo n) begun under last =
    let high = (read_header header begun.read).high in
    (OldTwo, refl, record { exponents = sym (no_legacy_pieces limits header ks begun.pieces under.0); rest = refl; takes = lt-ltb _ 16 (legacy_small header under.0); octet = legacy_octet header 1 high under.0 under.1; stand = tt })
form_found limits header ks (len.OldFour n) begun under last =
    let high = (read_header header begun.read).high in
    (OldFour, refl, record { exponents = sym (no_legacy_pieces limits header ks begun.pieces under.0); rest = refl; takes = lt-ltb _ 16 (legacy_small header under.0); octet = legacy_octet header 2 high under.0 under.1; stand = tt })
form_found limits header ks (len.New (new.One n)) begun under last = (with_pieces ks One NewOne, refl, with_pieces-is limits header ks One NewOne n begun.pieces under refl (λ m. refl) (λ k. refl) (λ k. refl) tt refl)
form_found limits header ks (len.New (new.Two n)) begun under last = (with_pieces ks Two NewTwo, refl, with_pieces-is limits header ks Two NewTwo n begun.pieces under refl (λ m. refl) (λ k. refl) (λ k. refl) tt refl)
form_found limits header ks (len.New (new.Five n)) begun under last = (with_pieces ks Five NewFive, refl, with_pieces-is limits header ks Five NewFive n begun.pieces under refl (λ m. refl) (λ k. refl) (λ k. refl) tt refl)
form_found limits header ks (len.New (new.Partial k)) begun under last = absurd cc

-- the packet of a last piece that is whole
pub packet_whole : (limits : Limits) (header : ℕ) (l : Length) (from until : ℕ) (ks body rest : List ℕ) (form : Form) → IsInPiece limits header l from until ks body rest → length body ≡ until → IsOctets body
    → IsFormOf header ks l form → IsWhole limits rest (record { form = form; kind = kind_in header; body = body })
packet_whole limits header l from until ks body rest form at full octets is =
    let sums : pieces_sum (exponents_of form) ≡ pieces_sum ks = ap pieces_sum is.exponents in
    let left : length body - pieces_sum (exponents_of form) ≡ length_amount l = omega (arith, sums, full, at.begins, at.ends) in
    let last : last_length form (length body) ≡ l = ap (length_of_rest form) left ∙ is.rest in
    let room : pieces_sum ks + length_amount l ≤ body_limit limits = within_limit limits (kind_in header) (length ks) (pieces_sum ks) l at.good in
    record {
      spelled = at.octets ∙ rw (last, is.octet, is.exponents) refl;
      allowed = record {
        packet = record {
          kind = header_read_kind header at.begun.octet at.begun.read;
          takes = is.takes;
          spells = record { stand = is.stand; pieces = omega (arith, sums, at.begins, at.least); rest = subst LengthFits (sym last) at.fits; most = omega (arith, room, full, at.begins, at.ends, limits.allowed.body_in.1) };
          octets = octets;
        };
        body = omega (arith, room, full, at.begins, at.ends);
        pieces = rw is.exponents at.begun.pieces.count;
      };
    }

-- the form that was found is the one that fits
pub form_fits : (limits : Limits) (header : ℕ) (ks : List ℕ) (l : Length) (form : Form) → HasBegun limits header ks → IsLengthUnder header l → is_partial l ≡ false → form_with ks l ≡ Some form → IsFormOf header ks l form
form_fits limits header ks l form begun under last e =
    let found = form_found limits header ks l begun under last in
    let same : found.0 ≡ form = same_some found.0 form (sym found.1 ∙ e) in
    subst (IsFormOf header ks l) same found.2

-- the pieces of what has begun are such as may be
pub begun_pieces : (limits : Limits) (header : ℕ) (ks : List ℕ) → HasBegun limits header ks → 0 < length ks → ArePieces ks
begun_pieces limits header ks begun some = good_pieces limits header ks begun.pieces some
