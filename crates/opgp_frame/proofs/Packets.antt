-- What is known of an allowed packet: its first octet, its pieces and its last length.
use Rattle.std.proofs.Common.{◌≡◌, ℕ, ◌+◌, ◌≤◌, true, false, [], length, None, refl, sym, subst, arith}
use Rattle.std.proofs.lemmas.Bool.{le-ltb, ltb-true}
use Rattle.std.proofs.lemmas.List.Elements.{All-nil}
use Rattle.opgp_octets.specs.declared.limits.Limits.{Limits}
use Rattle.opgp_octets.specs.Limits.{body_limit, pieces_limit}
use Rattle.opgp_frame.specs.declared.form.Form.{Form}
use Rattle.opgp_frame.specs.declared.form.Form.TheVariants.{OldOne, OldTwo, OldFour, NewOne, NewTwo, NewFive, Partial}
use Rattle.opgp_frame.specs.declared.pieces.LastForm.{LastForm}
use Rattle.opgp_frame.specs.declared.pieces.LastForm.TheVariants.{One, Two, Five}
use Rattle.opgp_frame.specs.declared.length.Length.{Length}
use Rattle.opgp_frame.specs.Form.{HasPieces, form_takes, header_octet, exponents_of, length_of_rest, current_length}
use Rattle.opgp_frame.specs.Frames.{IsAllowed}
use Rattle.opgp_frame.specs.Header.{is_data_kind}
use Rattle.opgp_frame.specs.Length.{IsLengthUnder, length_amount, is_partial}
use Rattle.opgp_frame.specs.Packet.{PacketValue}
use Rattle.opgp_frame.specs.PacketFault.{length_fault}
use Rattle.opgp_frame.specs.PiecesValue.{GoodPieces, pieces_sum}
use Rattle.opgp_frame.specs.Unfinished.{HasBegun}
use Rattle.opgp_frame.proofs.Headers.{read_kind, kind_in-header_octet, header_octet-fits, header_octet-read}

-- what is known of the last length of a form, with n octets left
pub record IsLast (header : ℕ) (l : Length) (n : ℕ) : Type 0 where
  pub under : IsLengthUnder header l
  pub last : is_partial l ≡ false
  pub amount : length_amount l ≡ n

current_last : (kind : ℕ) (last : LastForm) (n : ℕ) → IsLast (192 + kind) (current_length last n) n
current_last kind One n = record { under = omega arith; last = refl; amount = refl }
current_last kind Two n = record { under = omega arith; last = refl; amount = refl }
current_last kind Five n = record { under = omega arith; last = refl; amount = refl }

pub form_last : (form : Form) (kind n : ℕ) → form_takes form kind ≡ true → IsLast (header_octet form kind) (length_of_rest form n) n
form_last OldOne kind n takes = let k = ltb-true kind 16 takes in record { under = (omega arith, omega arith); last = refl; amount = refl }
form_last OldTwo kind n takes = let k = ltb-true kind 16 takes in record { under = (omega arith, omega arith); last = refl; amount = refl }
form_last OldFour kind n takes = let k = ltb-true kind 16 takes in record { under = (omega arith, omega arith); last = refl; amount = refl }
form_last NewOne kind n takes = current_last kind One n
form_last NewTwo kind n takes = current_last kind Two n
form_last NewFive kind n takes = current_last kind Five n
form_last (Partial p) kind n takes = current_last kind p.last n

pub no_pieces : (limits : Limits) (header : ℕ) → GoodPieces limits header []
no_pieces limits header = record { each = All-nil (λ k. k ≤ 30); first = λ h. absurd (omega arith); current = λ h. absurd (omega arith); kind = λ h. absurd (omega arith); count = omega arith; sum = omega arith }

form_pieces : (limits : Limits) (form : Form) (kind : ℕ) → HasPieces form → form_takes form kind ≡ true → length (exponents_of form) ≤ pieces_limit limits → pieces_sum (exponents_of form) ≤ body_limit limits → GoodPieces limits (header_octet form kind) (exponents_of form)
form_pieces limits OldOne kind stand takes count sum = no_pieces limits (header_octet OldOne kind)
form_pieces limits OldTwo kind stand takes count sum = no_pieces limits (header_octet OldTwo kind)
form_pieces limits OldFour kind stand takes count sum = no_pieces limits (header_octet OldFour kind)
form_pieces limits NewOne kind stand takes count sum = no_pieces limits (header_octet NewOne kind)
form_pieces limits NewTwo kind stand takes count sum = no_pieces limits (header_octet NewTwo kind)
form_pieces limits NewFive kind stand takes count sum = no_pieces limits (header_octet NewFive kind)
form_pieces limits (Partial p) kind stand takes count sum = record {
  each = stand.each;
  first = λ _. stand.first;
  current = λ _. omega arith;
  kind = λ _. subst (λ (k : ℕ). is_data_kind k ≡ true) (sym (kind_in-header_octet (Partial p) kind takes)) takes;
  count = count;
  sum = sum;
}

pub IsAllowed-begun : (limits : Limits) (p : PacketValue) → IsAllowed limits p → HasBegun limits (header_octet p.form p.kind) (exponents_of p.form)
IsAllowed-begun limits p allowed =
    let fits = header_octet-fits p.form p.kind allowed.packet.takes (read_kind p.kind allowed.packet.kind).small in
    record {
      octet = fits.small;
      read = header_octet-read p.form p.kind allowed.packet.takes allowed.packet.kind;
      pieces = form_pieces limits p.form p.kind allowed.packet.spells.stand allowed.packet.takes allowed.pieces (omega (arith, allowed.packet.spells.pieces, allowed.body));
    }

-- a last length within the limit may stand there
pub last_good : (limits : Limits) (kind before sum : ℕ) (l : Length) → is_partial l ≡ false → sum + length_amount l ≤ body_limit limits → length_fault limits kind before sum l ≡ None
last_good limits kind before sum l last within = rw (last, le-ltb (body_limit limits) (sum + length_amount l) within) refl
