-- The octet that begins a packet: what it shows of the packet, and that it is the packet's.
use Rattle.std.proofs.Common.{◌≡◌, ℕ, ◌+◌, ◌-◌, ◌*◌, ◌/◌, ◌%◌, ◌<◌, ◌≤◌, Bool, true, false, not, ◌&&◌, cond, leb, eqb, ltb, Option, Some, None, refl, sym, subst, ◌∙◌, arith, inl, inr}
use Rattle.std.proofs.lemmas.Bool.{cases_lt, le-leb, lt-leb, eqb-false, eq-eqb, ne_eqb, le-ltb, lt-ltb, ltb-true, ltb-false, and_parts, and_right, not-true}
use Rattle.opgp_octets.specs.declared.fault.Reason.{Reason}
use Rattle.opgp_octets.specs.declared.fault.Reason.TheVariants.{NotAPacket, TypeZero, Compressed, UnknownCritical, Indeterminate}
use Rattle.opgp_frame.specs.declared.form.Form.{Form}
use Rattle.opgp_frame.specs.declared.form.Form.TheVariants.{OldOne, OldTwo, OldFour, NewOne, NewTwo, NewFive, Partial}
use Rattle.opgp_frame.specs.Form.{form_takes, header_octet}
use Rattle.opgp_frame.specs.Header.{is_read_kind, is_unknown_critical, kind_in}
use Rattle.opgp_frame.specs.PacketFault.{header_fault}

pub current_kind : (header : ℕ) → 192 ≤ header → kind_in header ≡ header - 192
current_kind header high = rw (le-leb 192 header high) refl

pub legacy_kind : (header : ℕ) → header < 192 → kind_in header ≡ (header - 128) / 4
legacy_kind header low = rw (lt-leb 192 header low) refl

-- what is known of a type that is read
pub record ReadKind (kind : ℕ) : Type 0 where
  pub some : kind ≡ 0 → ⊥
  pub plain : kind ≡ 8 → ⊥
  pub small : kind < 64
  pub known : is_unknown_critical kind ≡ false

pub read_kind : (kind : ℕ) → is_read_kind kind ≡ true → ReadKind kind
read_kind kind e =
    let a = and_parts (not (eqb kind 0) && not (eqb kind 8) && ltb kind 64) (not (is_unknown_critical kind)) e in
    let b = and_parts (not (eqb kind 0) && not (eqb kind 8)) (ltb kind 64) a.0 in
    let c = and_parts (not (eqb kind 0)) (not (eqb kind 8)) b.0 in
    record { some = eqb-false kind 0 (not-true (eqb kind 0) c.0); plain = eqb-false kind 8 (not-true (eqb kind 8) c.1); small = ltb-true kind 64 b.1; known = not-true (is_unknown_critical kind) a.1 }

pub is_read_kind-true : (kind : ℕ) → ReadKind kind → is_read_kind kind ≡ true
is_read_kind-true kind r = rw (ne_eqb kind 0 r.some, ne_eqb kind 8 r.plain, lt-ltb kind 64 r.small, r.known) refl

-- an octet that shows no fault
pub header_fault-none : (header : ℕ) → 128 ≤ header → ReadKind (kind_in header) → (header < 192 → header % 4 ≡ 3 → ⊥) → header_fault header ≡ None
header_fault-none header high r bits =
    let low : ltb header 128 ≡ false = le-ltb header 128 high in
    let definite : (not (leb 192 header) && eqb (header % 4) 3) ≡ false =
    elim (cases_lt header 192) [
      | inl lt ↦ and_right (not (leb 192 header)) (eqb (header % 4) 3) (ne_eqb _ _ (bits lt))
      | inr le ↦ rw (le-leb 192 header le) refl
    ] in
    rw (low, ne_eqb (kind_in header) 0 r.some, ne_eqb (kind_in header) 8 r.plain, r.known, definite) refl

pub record ReadHeader (header : ℕ) : Type 0 where
  pub high : 128 ≤ header
  pub some : kind_in header ≡ 0 → ⊥
  pub plain : kind_in header ≡ 8 → ⊥
  pub known : is_unknown_critical (kind_in header) ≡ false
  pub definite : header < 192 → header % 4 ≡ 3 → ⊥

none_of : (b : Bool) (reason : Reason) (next : Option Reason) → cond b (Some reason) next ≡ None → (b ≡ false) × (next ≡ None)
none_of true reason next e = absurd cc
none_of false reason next e = (refl, e)

pub read_header : (header : ℕ) → header_fault header ≡ None → ReadHeader header
read_header header e =
    let kind : ℕ = kind_in header in
    let bits : Bool = not (leb 192 header) && eqb (header % 4) 3 in
    let a = none_of (ltb header 128) NotAPacket (cond (eqb kind 0) (Some TypeZero) (cond (eqb kind 8) (Some Compressed) (cond (is_unknown_critical kind) (Some UnknownCritical) (cond bits (Some Indeterminate) None)))) e in
    let b = none_of (eqb kind 0) TypeZero (cond (eqb kind 8) (Some Compressed) (cond (is_unknown_critical kind) (Some UnknownCritical) (cond bits (Some Indeterminate) None))) a.1 in
    let c = none_of (eqb kind 8) Compressed (cond (is_unknown_critical kind) (Some UnknownCritical) (cond bits (Some Indeterminate) None)) b.1 in
    let d = none_of (is_unknown_critical kind) UnknownCritical (cond bits (Some Indeterminate) None) c.1 in
    let f = none_of bits Indeterminate None d.1 in
    record {
      high = ltb-false header 128 a.0;
      some = eqb-false kind 0 b.0;
      plain = eqb-false kind 8 c.0;
      known = d.0;
      definite = λ low three.
          let yes : bits ≡ true = rw (lt-leb 192 header low, eq-eqb (header % 4) 3 three) refl in
          let no = sym yes ∙ f.0 in cc;
    }

kind_small : (header : ℕ) → header < 256 → kind_in header < 64
kind_small header below =
    elim (cases_lt header 192) [
      | inl low ↦ rw (legacy_kind header low) (omega arith)
      | inr high ↦ rw (current_kind header high) (omega arith)
    ]

pub header_read_kind : (header : ℕ) → header < 256 → header_fault header ≡ None → is_read_kind (kind_in header) ≡ true
header_read_kind header below e =
    let r = read_header header e in
    is_read_kind-true (kind_in header) (record { some = r.some; plain = r.plain; small = kind_small header below; known = r.known })

-- ---- the octet of a packet's form

legacy_header : (kind bits : ℕ) → kind < 16 → bits < 3 → kind_in (128 + bits + 4 * kind) ≡ kind
legacy_header kind bits small low =
    let header : ℕ = 128 + bits + 4 * kind in
    let lt : header < 192 = omega arith in
    rw (lt-leb 192 header lt) (omega arith)

current_header : (kind : ℕ) → kind_in (192 + kind) ≡ kind
current_header kind = rw (le-leb 192 (192 + kind) (omega arith)) (omega arith)

pub kind_in-header_octet : (form : Form) (kind : ℕ) → form_takes form kind ≡ true → kind_in (header_octet form kind) ≡ kind
kind_in-header_octet OldOne kind takes = legacy_header kind 0 (ltb-true kind 16 takes) (omega arith)
kind_in-header_octet OldTwo kind takes = legacy_header kind 1 (ltb-true kind 16 takes) (omega arith)
kind_in-header_octet OldFour kind takes = legacy_header kind 2 (ltb-true kind 16 takes) (omega arith)
kind_in-header_octet NewOne kind takes = current_header kind
kind_in-header_octet NewTwo kind takes = current_header kind
kind_in-header_octet NewFive kind takes = current_header kind
kind_in-header_octet (Partial p) kind takes = current_header kind

pub record IsHeaderOctet (header : ℕ) : Type 0 where
  pub high : 128 ≤ header
  pub small : header < 256
  pub definite : header < 192 → header % 4 ≡ 3 → ⊥

pub header_octet-fits : (form : Form) (kind : ℕ) → form_takes form kind ≡ true → kind < 64 → IsHeaderOctet (header_octet form kind)
header_octet-fits OldOne kind takes small = let k = ltb-true kind 16 takes in record { high = omega arith; small = omega arith; definite = λ low three. omega arith }
header_octet-fits OldTwo kind takes small = let k = ltb-true kind 16 takes in record { high = omega arith; small = omega arith; definite = λ low three. omega arith }
header_octet-fits OldFour kind takes small = let k = ltb-true kind 16 takes in record { high = omega arith; small = omega arith; definite = λ low three. omega arith }
header_octet-fits NewOne kind takes small = record { high = omega arith; small = omega arith; definite = λ low three. omega arith }
header_octet-fits NewTwo kind takes small = record { high = omega arith; small = omega arith; definite = λ low three. omega arith }
header_octet-fits NewFive kind takes small = record { high = omega arith; small = omega arith; definite = λ low three. omega arith }
header_octet-fits (Partial p) kind takes small = record { high = omega arith; small = omega arith; definite = λ low three. omega arith }

pub header_octet-read : (form : Form) (kind : ℕ) → form_takes form kind ≡ true → is_read_kind kind ≡ true → header_fault (header_octet form kind) ≡ None
header_octet-read form kind takes read =
    let r = read_kind kind read in
    let fits = header_octet-fits form kind takes r.small in
    header_fault-none (header_octet form kind) fits.high (subst ReadKind (sym (kind_in-header_octet form kind takes)) r) fits.definite
