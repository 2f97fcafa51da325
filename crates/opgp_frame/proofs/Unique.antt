-- No spelling of a packet begins another.
use Rattle.std.proofs.Common.{◌≡◌, ℕ, ◌+◌, ◌-◌, ◌^◌, ◌<◌, ◌≤◌, true, false, List, [], ◌∷◌, ◌++◌, length, take, drop, Some, refl, sym, ap, subst, ◌∙◌, arith, append_assoc}
use Rattle.std.specs.List.{AllByRecursion}
use Rattle.std.proofs.lemmas.List.{take_at, drop_at, take-append-drop, length-take-le, length-drop, append_cancel_left}
use Rattle.std.proofs.lemmas.List.Elements.{recursion_from_All}
use Rattle.std.proofs.lemmas.Option.{some_pair_parts}
use Rattle.opgp_octets.specs.declared.packet_len.PacketLen.TheVariants as new
use Rattle.opgp_octets.proofs.Bytes.{same_some}
use Rattle.opgp_frame.specs.declared.form.Form.{Form}
use Rattle.opgp_frame.specs.declared.form.Form.TheVariants.{OldOne, OldTwo, OldFour, NewOne, NewTwo, NewFive, Partial}
use Rattle.opgp_frame.specs.declared.length.Length.{Length}
use Rattle.opgp_frame.specs.declared.length.Length.TheVariants as len
use Rattle.opgp_frame.specs.declared.pieces.LastForm.{LastForm}
use Rattle.opgp_frame.specs.declared.pieces.LastForm.TheVariants.{One, Two, Five}
use Rattle.opgp_frame.specs.Form.{HasPieces, header_octet, exponents_of, last_length, length_of_rest, current_length}
use Rattle.opgp_frame.specs.FormOf.{with_pieces, form_with}
use Rattle.opgp_frame.specs.Header.{kind_in}
use Rattle.opgp_frame.specs.Length.{LengthFits, IsLengthUnder, length_octets, length_amount, length_at, is_partial}
use Rattle.opgp_frame.specs.Packet.{PacketValue, IsPacket, spelling, cut_body}
use Rattle.opgp_frame.specs.PiecesValue.{pieces_sum}
use Rattle.opgp_frame.proofs.Headers.{kind_in-header_octet}
use Rattle.opgp_frame.proofs.Lengths.{length_again}
use Rattle.opgp_frame.proofs.Packets.{form_last}

-- equal octets that begin with lists of one length begin with one list
pub same_front : (a b x y : List ℕ) → length a ≡ length b → a ++ x ≡ b ++ y → (a ≡ b) × (x ≡ y)
same_front a b x y len e = (sym (take_at a x (length b) len) ∙ ap (take (length b)) e ∙ take_at b y (length b) refl, sym (drop_at a x (length b) len) ∙ ap (drop (length b)) e ∙ drop_at b y (length b) refl)

-- what a body under a last length is, behind pieces
pub record IsCut (header : ℕ) (ks : List ℕ) (l : Length) (body : List ℕ) : Type 0 where
  pub small : AllByRecursion (λ k. k ≤ 30) ks
  pub current : 0 < length ks → 192 ≤ header
  pub fits : LengthFits l
  pub under : IsLengthUnder header l
  pub last : is_partial l ≡ false
  pub whole : pieces_sum ks + length_amount l ≡ length body

-- the first length header of a body
first_length : (header : ℕ) (l m : Length) (x y : List ℕ) → LengthFits l → IsLengthUnder header l → LengthFits m → IsLengthUnder header m → length_octets l ++ x ≡ length_octets m ++ y → (l ≡ m) × (x ≡ y)
first_length header l m x y fits under others beneath e =
    let first = length_again header l x fits under in
    let second = length_again header m y others beneath in
    let same : l ≡ m = (some_pair_parts l m (length (length_octets l)) (length (length_octets m)) (sym first ∙ ap (length_at header) e ∙ second)).0 in
    (same, append_cancel_left (length_octets l) x y (e ∙ ap (λ (n : Length). length_octets n ++ y) (sym same)))

not_partial : (k : ℕ) (l : Length) → is_partial l ≡ false → l ≡ len.New (new.Partial k) → ⊥
not_partial k l last e = let t : is_partial l ≡ true = ap is_partial e in let f = sym last ∙ t in cc

pub record SameCut (ks es : List ℕ) (l m : Length) (b c x y : List ℕ) : Type 0 where
  pub exponents : ks ≡ es
  pub last : l ≡ m
  pub body : b ≡ c
  pub more : x ≡ y

pub same_cut : (header : ℕ) (ks es : List ℕ) (l m : Length) (b c x y : List ℕ) → IsCut header ks l b → IsCut header es m c → cut_body ks (length_octets l) b ++ x ≡ cut_body es (length_octets m) c ++ y → SameCut ks es l m b c x y
same_cut header [] [] l m b c x y p q e =
    let first = first_length header l m (b ++ x) (c ++ y) p.fits p.under q.fits q.under (sym (append_assoc (length_octets l) b x) ∙ e ∙ append_assoc (length_octets m) c y) in
    let size : length b ≡ length c = omega (arith, p.whole, q.whole, ap length_amount first.0) in
    let rest = same_front b c x y size first.1 in
    record { exponents = refl; last = first.0; body = rest.0; more = rest.1 }
same_cut header [] (j ∷ es) l m b c x y p q e =
    let tail : List ℕ = (take (2 ^ j) c ++ cut_body es (length_octets m) (drop (2 ^ j) c)) ++ y in
    let first = first_length header l (len.New (new.Partial j)) (b ++ x) tail p.fits p.under q.small.0 (q.current (omega arith)) (sym (append_assoc (length_octets l) b x) ∙ e) in
    absurd (not_partial j l p.last first.0)
same_cut header (k ∷ ks) [] l m b c x y p q e =
    let tail : List ℕ = (take (2 ^ k) b ++ cut_body ks (length_octets l) (drop (2 ^ k) b)) ++ x in
    let first = first_length header m (len.New (new.Partial k)) (c ++ y) tail q.fits q.under p.small.0 (p.current (omega arith)) (sym (append_assoc (length_octets m) c y) ∙ sym e) in
    absurd (not_partial k m q.last first.0)
same_cut header (k ∷ ks) (j ∷ es) l m b c x y p q e =
    let pb : List ℕ = take (2 ^ k) b in
    let pc : List ℕ = take (2 ^ j) c in
    let rb : List ℕ = drop (2 ^ k) b in
    let rc : List ℕ = drop (2 ^ j) c in
    let tb : List ℕ = cut_body ks (length_octets l) rb in
    let tc : List ℕ = cut_body es (length_octets m) rc in
    let heads : 224 + k ≡ 224 + j = cc in
    let tails : (pb ++ tb) ++ x ≡ (pc ++ tc) ++ y = cc in
    let same : k ≡ j = omega (arith, heads) in
    let lb : length pb ≡ 2 ^ k = length-take-le (2 ^ k) b (omega (arith, p.whole)) in
    let lc : length pc ≡ 2 ^ j = length-take-le (2 ^ j) c (omega (arith, q.whole)) in
    let size : length pb ≡ length pc = lb ∙ ap (λ (n : ℕ). 2 ^ n) same ∙ sym lc in
    let split = same_front pb pc (tb ++ x) (tc ++ y) size (sym (append_assoc pb tb x) ∙ tails ∙ append_assoc pc tc y) in
    let again = same_cut header ks es l m rb rc x y
    (record { small = p.small.1; current = λ _. p.current (omega arith); fits = p.fits; under = p.under; last = p.last; whole = omega (arith, p.whole, length-drop (2 ^ k) b) })
    (record { small = q.small.1; current = λ _. q.current (omega arith); fits = q.fits; under = q.under; last = q.last; whole = omega (arith, q.whole, length-drop (2 ^ j) c) }) split.1 in
    record {
      exponents = ap (λ (n : ℕ). n ∷ ks) same ∙ ap (λ (ns : List ℕ). j ∷ ns) again.exponents;
      last = again.last;
      body = sym (take-append-drop (2 ^ k) b) ∙ ap (λ (o : List ℕ). o ++ rb) split.0 ∙ ap (λ (o : List ℕ). pc ++ o) again.body ∙ take-append-drop (2 ^ j) c;
      more = again.more;
    }

-- a form is that of its pieces and its last length
pieces_form : (ks : List ℕ) (last : LastForm) (plain : Form) → 0 < length ks → with_pieces ks last plain ≡ Partial (record { exponents = ks; last = last })
pieces_form [] last plain some = absurd (omega arith)
pieces_form (k ∷ ks) last plain some = refl

partial_form : (ks : List ℕ) (last : LastForm) (n : ℕ) → 0 < length ks → form_with ks (current_length last n) ≡ Some (Partial (record { exponents = ks; last = last }))
partial_form ks One n some = ap (λ (f : Form). Some f) (pieces_form ks One NewOne some)
partial_form ks Two n some = ap (λ (f : Form). Some f) (pieces_form ks Two NewTwo some)
partial_form ks Five n some = ap (λ (f : Form). Some f) (pieces_form ks Five NewFive some)

pub form_with-of : (form : Form) (n : ℕ) → HasPieces form → form_with (exponents_of form) (length_of_rest form n) ≡ Some form
form_with-of OldOne n stand = refl
form_with-of OldTwo n stand = refl
form_with-of OldFour n stand = refl
form_with-of NewOne n stand = refl
form_with-of NewTwo n stand = refl
form_with-of NewFive n stand = refl
form_with-of (Partial p) n stand = partial_form p.exponents p.last n stand.some

form_small : (form : Form) → HasPieces form → AllByRecursion (λ k. k ≤ 30) (exponents_of form)
form_small (Partial p) stand = recursion_from_All (λ k. k ≤ 30) p.exponents stand.each
form_small OldOne stand = tt
form_small OldTwo stand = tt
form_small OldFour stand = tt
form_small NewOne stand = tt
form_small NewTwo stand = tt
form_small NewFive stand = tt

form_current : (form : Form) (kind : ℕ) → 0 < length (exponents_of form) → 192 ≤ header_octet form kind
form_current (Partial p) kind some = omega arith
form_current OldOne kind some = absurd (omega arith)
form_current OldTwo kind some = absurd (omega arith)
form_current OldFour kind some = absurd (omega arith)
form_current NewOne kind some = absurd (omega arith)
form_current NewTwo kind some = absurd (omega arith)
form_current NewFive kind some = absurd (omega arith)

pub IsPacket-cut : (p : PacketValue) → IsPacket p → IsCut (header_octet p.form p.kind) (exponents_of p.form) (last_length p.form (length p.body)) p.body
IsPacket-cut p stands =
    let left : ℕ = length p.body - pieces_sum (exponents_of p.form) in
    let last = form_last p.form p.kind left stands.takes in
    record {
      small = form_small p.form stands.spells.stand;
      current = form_current p.form p.kind;
      fits = stands.spells.rest;
      under = last.under;
      last = last.last;
      whole = omega (arith, last.amount, stands.spells.pieces);
    }

-- no spelling of a packet begins another
pub one_packet : (p q : PacketValue) (x y : List ℕ) → IsPacket p → IsPacket q → spelling p ++ x ≡ spelling q ++ y → (p ≡ q) × (x ≡ y)
one_packet p q x y stands others e =
    let h : ℕ = header_octet p.form p.kind in
    let g : ℕ = header_octet q.form q.kind in
    let l : Length = last_length p.form (length p.body) in
    let m : Length = last_length q.form (length q.body) in
    let heads : h ≡ g = cc in
    let tails : cut_body (exponents_of p.form) (length_octets l) p.body ++ x ≡ cut_body (exponents_of q.form) (length_octets m) q.body ++ y = cc in
    let cut = subst (λ (n : ℕ). IsCut n (exponents_of p.form) l p.body) heads (IsPacket-cut p stands) in
    let same = same_cut g (exponents_of p.form) (exponents_of q.form) l m p.body q.body x y cut (IsPacket-cut q others) tails in
    let kind : p.kind ≡ q.kind = sym (kind_in-header_octet p.form p.kind stands.takes) ∙ ap kind_in heads ∙ kind_in-header_octet q.form q.kind others.takes in
    let found : Some p.form ≡ Some q.form =
    sym (form_with-of p.form (length p.body - pieces_sum (exponents_of p.form)) stands.spells.stand)
    ∙ ap (λ (ks : List ℕ). form_with ks l) same.exponents ∙ ap (form_with (exponents_of q.form)) same.last
    ∙ form_with-of q.form (length q.body - pieces_sum (exponents_of q.form)) others.spells.stand in
    let form : p.form ≡ q.form = same_some p.form q.form found in
    let by_form : Form → PacketValue = λ f. record { form = f; kind = p.kind; body = p.body } in
    let by_kind : ℕ → PacketValue = λ k. record { form = q.form; kind = k; body = p.body } in
    let by_body : List ℕ → PacketValue = λ o. record { form = q.form; kind = q.kind; body = o } in
    (ap by_form form ∙ ap by_kind kind ∙ ap by_body same.body, same.more)
