-- Packets whose bodies stand one after the other.
use Rattle.std.proofs.Common.{◌≡◌, ℕ, ◌+◌, ◌-◌, ◌≤◌, ◌<◌, true, false, List, [], ◌∷◌, ◌++◌, length, map, take, drop, get_or, All, refl, sym, ap, ap₂, subst, ◌∙◌, length-append, arith, inl, inr}
use Rattle.std.proofs.lemmas.Bool.{cases_lt, lt-ltb, le-ltb}
use Rattle.std.proofs.lemmas.List.{length-drop, take_all, take-append-le, drop-append-le, length-take-le}
use Rattle.std.proofs.lemmas.List.Elements.{All-append, All-cons, All-head, All-nil, All-tail}
use Rattle.opgp_octets.specs.declared.malformed.Malformed.{Malformed}
use Rattle.opgp_frame.specs.declared.form.Form.{Form}
use Rattle.opgp_frame.specs.declared.form.Form.TheVariants as forms
use Rattle.opgp_frame.specs.Form.{FormSpells, form_takes}
use Rattle.opgp_frame.specs.Header.{is_data_kind}
use Rattle.opgp_frame.specs.Packet.{PacketValue, IsPacket}
use Rattle.opgp_frame.specs.Reframed.{reframed, shortest_form}
use Rattle.opgp_keyring.specs.declared.header.Header.{Header}
use Rattle.opgp_keyring.specs.Bodies.{HasNoFault}
use Rattle.opgp_keyring.specs.Composition.{stands_in_keyring}
use Rattle.opgp_keyring.specs.Packed.{ArePacked, MayStand}
use Rattle.opgp_keyring.specs.Header.{least_len, most_len, normal_header, packet_with, packets_with, plain_form, plain_of, sizes}
use Rattle.opgp_keyring.proofs.KindTests.{stands_no_data}
use Rattle.opgp_keyring.proofs.SignedBodies.{sound_kept}

-- ---- one list of packets behind another

sizes_more : (ps qs : List Header) → sizes (ps ++ qs) ≡ sizes ps + sizes qs
sizes_more [] qs = omega arith
sizes_more (p ∷ ps) qs = omega (arith, sizes_more ps qs)

pub packets_more : (bodies more : List ℕ) (ps qs : List Header) → length bodies ≡ sizes ps → packets_with (bodies ++ more) (ps ++ qs) ≡ packets_with bodies ps ++ packets_with more qs
packets_more [] more [] qs whole = refl
packets_more (b ∷ bodies) more [] qs whole = absurd (omega (arith, whole))
packets_more bodies more (p ∷ ps) qs whole =
    let le : p.len ≤ length bodies = omega (arith, whole) in
    let rest : length (drop p.len bodies) ≡ sizes ps = omega (arith, whole, length-drop p.len bodies) in
    ap₂ (λ (x : PacketValue) (xs : List PacketValue). x ∷ xs) (ap (packet_with p) (take-append-le p.len bodies more le))
    (ap (λ (l : List ℕ). packets_with l (ps ++ qs)) (drop-append-le p.len bodies more le) ∙ packets_more (drop p.len bodies) more ps qs rest)

pub packed_more : (bodies more : List ℕ) (ps qs : List Header) → ArePacked bodies ps → ArePacked more qs → ArePacked (bodies ++ more) (ps ++ qs)
packed_more bodies more ps qs a b = record {
  whole = omega (arith, length-append bodies more, sizes_more ps qs, a.whole, b.whole);
  parts = subst (λ (l : List PacketValue). All MayStand l) (sym (packets_more bodies more ps qs a.whole)) (All-append MayStand (packets_with bodies ps) (packets_with more qs) a.parts b.parts);
}

-- ---- one packet

one_packet : (header : Header) (body : List ℕ) → header.len ≡ length body → packets_with body (header ∷ []) ≡ packet_with header body ∷ []
one_packet header body whole = ap (λ (l : List ℕ). packet_with header l ∷ []) (take_all header.len body (omega (arith, whole)))

one_packed : (header : Header) (body : List ℕ) → header.len ≡ length body → MayStand (packet_with header body) → ArePacked body (header ∷ [])
one_packed header body whole part = record {
  whole = omega (arith, whole);
  parts = subst (λ (l : List PacketValue). All MayStand l) (sym (one_packet header body whole)) (All-cons MayStand (packet_with header body) [] part (All-nil MayStand));
}

pub pushed : (bodies : List ℕ) (ps : List Header) (header : Header) (body : List ℕ) → ArePacked bodies ps → header.len ≡ length body → MayStand (packet_with header body) → ArePacked (bodies ++ body) (ps ++ header ∷ [])
pushed bodies ps header body a whole part = packed_more bodies body ps (header ∷ []) a (one_packed header body whole part)

pub pushed_is : (bodies : List ℕ) (ps : List Header) (header : Header) (body : List ℕ) → ArePacked bodies ps → header.len ≡ length body → packets_with (bodies ++ body) (ps ++ header ∷ []) ≡ packets_with bodies ps ++ packet_with header body ∷ []
pushed_is bodies ps header body a whole = packets_more bodies body ps (header ∷ []) a.whole ∙ ap (λ (l : List PacketValue). packets_with bodies ps ++ l) (one_packet header body whole)

-- the first one, and those behind it
abbrev FirstOf : List ℕ → Header → List Header → Type 0
FirstOf bodies p rest = MayStand (packet_with p (take p.len bodies)) × ((length (drop p.len bodies) ≡ sizes rest) × All MayStand (packets_with (drop p.len bodies) rest))

pub behind_first : (bodies : List ℕ) (ps : List Header) (d : Header) → 0 < length ps → length bodies ≡ sizes ps → All MayStand (packets_with bodies ps) → FirstOf bodies (get_or ps 0 d) (take (length ps - 1) (drop 1 ps))
behind_first bodies [] d some whole parts = absurd (omega arith)
behind_first bodies (p ∷ ps) d some whole parts =
    let is : take (length (p ∷ ps) - 1) (drop 1 (p ∷ ps)) ≡ ps = take_all (length (p ∷ ps) - 1) ps (omega arith) in
    let left : length (drop p.len bodies) ≡ sizes ps = omega (arith, whole, length-drop p.len bodies) in (
      All-head MayStand (packet_with p (take p.len bodies)) (packets_with (drop p.len bodies) ps) parts,
      (
        left ∙ ap sizes (sym is),
        subst (λ (l : List Header). All MayStand (packets_with (drop p.len bodies) l)) (sym is) (All-tail MayStand (packet_with p (take p.len bodies)) (packets_with (drop p.len bodies) ps) parts),
      ),
    )

pub count : (bodies : List ℕ) (ps : List Header) → length (packets_with bodies ps) ≡ length ps
count bodies [] = refl
count bodies (p ∷ ps) = omega (arith, count (drop p.len bodies) ps)

-- ---- forms

-- where a form encodes a body without pieces, the body is no longer than any may be
pub is_sized : (f : Form) (n : ℕ) → n ≤ most_len f → n ≤ 4294967295
is_sized forms.OldOne n le = omega (arith, le)
is_sized forms.OldTwo n le = omega (arith, le)
is_sized forms.OldFour n le = omega (arith, le)
is_sized forms.NewOne n le = omega (arith, le)
is_sized forms.NewTwo n le = omega (arith, le)
is_sized forms.NewFive n le = omega (arith, le)
is_sized (forms.Partial p) n le = omega (arith, le)

-- a packet of a type without pieces encodes its body by its form alone
record IsWithout (f : Form) (n : ℕ) : Type 0 where
  pub least : least_len f ≤ n
  pub most : n ≤ most_len f

without : (f : Form) (kind n : ℕ) → is_data_kind kind ≡ false → form_takes f kind ≡ true → FormSpells f n → IsWithout f n
without forms.OldOne kind n none takes spells = record { least = omega arith; most = omega (arith, spells.rest) }
without forms.OldTwo kind n none takes spells = record { least = omega arith; most = omega (arith, spells.rest) }
without forms.OldFour kind n none takes spells = record { least = omega arith; most = omega (arith, spells.rest) }
without forms.NewOne kind n none takes spells = record { least = omega arith; most = omega (arith, spells.rest) }
without forms.NewTwo kind n none takes spells = record { least = omega (arith, spells.rest.0); most = omega (arith, spells.rest.1) }
without forms.NewFive kind n none takes spells = record { least = omega arith; most = omega (arith, spells.rest) }
without (forms.Partial p) kind n none takes spells = absurd cc

-- a packet whose type stands in a keyring, and whose body has no fault
pub may_stand : (policy : Malformed) (p : PacketValue) → IsPacket p → stands_in_keyring p.kind ≡ true → HasNoFault policy p → MayStand p
may_stand policy p is stands sound =
    let w = without p.form p.kind (length p.body) (stands_no_data p.kind stands) is.takes is.spells in
    record { stands = stands; kind = is.kind; takes = is.takes; least = w.least; most = w.most; octets = is.octets; sound = sound_kept policy p sound }

-- ---- the current format

record IsShortest (n kind : ℕ) (f : Form) : Type 0 where
  pub takes : form_takes f kind ≡ true
  pub least : least_len f ≤ n
  pub most : n ≤ most_len f
  pub again : plain_form (plain_of f) ≡ f

shortest : (n kind : ℕ) → n ≤ 4294967295 → IsShortest n kind (shortest_form n)
shortest n kind le =
    elim (cases_lt n 192) [
      | inl lt ↦ rw (lt-ltb n 192 lt) (record { takes = refl; least = omega arith; most = omega arith; again = refl })
      | inr high ↦ elim (cases_lt n 8384) [
        | inl lt ↦ rw (le-ltb n 192 high, lt-ltb n 8384 lt) (record { takes = refl; least = omega arith; most = omega arith; again = refl })
        | inr higher ↦ rw (le-ltb n 192 high, le-ltb n 8384 higher) (record { takes = refl; least = omega arith; most = omega arith; again = refl })
      ]
    ]

part_normal : (p : PacketValue) → MayStand p → MayStand (reframed p)
part_normal p k =
    let s = shortest (length p.body) p.kind (is_sized p.form (length p.body) k.most) in
    record { stands = k.stands; kind = k.kind; takes = s.takes; least = s.least; most = s.most; octets = k.octets; sound = k.sound }

pub all_normal : (ps : List PacketValue) → All MayStand ps → All MayStand (map reframed ps)
all_normal [] a = All-nil MayStand
all_normal (p ∷ ps) a = All-cons MayStand (reframed p) (map reframed ps) (part_normal p (All-head MayStand p ps a)) (all_normal ps (All-tail MayStand p ps a))

pub headers_normal : (bodies : List ℕ) (ps : List Header) → length bodies ≡ sizes ps → All MayStand (packets_with bodies ps) → packets_with bodies (map normal_header ps) ≡ map reframed (packets_with bodies ps)
headers_normal bodies [] whole parts = refl
headers_normal bodies (p ∷ ps) whole parts =
    let body : List ℕ = take p.len bodies in
    let first : MayStand (packet_with p body) = All-head MayStand (packet_with p body) (packets_with (drop p.len bodies) ps) parts in
    let len : length body ≡ p.len = length-take-le p.len bodies (omega (arith, whole)) in
    let s = shortest (length body) p.kind (is_sized (plain_form p.plain) (length body) first.most) in
    let head : packet_with (normal_header p) body ≡ reframed (packet_with p body) =
    ap (λ (n : ℕ). packet_with (record { len = p.len; kind = p.kind; plain = plain_of (shortest_form n) }) body) (sym len) ∙ ap (λ (f : Form). record { form = f; kind = p.kind; body = body }) s.again in
    ap₂ (λ (x : PacketValue) (xs : List PacketValue). x ∷ xs) head
    (headers_normal (drop p.len bodies) ps (omega (arith, whole, length-drop p.len bodies)) (All-tail MayStand (packet_with p body) (packets_with (drop p.len bodies) ps) parts))

sizes_normal : (ps : List Header) → sizes (map normal_header ps) ≡ sizes ps
sizes_normal [] = refl
sizes_normal (p ∷ ps) = omega (arith, sizes_normal ps)

pub packed_normal : (bodies : List ℕ) (ps : List Header) → ArePacked bodies ps → ArePacked bodies (map normal_header ps)
packed_normal bodies ps a = record {
  whole = a.whole ∙ sym (sizes_normal ps);
  parts = subst (λ (l : List PacketValue). All MayStand l) (sym (headers_normal bodies ps a.whole a.parts)) (all_normal (packets_with bodies ps) a.parts);
}
