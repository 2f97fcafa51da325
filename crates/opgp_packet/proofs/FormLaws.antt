-- Each kind that is listed has a form, and each form some octets.
use Rattle.std.proofs.Common.{◌≡◌, ℕ, zero, suc, ◌<◌, List, [], ◌∷◌, Some, refl, lit<}
use Rattle.std.specs.Prelude.{replicate}
use Rattle.opgp_octets.specs.declared.subpacket_kind.SubpacketKind.{SubpacketKind}
use Rattle.opgp_octets.specs.Octets.{IsOctets}
use Rattle.opgp_packet.specs.Forms.{Form, Fields, IsOf}
use Rattle.opgp_packet.specs.Forms as form
use Rattle.opgp_packet.specs.Meaning.{Meaning, Writes, IsListed, typed}
use Rattle.opgp_packet.specs.MeaningReading.{fields_in}
use Rattle.opgp_packet.specs.SignatureBody.{signature_at}
use Rattle.opgp_packet.proofs.MeaningLaws.{listed_form, fields_found}

small : (x : ℕ) (o : List ℕ) → x < 256 → IsOctets o → IsOctets (x ∷ o)
small x o lt fits zero = lt
small x o lt fits (suc i) = fits i

zero_octets : (n : ℕ) → IsOctets (replicate n 0)
zero_octets zero = λ i. lit< tt
zero_octets (suc n) = small 0 (replicate n 0) (lit< tt) (zero_octets n)

-- some octets of the form
OfForm : Form → Type 0
OfForm f = (o : List ℕ) × (IsOctets o × ((x : Fields f) × (fields_in f o ≡ Some x)))

zeros : (f : Form) (n : ℕ) (x : Fields f) → fields_in f (replicate n 0) ≡ Some x → OfForm f
unfolding OfForm
zeros f n x e = (replicate n 0, (zero_octets n, (x, e)))

some_octets : (f : Form) → OfForm f
unfolding OfForm signature_at
some_octets form.number = zeros form.number 4 _ refl
some_octets form.octet = zeros form.octet 1 _ refl
some_octets form.two_octets = zeros form.two_octets 2 _ refl
some_octets form.ended_text = zeros form.ended_text 1 _ refl
some_octets form.octets = zeros form.octets 0 _ refl
some_octets form.revoker = zeros form.revoker 22 _ refl
some_octets form.key_id = zeros form.key_id 8 _ refl
some_octets form.notation = zeros form.notation 8 _ refl
some_octets form.code_and_text = zeros form.code_and_text 1 _ refl
some_octets form.target = zeros form.target 2 _ refl
some_octets form.signature = (5 ∷ [], (small 5 [] (lit< tt) (zero_octets 0), (_, refl)))
some_octets form.fingerprint = (4 ∷ replicate 20 0, (small 4 (replicate 20 0) (lit< tt) (zero_octets 20), (_, refl)))
some_octets form.pairs = zeros form.pairs 0 _ refl

pub has_form : (k : SubpacketKind) → IsListed k → (o : List ℕ) × ((m : Meaning) × (IsOctets o × Writes k o m))
unfolding OfForm
has_form k listed =
    let f = listed_form k listed in
    let s = some_octets f.0 in
    (s.0, (typed k f.0 s.1.1.0, (s.1.0, (refl, f.1, fields_found f.0 s.0 s.1.1.0 s.1.0 s.1.1.1))))
