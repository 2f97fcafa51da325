-- What every key's body keeps.
use Rattle.std.proofs.Common.{IfOk, ◌≡◌, ◌≤◌, ◌-◌, ◌∷◌, ◌⊎◌, ℕ, Bool, true, false, eqb, cond, inl, inr, List, length, refl, ap, ◌∙◌, arith, Result, Ok, Err}
use Rattle.opgp_octets.specs.declared.fault.BodyFault.{BodyFault}
use Rattle.opgp_octets.specs.KeyAlgorithm.{key_algorithm_of}
use Rattle.opgp_octets.specs.Octets.{IsOctets}
use Rattle.opgp_octets.specs.Reading.{Reads}
use Rattle.opgp_packet.specs.FieldReading.{body_at}
use Rattle.opgp_packet.specs.Fields.{Field, small, wide, octets_of}
use Rattle.opgp_packet.proofs.GrammarLaws.{body_found}
use Rattle.opgp_packet.specs.Key.{fields_of_size, key_in, KeyLies}
use Rattle.opgp_packet.specs.KeyMaterial.{AreIn, shape}
use Rattle.opgp_packet.specs.KeyShape.{shape_of}
use Rattle.opgp_packet.specs.declared.key.KeyPlaces.{KeyPlaces}
use Rattle.opgp_packet.specs.KeyBody.{key, KeyValue, key_fields, SpellsKey}

pub version_known : (v : KeyValue) (o : List ℕ) → SpellsKey v o → (v.version ≡ 4) ⊎ (v.version ≡ 6)
unfolding key
version_known v o b = elim b.follows.0 [ inl p ↦ inl p.0 | inr p ↦ inr p ]

pub version_short : (v : KeyValue) (o : List ℕ) → SpellsKey v o → v.version ≡ 4 → length o ≤ 65535
unfolding key
version_short v o b h = elim b.follows.0 [ inl p ↦ omega (arith, p.1, ap length b.spelled) | inr p ↦ omega (arith, p, h) ]

abbrev sized : ℕ → Bool → KeyValue → List Field
sized n b v = small v.version ∷ wide v.created ∷ small v.algorithm ∷ (cond b (wide n ∷ v.material) v.material)

size_is : (b : Bool) (v : KeyValue) (o : List ℕ) → o ≡ octets_of (sized (length o - 10) b v) → sized (length o - 10) b v ≡ sized (length (octets_of v.material)) b v
size_is true v o e =
    let n : length o - 10 ≡ length (octets_of v.material) = omega (arith, ap length e) in
    ap (λ (k : ℕ). sized k true v) n
size_is false v o e = refl

-- the count of a key's octets is that of its material's
pub counted : {X : Type 0} (shown : X → KeyValue) (o : List ℕ) (r : Result X BodyFault) → IsOctets o
    → Reads (λ x. fields_of_size (length o) (shown x)) r (body_at key o) → Reads (λ x. key_fields (shown x)) r (body_at key o)
counted shown o (Err f) fits e = e
counted shown o (Ok x) fits e =
    let v = shown x in
    let b = body_found key o (fields_of_size (length o) v) fits e in
    e ∙ ap (λ (fs : List Field). Ok fs) (size_is (eqb v.version 6) v o b.spelled)

-- where the fields of a key lie that was read
pub lying : (o : List ℕ) (r : Result KeyPlaces BodyFault) → IsOctets o → Reads (λ p. fields_of_size (length o) (key_in p o)) r (body_at key o)
    → IfOk r (λ p. AreIn p.material (length o)) → IfOk r (λ p. shape p.material ≡ shape_of (key_algorithm_of p.algorithm)) → IfOk r (λ p. KeyLies p o)
lying o (Err f) fits e within form = tt
lying o (Ok p) fits e within form = record {
  material = within;
  form = form;
  short = version_short (key_in p o) o (body_found key o (key_fields (key_in p o)) fits (counted (λ q. key_in q o) o (Ok p) fits e));
}
