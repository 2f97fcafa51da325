-- A signature's algorithm-specific fields; their integers and octets are places in a body, or
-- views.
use Rattle.std.specs.Prelude.{◌≡◌, ℕ, ◌+◌, List, [], ◌∷◌, length}
use Rattle.std.specs.Borrow.{Bor}
use Rattle.std.proofs.Props.{props}
use Rattle.opgp_octets.specs.declared.mpi_view.MpiView.{MpiView}
use Rattle.opgp_packet.specs.declared.spans.Span.{Span}
use Rattle.opgp_packet.specs.declared.spans.MpiSpan.{MpiSpan}
use Rattle.opgp_packet.specs.Fields.{Field, bare, integer_of}
use Rattle.opgp_packet.specs.Spans.{octets_in, integer_in, IsIn, IsMpiIn}
use Rattle.opgp_packet.specs.declared.signature_material.SignatureMaterial.{SignatureMaterial}
use Rattle.opgp_packet.specs.declared.signature_material.SignatureMaterial.TheVariants as material
use Rattle.opgp_packet.specs.SignatureShape.{Shape, rsa, dsa, ecdsa, eddsa, ed25519, ed448, opaque}

-- its fields, given what its integers and octets are
abbrev pub fields_by : {I O : Type 0} → (I → Field) → (O → List ℕ) → SignatureMaterial I O
    → List Field
fields_by f g (material.Rsa s) = f s ∷ []
fields_by f g (material.Dsa r s) = f r ∷ f s ∷ []
fields_by f g (material.Ecdsa r s) = f r ∷ f s ∷ []
fields_by f g (material.Eddsa r s) = f r ∷ f s ∷ []
fields_by f g (material.Ed25519 octets) = bare (g octets) ∷ []
fields_by f g (material.Ed448 octets) = bare (g octets) ∷ []
fields_by f g (material.Opaque octets) = bare (g octets) ∷ []

-- its form
abbrev pub shape : {I O : Type 0} → SignatureMaterial I O → Shape
shape (material.Rsa s) = rsa
shape (material.Dsa r s) = dsa
shape (material.Ecdsa r s) = ecdsa
shape (material.Eddsa r s) = eddsa
shape (material.Ed25519 octets) = ed25519
shape (material.Ed448 octets) = ed448
shape (material.Opaque octets) = opaque

-- the fields that views show
abbrev pub material_fields : SignatureMaterial MpiView (Bor (List ℕ)) → List Field
material_fields = fields_by integer_of (λ o. o.now)

-- octets of fixed size have that size
abbrev pub HasSizes : SignatureMaterial MpiView (Bor (List ℕ)) → Type 0
HasSizes (material.Ed25519 octets) = length octets.now ≡ 64
HasSizes (material.Ed448 octets) = length octets.now ≡ 114
HasSizes other = Unit {0}

-- the fields at places in a body
abbrev pub fields_in : SignatureMaterial MpiSpan Span → List ℕ → List Field
fields_in m o = fields_by (λ p. integer_in p o) (λ p. octets_in p o) m

-- a place of this many octets
abbrev pub IsSizedIn : ℕ → Span → ℕ → Type 0
IsSizedIn size p total = IsIn p total × (p.end ≡ p.start + size)

-- all of them are within this many octets
abbrev pub AreIn : SignatureMaterial MpiSpan Span → ℕ → Type 0
AreIn (material.Rsa s) total = IsMpiIn s total
AreIn (material.Dsa r s) total = IsMpiIn r total × IsMpiIn s total
AreIn (material.Ecdsa r s) total = IsMpiIn r total × IsMpiIn s total
AreIn (material.Eddsa r s) total = IsMpiIn r total × IsMpiIn s total
AreIn (material.Ed25519 octets) total = IsSizedIn 64 octets total
AreIn (material.Ed448 octets) total = IsSizedIn 114 octets total
AreIn (material.Opaque octets) total = IsIn octets total

-- there is one proof of it at most
pub AreIn-prop : (m : SignatureMaterial MpiSpan Span) (total : ℕ) → IsProp (AreIn m total)
AreIn-prop (material.Rsa s) total = hlevel props
AreIn-prop other total = hlevel props
