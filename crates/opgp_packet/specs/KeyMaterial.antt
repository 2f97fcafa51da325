-- A key's public material; its integers and octets are places in a body, or views.
use Rattle.std.specs.Prelude.{◌≡◌, ℕ, ◌+◌, List, [], ◌∷◌, length}
use Rattle.std.specs.Borrow.{Bor}
use Rattle.std.proofs.Props.{props}
use Rattle.opgp_octets.specs.declared.mpi_view.MpiView.{MpiView}
use Rattle.opgp_packet.specs.declared.spans.Span.{Span}
use Rattle.opgp_packet.specs.declared.spans.MpiSpan.{MpiSpan}
use Rattle.opgp_packet.specs.Fields.{Field, named, bare, integer_of}
use Rattle.opgp_packet.specs.Spans.{octets_in, integer_in, IsIn, IsMpiIn}
use Rattle.opgp_packet.specs.declared.key_material.Material.{Material}
use Rattle.opgp_packet.specs.declared.key_material.Material.TheVariants as material
use Rattle.opgp_packet.specs.KeyShape.{Shape, rsa, elgamal, dsa, ecdh, ecdsa, eddsa, x25519, x448}
use Rattle.opgp_packet.specs.KeyShape.{ed25519, ed448, opaque}

-- its fields, given what its integers and octets are
abbrev pub fields_by : {I O : Type 0} → (I → Field) → (O → List ℕ) → Material I O → List Field
fields_by f g (material.Rsa n e) = f n ∷ f e ∷ []
fields_by f g (material.Elgamal p b y) = f p ∷ f b ∷ f y ∷ []
fields_by f g (material.Dsa p q b y) = f p ∷ f q ∷ f b ∷ f y ∷ []
fields_by f g (material.Ecdh oid point kdf) = named (g oid) ∷ f point ∷ named (g kdf) ∷ []
fields_by f g (material.Ecdsa oid point) = named (g oid) ∷ f point ∷ []
fields_by f g (material.Eddsa oid point) = named (g oid) ∷ f point ∷ []
fields_by f g (material.X25519 octets) = bare (g octets) ∷ []
fields_by f g (material.X448 octets) = bare (g octets) ∷ []
fields_by f g (material.Ed25519 octets) = bare (g octets) ∷ []
fields_by f g (material.Ed448 octets) = bare (g octets) ∷ []
fields_by f g (material.Opaque octets) = bare (g octets) ∷ []

-- its form
abbrev pub shape : {I O : Type 0} → Material I O → Shape
shape (material.Rsa n e) = rsa
shape (material.Elgamal p g y) = elgamal
shape (material.Dsa p q g y) = dsa
shape (material.Ecdh oid point kdf) = ecdh
shape (material.Ecdsa oid point) = ecdsa
shape (material.Eddsa oid point) = eddsa
shape (material.X25519 octets) = x25519
shape (material.X448 octets) = x448
shape (material.Ed25519 octets) = ed25519
shape (material.Ed448 octets) = ed448
shape (material.Opaque octets) = opaque

-- the fields that views show
abbrev pub material_fields : Material MpiView (Bor (List ℕ)) → List Field
material_fields = fields_by integer_of (λ o. o.now)

-- octets of fixed size have that size
abbrev pub HasSizes : Material MpiView (Bor (List ℕ)) → Type 0
HasSizes (material.X25519 octets) = length octets.now ≡ 32
HasSizes (material.X448 octets) = length octets.now ≡ 56
HasSizes (material.Ed25519 octets) = length octets.now ≡ 32
HasSizes (material.Ed448 octets) = length octets.now ≡ 57
HasSizes other = Unit {0}

-- the fields at places in a body
abbrev pub fields_in : Material MpiSpan Span → List ℕ → List Field
fields_in m o = fields_by (λ p. integer_in p o) (λ p. octets_in p o) m

-- a place of this many octets
abbrev pub IsSizedIn : ℕ → Span → ℕ → Type 0
IsSizedIn size p total = IsIn p total × (p.end ≡ p.start + size)

-- all of them are within this many octets
abbrev pub AreIn : Material MpiSpan Span → ℕ → Type 0
AreIn (material.Rsa n e) total = IsMpiIn n total × IsMpiIn e total
AreIn (material.Elgamal p g y) total = IsMpiIn p total × IsMpiIn g total × IsMpiIn y total
AreIn (material.Dsa p q g y) total =
    IsMpiIn p total × IsMpiIn q total × IsMpiIn g total × IsMpiIn y total
AreIn (material.Ecdh oid point kdf) total = IsIn oid total × IsMpiIn point total × IsIn kdf total
AreIn (material.Ecdsa oid point) total = IsIn oid total × IsMpiIn point total
AreIn (material.Eddsa oid point) total = IsIn oid total × IsMpiIn point total
AreIn (material.X25519 octets) total = IsSizedIn 32 octets total
AreIn (material.X448 octets) total = IsSizedIn 56 octets total
AreIn (material.Ed25519 octets) total = IsSizedIn 32 octets total
AreIn (material.Ed448 octets) total = IsSizedIn 57 octets total
AreIn (material.Opaque octets) total = IsIn octets total

-- there is one proof of it at most
pub AreIn-prop : (m : Material MpiSpan Span) (total : ℕ) → IsProp (AreIn m total)
AreIn-prop (material.Rsa n e) total = hlevel props
AreIn-prop other total = hlevel props
