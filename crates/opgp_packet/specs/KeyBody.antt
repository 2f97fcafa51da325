-- The body of a public key (RFC 9580, 5.5.2, 5.5.5), as the table of its fields.
use Rattle.std.specs.Prelude.{ℕ, Bool, List, [], ◌∷◌, length, ◌==◌, if◌then◌else◌}
use Rattle.opgp_octets.specs.declared.fault.BodyFault.{BodyFault}
use Rattle.opgp_octets.specs.declared.fault.Reason.TheVariants.{OidSize, KdfSize}
use Rattle.opgp_octets.specs.KeyAlgorithm.{key_algorithm_of}
use Rattle.opgp_packet.specs.Fields.{Kind, version, octet, four, count, mpi, sized, fixed, whole}
use Rattle.opgp_packet.specs.Fields.{Field, small, wide, octets_of, Grammar, field, sequence, amount}
use Rattle.opgp_packet.specs.Fields.{Body, FirstFault}
use Rattle.opgp_packet.specs.KeyShape.{Shape, rsa, elgamal, dsa, ecdh, ecdsa, eddsa, x25519, x448}
use Rattle.opgp_packet.specs.KeyShape.{ed25519, ed448, opaque}
use Rattle.opgp_packet.specs.KeyShape.{shape_of}

-- a curve's object identifier, and parameters of a key derivation: sizes 0 and 255 are reserved
abbrev pub oid : Kind
oid = sized OidSize 1 254

abbrev pub kdf : Kind
kdf = sized KdfSize 1 254

-- the public material of each form, its integers strict or not (5.5.5)
abbrev pub material_kinds : Bool → Shape → List Kind
material_kinds strict rsa = mpi strict ∷ mpi strict ∷ []
material_kinds strict elgamal = mpi strict ∷ mpi strict ∷ mpi strict ∷ []
material_kinds strict dsa = mpi strict ∷ mpi strict ∷ mpi strict ∷ mpi strict ∷ []
material_kinds strict ecdh = oid ∷ mpi strict ∷ kdf ∷ []
material_kinds strict ecdsa = oid ∷ mpi strict ∷ []
material_kinds strict eddsa = oid ∷ mpi strict ∷ []
material_kinds strict x25519 = fixed 32 ∷ []
material_kinds strict x448 = fixed 56 ∷ []
material_kinds strict ed25519 = fixed 32 ∷ []
material_kinds strict ed448 = fixed 57 ∷ []
material_kinds strict opaque = whole ∷ []

abbrev pub material_grammar : ℕ → ℕ → Grammar
material_grammar v a = sequence (material_kinds (v == 6) (shape_of (key_algorithm_of a)))

-- in version 6 a count of the octets that follow, and then those
abbrev pub counted : ℕ → Grammar → Grammar
counted v next = if v == 6 then field count (λ _. next) else next

-- version, creation time, algorithm, in version 6 a count, the material; the integers of version 6
-- are strict
unfoldable pub key : Grammar
key =
    field version (λ v. field four (λ _. field octet (λ a.
    counted (amount v) (material_grammar (amount v) (amount a)))))

-- the fields of a key, as values
pub record KeyValue : Type 0 where
  pub version : ℕ
  pub created : ℕ
  pub algorithm : ℕ
  pub material : List Field

-- the fields that encode it; the count of version 6 is that of the material's octets
abbrev pub key_fields : KeyValue → List Field
key_fields v =
    small v.version ∷ wide v.created ∷ small v.algorithm
    ∷ (if v.version == 6 then wide (length (octets_of v.material)) ∷ v.material else v.material)

-- the octets are the key's, and nothing more
abbrev pub SpellsKey : KeyValue → List ℕ → Type 0
SpellsKey v o = Body key (key_fields v) o

-- this is the first fault of octets that aren't a key
abbrev pub KeyFault : List ℕ → BodyFault → Type 0
KeyFault o f = FirstFault (length o) key o f
