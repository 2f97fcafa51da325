-- What a signature is made over (RFC 9580, 5.2.1, 5.2.4): a document, one key or two, a key with a
-- user ID or with a user attribute; keys and user attributes by the octets of their bodies.
use Rattle.std.specs.Prelude.{ℕ, ◌^◌, ◌≤◌, Bool, true, ◌&&◌, ◌||◌, List, ◌∷◌, length}
use Rattle.std.specs.Prelude.{◌==◌, nat_le, slice_index, Option, Some, None}
use Rattle.opgp_octets.specs.Octets.{IsOctets, IsBodySized}
use Rattle.opgp_octets.specs.SignatureType.{signature_type_number}
use Rattle.opgp_octets.specs.declared.signature_type.SignatureType.{SignatureType}
use Rattle.opgp_octets.specs.declared.signature_type.SignatureType.TheVariants as signature
use Rattle.opgp_packet.specs.Fields.{Field, small, Body}
use Rattle.opgp_packet.specs.AttributeBody.{attribute}
use Rattle.opgp_packet.specs.KeyBody.{key}

pub data SubjectValue : Type 0 where
  binary : List ℕ → SubjectValue
  one : List ℕ → SubjectValue
  two : List ℕ → List ℕ → SubjectValue
  on_user_id : List ℕ → List ℕ → SubjectValue
  on_attribute : List ℕ → List ℕ → SubjectValue

-- the key that is hashed first; a document has none
abbrev pub first_key : SubjectValue → Option (List ℕ)
first_key (binary content) = None
first_key (one key) = Some key
first_key (two primary subkey) = Some primary
first_key (on_user_id primary id) = Some primary
first_key (on_attribute primary body) = Some primary

-- ---- which types of signatures are made over which subject

-- a number is the number of this type
abbrev pub is_type : SignatureType → ℕ → Bool
is_type t kind = kind == signature_type_number t

-- a document (5.2.1.1)
abbrev pub is_on_content : ℕ → Bool
is_on_content kind = is_type signature.Binary kind

-- a key alone: a direct key signature, and a key revocation (5.2.1.10, 5.2.1.11)
abbrev pub is_on_key : ℕ → Bool
is_on_key kind = is_type signature.DirectKey kind || is_type signature.KeyRevocation kind

-- a primary key and a subkey: a subkey binding, a primary key binding, and a subkey revocation
-- (5.2.1.8, 5.2.1.9, 5.2.1.12)
abbrev pub is_on_subkey : ℕ → Bool
is_on_subkey kind = is_type signature.SubkeyBinding kind
    || (is_type signature.PrimaryKeyBinding kind || is_type signature.SubkeyRevocation kind)

-- a key and a user ID or user attribute: four certifications, and their revocation (5.2.1.4 to
-- 5.2.1.7, 5.2.1.13)
abbrev pub is_certification : ℕ → Bool
is_certification kind =
    is_type signature.GenericCertification kind
    || (is_type signature.PersonaCertification kind
    || (is_type signature.CasualCertification kind
    || (is_type signature.PositiveCertification kind
    || is_type signature.CertificationRevocation kind)))

abbrev pub is_about : ℕ → SubjectValue → Bool
is_about kind (binary content) = is_on_content kind
is_about kind (one body) = is_on_key kind
is_about kind (two primary subkey) = is_on_subkey kind
is_about kind (on_user_id primary id) = is_certification kind
is_about kind (on_attribute primary body) = is_certification kind

-- ---- which subjects are allowed

-- the octets are the body of a key of this version
pub record IsKeyOf (version : ℕ) (body : List ℕ) : Type 0 where
  pub fields : List Field
  pub spelled : Body key (small version ∷ fields) body
  pub octets : IsOctets body
  pub most : IsBodySized body

-- the octets are the body of a user attribute
pub record IsAttribute (body : List ℕ) : Type 0 where
  pub fields : List Field
  pub spelled : Body attribute fields body
  pub octets : IsOctets body
  pub most : IsBodySized body

-- a document of at most 2^56 octets, a user ID of at most 2^32 - 1
abbrev pub IsContent : List ℕ → Type 0
IsContent content = IsOctets content × (length content ≤ 2 ^ 56)

abbrev pub IsUserId : List ℕ → Type 0
IsUserId id = IsOctets id × IsBodySized id

-- its keys have this version, and its lengths fit their fields
abbrev pub IsSubject : ℕ → SubjectValue → Type 0
IsSubject version (binary content) = IsContent content
IsSubject version (one body) = IsKeyOf version body
IsSubject version (two primary subkey) = IsKeyOf version primary × IsKeyOf version subkey
IsSubject version (on_user_id primary id) = IsKeyOf version primary × IsUserId id
IsSubject version (on_attribute primary body) = IsKeyOf version primary × IsAttribute body

-- ---- as tests

-- the number that begins a body
abbrev pub version_of : List ℕ → ℕ
version_of body = slice_index body 0

-- its keys have this version
abbrev pub are_keys_of : ℕ → SubjectValue → Bool
are_keys_of version (binary content) = true
are_keys_of version (one body) = version_of body == version
are_keys_of version (two primary subkey) =
    (version_of primary == version) && (version_of subkey == version)
are_keys_of version (on_user_id primary id) = version_of primary == version
are_keys_of version (on_attribute primary body) = version_of primary == version

-- a document and a user ID are not too long
abbrev pub is_within : SubjectValue → Bool
is_within (binary content) = nat_le (length content) (2 ^ 56)
is_within (one body) = true
is_within (two primary subkey) = true
is_within (on_user_id primary id) = nat_le (length id) 4294967295
is_within (on_attribute primary body) = true
