-- The octets that a signature hashes, field by field (RFC 9580, 5.2.4; each part has the standard's
-- rule beside it).
use Rattle.std.specs.Prelude.{ℕ, List, [], ◌∷◌, ◌++◌, length, ◌==◌, if◌then◌else◌}
use Rattle.std.specs.Int.{w16, w32, to_be_bytes}
use Rattle.opgp_hash.specs.Hashed.{front_hashed}
use Rattle.opgp_hash.specs.QuestionValue.{QuestionValue}
use Rattle.opgp_hash.specs.SubjectValue.{SubjectValue, binary, one, two, on_user_id, on_attribute}
use Rattle.opgp_explain.specs.Area.{area_fields}
use Rattle.opgp_explain.specs.Field.{FieldValue, ◌is◌}
use Rattle.opgp_explain.specs.Key.{key_fields}
use Rattle.opgp_explain.specs.declared.meaning.Meaning.{Meaning}
use Rattle.opgp_explain.specs.declared.meaning.Meaning.TheVariants as meaning
use Rattle.opgp_explain.specs.declared.meaning.Role.TheVariants.{Primary, Subkey}
use Rattle.opgp_explain.specs.declared.meaning.BodyPart.{BodyPart}
use Rattle.opgp_explain.specs.declared.meaning.BodyPart.TheVariants as body
use Rattle.opgp_explain.specs.declared.meaning.SignaturePart.TheVariants as signature
use Rattle.opgp_explain.specs.declared.meaning.TrailerPart.TheVariants as trailer

-- A body behind an octet and its length in four: B4 for a user ID (5.11), D1 for a user attribute
-- (5.12).
abbrev pub body_fields : (BodyPart → Meaning) → ℕ → List ℕ → List FieldValue
body_fields part prefix o =
    (part body.Prefix is (prefix ∷ [])) ∷ (part body.Length is to_be_bytes w32 (length o))
    ∷ (part body.Body is o) ∷ []

-- The signed data: a document as it is; a key; a primary key and a subkey; a primary key and a user
-- ID or user attribute.
abbrev pub subject_fields : ℕ → SubjectValue → List FieldValue
subject_fields version (binary content) = (meaning.Content is content) ∷ []
subject_fields version (one primary) = key_fields Primary version primary
subject_fields version (two primary subkey) =
    key_fields Primary version primary ++ key_fields Subkey version subkey
subject_fields version (on_user_id primary id) =
    key_fields Primary version primary ++ body_fields meaning.UserId 0xB4 id
subject_fields version (on_attribute primary o) =
    key_fields Primary version primary ++ body_fields meaning.Attribute 0xD1 o

-- The signature's own body up to the hashed area: version, type, algorithms for the key and for the
-- hash, the length of the area in two octets, in version 6 in four (5.2.3).
abbrev pub front_fields : QuestionValue → List FieldValue
front_fields q =
    (meaning.Signature signature.Version is (q.version ∷ []))
    ∷ (meaning.Signature signature.Type is (q.kind ∷ []))
    ∷ (meaning.Signature signature.KeyAlgorithm is (q.algorithm ∷ []))
    ∷ (meaning.Signature signature.HashAlgorithm is (q.hash ∷ []))
    ∷ (meaning.Signature signature.AreaLength is
    (if q.version == 4 then to_be_bytes w16 (length q.area)
    else to_be_bytes w32 (length q.area))) ∷ []

-- The trailer: the version again, FF, and how many octets the signature's own body has up to the
-- end of the hashed area.
abbrev pub trailer_fields : ℕ → ℕ → List FieldValue
trailer_fields version n =
    (meaning.Trailer trailer.Version is (version ∷ []))
    ∷ (meaning.Trailer trailer.Marker is (0xFF ∷ []))
    ∷ (meaning.Trailer trailer.Length is to_be_bytes w32 n) ∷ []

-- In version 6 the salt comes before everything else.
abbrev pub salt_fields : ℕ → List ℕ → List FieldValue
salt_fields version salt = if version == 4 then [] else (meaning.Salt is salt) ∷ []

abbrev pub fields_of : QuestionValue → List FieldValue
fields_of q =
    salt_fields q.version q.salt ++ subject_fields q.version q.subject ++ front_fields q
    ++ area_fields q.area ++ trailer_fields q.version (length (front_hashed q))
