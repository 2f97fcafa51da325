-- Reading hashed octets back as a question: the trailer from the end, the signature's hashed part
-- by its length, the salt by the hash algorithm, the subject by the type.
use Rattle.std.specs.Prelude.{ℕ, ◌^◌, Bool, false, ◌&&◌, List, [], ◌∷◌, length, Option, Some}
use Rattle.std.specs.Prelude.{None, Result, Ok, Err, is_ok, nat_le, ◌==◌, if◌then◌else◌}
use Rattle.std.specs.Int.{w16, w32, from_be_bytes}
use Rattle.opgp_octets.specs.declared.fault.BodyFault.{BodyFault}
use Rattle.opgp_octets.specs.Reading.{number_at}
use Rattle.opgp_packet.specs.AttributeBody.{attribute}
use Rattle.opgp_packet.specs.FieldReading.{body_at}
use Rattle.opgp_packet.specs.Fields.{Field, amount}
use Rattle.opgp_packet.specs.KeyBody.{key}
use Rattle.opgp_hash.specs.QuestionValue.{QuestionValue, is_version, is_hash, salt_amount}
use Rattle.opgp_hash.specs.Reading.{◌>>=◌, front_at, end_at}
use Rattle.opgp_hash.specs.SubjectValue.{SubjectValue, binary, one, two, on_user_id, on_attribute}
use Rattle.opgp_hash.specs.SubjectValue.{is_on_content, is_on_key, is_on_subkey, is_certification}

-- a value if a test is true
abbrev pub checked : {A : Type 0} → Bool → A → Option A
checked test x = if test then Some x else None

-- a length of two octets in version 4 and of four in version 6, and what follows it
abbrev pub length_at : ℕ → List ℕ → Option (ℕ × List ℕ)
length_at version o = if version == 4 then number_at w16 o else number_at w32 o

-- ---- the subject

-- the fields are those of a key of this version
abbrev pub is_of : ℕ → Result (List Field) BodyFault → Bool
is_of version (Ok (x ∷ fields)) = amount x == version
is_of version (Ok []) = false
is_of version (Err f) = false

abbrev pub is_key : ℕ → List ℕ → Bool
is_key version body = is_of version (body_at key body)

abbrev pub is_attribute : List ℕ → Bool
is_attribute body = is_ok (body_at attribute body)

-- the octet before the length of a key's body
abbrev pub key_tag : ℕ → ℕ
key_tag version = if version == 4 then 0x99 else 0x9B

-- what follows an octet
abbrev pub behind : ℕ → List ℕ → Option (List ℕ)
behind tag [] = None
behind tag (x ∷ o) = if x == tag then Some o else None

-- as many octets as a length says, and what follows them
abbrev pub counted_at : Option (ℕ × List ℕ) → Option (List ℕ × List ℕ)
counted_at n = n >>= λ x. front_at x.0 x.1

-- the body of a key of this version, and what follows it
unfoldable pub key_at : ℕ → List ℕ → Option (List ℕ × List ℕ)
key_at version o =
    behind (key_tag version) o >>= λ r. counted_at (length_at version r)
    >>= λ x. checked (is_key version x.0) x

-- as many octets as a length of four octets says, and nothing after them
abbrev pub all_at : List ℕ → Option (List ℕ)
all_at o = number_at w32 o >>= λ x. checked (x.0 == length x.1) x.1

-- a user ID or an attribute
abbrev pub named_at : List ℕ → List ℕ → Option SubjectValue
named_at primary [] = None
named_at primary (x ∷ o) =
    if x == 0xB4 then (all_at o >>= λ id. Some (on_user_id primary id))
    else (if x == 0xD1 then (all_at o
    >>= λ body. checked (is_attribute body) (on_attribute primary body))
    else None)

-- a document's octets, as they are
abbrev pub content_at : List ℕ → Option SubjectValue
content_at o = checked (nat_le (length o) (2 ^ 56)) (binary o)

-- one key, and nothing after it
abbrev pub one_at : ℕ → List ℕ → Option SubjectValue
one_at version o = key_at version o >>= λ x. checked (length x.1 == 0) (one x.0)

-- two keys, and nothing after them
abbrev pub two_at : ℕ → List ℕ → Option SubjectValue
two_at version o =
    key_at version o >>= λ x. key_at version x.1
    >>= λ y. checked (length y.1 == 0) (two x.0 y.0)

-- the subject that signatures of this version and type are made over
unfoldable pub subject_at : ℕ → ℕ → List ℕ → Option SubjectValue
subject_at version kind o =
    if is_on_content kind then content_at o
    else (if is_on_key kind then one_at version o
    else (if is_on_subkey kind then two_at version o
    else (if is_certification kind then (key_at version o >>= λ x. named_at x.0 x.1)
    else None)))

-- ---- the front

pub record Front : Type 0 where
  pub kind : ℕ
  pub algorithm : ℕ
  pub hash : ℕ
  pub area : List ℕ

-- the hashed area after its length, and nothing after it
abbrev pub area_at : ℕ → List ℕ → Option (List ℕ)
area_at version o = length_at version o >>= λ x. checked (x.0 == length x.1) x.1

unfoldable pub fields_at : ℕ → List ℕ → Option Front
fields_at version (v ∷ kind ∷ algorithm ∷ hash ∷ o) =
    if (v == version) && is_hash version hash then (area_at version o >>= λ area.
    Some (record { kind = kind; algorithm = algorithm; hash = hash; area = area }))
    else None
fields_at version [] = None
fields_at version (v ∷ []) = None
fields_at version (v ∷ kind ∷ []) = None
fields_at version (v ∷ kind ∷ algorithm ∷ []) = None

-- ---- the trailer

pub record Trailer : Type 0 where
  pub version : ℕ
  pub count : ℕ

unfoldable pub trailer_at : List ℕ → Option Trailer
trailer_at (v ∷ x ∷ o) =
    if is_version v && (x == 0xFF) then Some (record { version = v; count = from_be_bytes w32 o })
    else None
trailer_at [] = None
trailer_at (v ∷ []) = None

-- ---- the question

abbrev pub opened : ℕ → Front → List ℕ × List ℕ → Option QuestionValue
opened version f x =
    subject_at version f.kind x.1 >>= λ subject. Some (record {
      version = version;
      salt = x.0;
      subject = subject;
      kind = f.kind;
      algorithm = f.algorithm;
      hash = f.hash;
      area = f.area;
    })

unfoldable pub question_at : List ℕ → Option QuestionValue
question_at o =
    end_at 6 o >>= λ x. trailer_at x.1 >>= λ t. end_at t.count x.0
    >>= λ y. fields_at t.version y.1 >>= λ f. front_at (salt_amount t.version f.hash) y.0
    >>= λ z. opened t.version f z
