-- What is hashed for a signature over a subject, or why nothing is.
use Rattle.std.specs.Prelude.{ℕ, Bool, true, false, not, ◌&&◌, ◌||◌, [], ◌∷◌, Option, Some, None}
use Rattle.std.specs.Prelude.{Result, Ok, Err, ◌==◌, find}
use Rattle.opgp_packet.specs.SignatureBody.{SignatureValue}
use Rattle.opgp_hash.specs.declared.site.Site.{Site}
use Rattle.opgp_hash.specs.declared.why.Why.{Why}
use Rattle.opgp_hash.specs.declared.why.Why.TheVariants.{Opaque, Kind, Misplaced, Version, Hash}
use Rattle.opgp_hash.specs.QuestionValue.{QuestionValue, is_hash}
use Rattle.opgp_hash.specs.SignedValue.{SignedValue, signed_of}
use Rattle.opgp_hash.specs.Site.{is_asked_at}
use Rattle.opgp_hash.specs.SubjectValue.{SubjectValue, binary, one, two, on_user_id, on_attribute}
use Rattle.opgp_hash.specs.SubjectValue.{is_on_content, is_on_key, is_on_subkey, is_certification}
use Rattle.opgp_hash.specs.SubjectValue.{is_about, are_keys_of}

-- the types that are made over any subject at all
abbrev pub is_kind : ℕ → Bool
is_kind kind =
    is_on_content kind || (is_on_key kind || (is_on_subkey kind || is_certification kind))

abbrev pub is_one : SubjectValue → Bool
is_one (binary content) = false
is_one (one key) = true
is_one (two primary subkey) = false
is_one (on_user_id primary id) = false
is_one (on_attribute primary body) = false

-- each reason why a signature of version 4 or 6 may not be hashed, given whether its type belongs
-- there; a certification can't be revoked on a key alone
abbrev pub applies : Bool → SignedValue → SubjectValue → Why → Bool
applies stands s subject Opaque = false
applies stands s subject Kind = not (is_kind s.kind) || ((s.kind == 0x30) && is_one subject)
applies stands s subject Misplaced = not stands
applies stands s subject Version = not (are_keys_of s.version subject)
applies stands s subject Hash = not (is_hash s.version s.hash)

-- the first that applies
abbrev pub why_not : Bool → SignedValue → SubjectValue → Option Why
why_not stands s subject =
    find (applies stands s subject) (Kind ∷ Misplaced ∷ Version ∷ Hash ∷ [])

-- the question, if no reason applies
abbrev pub asked : SignedValue → SubjectValue → Option Why → Result QuestionValue Why
asked s subject (Some why) = Err why
asked s subject None = Ok (record {
  version = s.version;
  salt = s.salt;
  subject = subject;
  kind = s.kind;
  algorithm = s.algorithm;
  hash = s.hash;
  area = s.area;
})

-- which types of signatures are made over which subject
abbrev pub Table : Type 0
Table = ℕ → SubjectValue → Bool

-- what is hashed, by such a table; nothing for a signature of another version than 4 and 6
abbrev pub asked_by : Table → Option SignedValue → SubjectValue → Result QuestionValue Why
asked_by table None subject = Err Opaque
asked_by table (Some s) subject = asked s subject (why_not (table s.kind subject) s subject)

-- what is hashed for a signature over a subject
abbrev pub ask_of : SignatureValue → SubjectValue → Result QuestionValue Why
ask_of signature subject = asked_by is_about (signed_of signature) subject

-- what is hashed for it over a subject at a site in a certificate
abbrev pub ask_at_of : Site → SignatureValue → SubjectValue → Result QuestionValue Why
ask_at_of site signature subject = asked_by (is_asked_at site) (signed_of signature) subject
