-- The octets of the fields are the hashed octets.
use Rattle.std.proofs.Common.{◌≡◌, ◌↔◌, ℕ, ◌==◌, if◌then◌else◌, true, false, Bool, List, [], ◌∷◌, ◌++◌, length, take, drop, Ok, unwrap_or, refl, sym, ap, ◌∙◌, append_assoc}
use Rattle.std.specs.Int.{w16, w32, to_be_bytes}
use Rattle.std.proofs.lemmas.List.{append-nil, nil_from_length, take-append-drop}
use Rattle.opgp_octets.specs.HashAlgorithm.{hash_algorithm_of, salt_size}
use Rattle.opgp_octets.specs.Octets.{IsOctets}
use Rattle.opgp_packet.specs.AreaReading.{area_at}
use Rattle.opgp_packet.specs.Subpackets.{Sub, Area}
use Rattle.opgp_hash.specs.Fingerprint.{four_hashed, six_hashed}
use Rattle.opgp_hash.specs.Hashed.{key_hashed, id_hashed, attribute_hashed, subject_hashed, front_hashed, trailer_hashed, hashed}
use Rattle.opgp_hash.specs.QuestionValue.{QuestionValue, IsQuestion}
use Rattle.opgp_hash.specs.SubjectValue.{SubjectValue, binary, one, two, on_user_id, on_attribute}
use Rattle.opgp_explain.specs.Area.{area_fields}
use Rattle.opgp_explain.specs.Field.{FieldValue, ◌is◌, octets_of}
use Rattle.opgp_explain.specs.Fields.{body_fields, subject_fields, front_fields, trailer_fields, salt_fields, fields_of}
use Rattle.opgp_explain.specs.Key.{key_sizes, cut, key_front, key_fields}
use Rattle.opgp_explain.specs.declared.meaning.Meaning.{Meaning}
use Rattle.opgp_explain.specs.declared.meaning.Role.{Role}
use Rattle.opgp_explain.specs.declared.meaning.Role.TheVariants.{Primary, Subkey}
use Rattle.opgp_explain.specs.declared.meaning.KeyPart.{KeyPart}
use Rattle.opgp_explain.specs.declared.meaning.KeyPart.TheVariants as key
use Rattle.opgp_explain.specs.declared.meaning.SignaturePart.TheVariants as signature
use Rattle.opgp_explain.specs.declared.meaning.BodyPart.{BodyPart}
use Rattle.opgp_explain.specs.declared.meaning.Meaning.TheVariants as meaning
use Rattle.opgp_explain.proofs.Areas.{area_told}
use Rattle.opgp_explain.proofs.Told.{octets_append}

-- two parts whose octets are known
pub both : (xs ys : List FieldValue) (o p : List ℕ) → octets_of xs ≡ o → octets_of ys ≡ p → octets_of (xs ++ ys) ≡ o ++ p
both xs ys o p e f = octets_append xs ys ∙ ap (λ (l : List ℕ). l ++ octets_of ys) e ∙ ap (λ (l : List ℕ). o ++ l) f

-- ---- keys
cut_told : (role : Role) (sizes : List (KeyPart × ℕ)) (o : List ℕ) → octets_of (cut role sizes o) ≡ o
cut_told role [] o = append-nil o
cut_told role (x ∷ sizes) o = ap (λ (l : List ℕ). take x.1 o ++ l) (cut_told role sizes (drop x.1 o)) ∙ take-append-drop x.1 o

key_told_by : (role : Role) (body : List ℕ) (four : Bool) → octets_of (
    (if four
    then (meaning.Key role key.Prefix is (0x99 ∷ [])) ∷ (meaning.Key role key.Length is to_be_bytes w16 (length body)) ∷ []
    else (meaning.Key role key.Prefix is (0x9B ∷ [])) ∷ (meaning.Key role key.Length is to_be_bytes w32 (length body)) ∷ [])
    ++ cut role (if four then (key.Version, 1) ∷ (key.Created, 4) ∷ (key.Algorithm, 1) ∷ []
    else (key.Version, 1) ∷ (key.Created, 4) ∷ (key.Algorithm, 1) ∷ (key.MaterialLength, 4) ∷ []) body)
    ≡ (if four then four_hashed body else six_hashed body)
key_told_by role body true = both (key_front role 4 body) (cut role (key_sizes 4) body) (0x99 ∷ to_be_bytes w16 (length body)) body (ap (λ (l : List ℕ). 0x99 ∷ l) (append-nil (to_be_bytes w16 (length body)))) (cut_told role (key_sizes 4) body)
key_told_by role body false = both (key_front role 6 body) (cut role (key_sizes 6) body) (0x9B ∷ to_be_bytes w32 (length body)) body (ap (λ (l : List ℕ). 0x9B ∷ l) (append-nil (to_be_bytes w32 (length body)))) (cut_told role (key_sizes 6) body)

key_told : (role : Role) (version : ℕ) (body : List ℕ) → octets_of (key_fields role version body) ≡ key_hashed version body
key_told role version body = key_told_by role body (version == 4)

-- ---- user IDs and attributes
body_told : (part : BodyPart → Meaning) (prefix : ℕ) (o : List ℕ) → octets_of (body_fields part prefix o) ≡ (prefix ∷ to_be_bytes w32 (length o)) ++ o
body_told part prefix o = ap (λ (l : List ℕ). prefix ∷ to_be_bytes w32 (length o) ++ l) (append-nil o)

subject_told : (version : ℕ) (s : SubjectValue) → octets_of (subject_fields version s) ≡ subject_hashed version s
subject_told version (binary content) = append-nil content
subject_told version (one primary) = key_told Primary version primary
subject_told version (two primary subkey) = both (key_fields Primary version primary) (key_fields Subkey version subkey) (key_hashed version primary) (key_hashed version subkey) (key_told Primary version primary) (key_told Subkey version subkey)
subject_told version (on_user_id primary id) = both (key_fields Primary version primary) (body_fields meaning.UserId 0xB4 id) (key_hashed version primary) (id_hashed id) (key_told Primary version primary) (body_told meaning.UserId 0xB4 id)
subject_told version (on_attribute primary o) = both (key_fields Primary version primary) (body_fields meaning.Attribute 0xD1 o) (key_hashed version primary) (attribute_hashed o) (key_told Primary version primary) (body_told meaning.Attribute 0xD1 o)

-- ---- the signature's own fields, and all of them
front_told_by : (q : QuestionValue) (four : Bool) → octets_of (
    (meaning.Signature signature.Version is (q.version ∷ []))
    ∷ (meaning.Signature signature.Type is (q.kind ∷ []))
    ∷ (meaning.Signature signature.KeyAlgorithm is (q.algorithm ∷ []))
    ∷ (meaning.Signature signature.HashAlgorithm is (q.hash ∷ []))
    ∷ (meaning.Signature signature.AreaLength is
    (if four then to_be_bytes w16 (length q.area) else to_be_bytes w32 (length q.area))) ∷ []) ++ q.area
    ≡ (q.version ∷ q.kind ∷ q.algorithm ∷ q.hash ∷ []) ++ (if four then to_be_bytes w16 (length q.area) ++ q.area
    else to_be_bytes w32 (length q.area) ++ q.area)
front_told_by q true = ap (λ (l : List ℕ). (q.version ∷ q.kind ∷ q.algorithm ∷ q.hash ∷ []) ++ (l ++ q.area)) (append-nil (to_be_bytes w16 (length q.area)))
front_told_by q false = ap (λ (l : List ℕ). (q.version ∷ q.kind ∷ q.algorithm ∷ q.hash ∷ []) ++ (l ++ q.area)) (append-nil (to_be_bytes w32 (length q.area)))

front_told : (q : QuestionValue) → octets_of (front_fields q) ++ q.area ≡ front_hashed q
front_told q = front_told_by q (q.version == 4)

trailer_told : (version n : ℕ) → octets_of (trailer_fields version n) ≡ trailer_hashed version n
trailer_told version n = ap (λ (l : List ℕ). version ∷ 0xFF ∷ l) (append-nil (to_be_bytes w32 n))

salt_told_by : (salt : List ℕ) (four : Bool) → (four ≡ true → salt ≡ []) → octets_of (if four then [] else (meaning.Salt is salt) ∷ []) ≡ salt
salt_told_by salt true none = sym (none refl)
salt_told_by salt false none = append-nil salt

no_salt : (q : QuestionValue) → IsQuestion q → (q.version == 4) ≡ true → q.salt ≡ []
no_salt q fits h = nil_from_length q.salt (fits.salt ∙ ap (λ (b : Bool). if b then 0 else unwrap_or (salt_size (hash_algorithm_of q.hash)) 0) h)

pub fields_whole : ((end : ℕ) (subs : List Sub) (o : List ℕ) → IsOctets o → (area_at end o ≡ Ok subs) ↔ Area subs o) → (q : QuestionValue) → IsQuestion q → octets_of (fields_of q) ≡ hashed q
fields_whole law q fits =
    let n = length (front_hashed q) in
    let salt = salt_told_by q.salt (q.version == 4) (no_salt q fits) in
    let subject = subject_told q.version q.subject in
    let area = area_told law q.area fits.area_octets in
    let trailer = trailer_told q.version n in
    let signed : List ℕ = q.salt ++ subject_hashed q.version q.subject in
    let signed_fields : List FieldValue = salt_fields q.version q.salt ++ subject_fields q.version q.subject in
    let front : octets_of (signed_fields ++ front_fields q) ≡ signed ++ octets_of (front_fields q)
    = both signed_fields (front_fields q) signed (octets_of (front_fields q))
    (both (salt_fields q.version q.salt) (subject_fields q.version q.subject) q.salt (subject_hashed q.version q.subject) salt subject) refl in
    let body : octets_of (signed_fields ++ front_fields q ++ area_fields q.area) ≡ signed ++ front_hashed q
    = both (signed_fields ++ front_fields q) (area_fields q.area) (signed ++ octets_of (front_fields q)) q.area front area
    ∙ append_assoc signed (octets_of (front_fields q)) q.area
    ∙ ap (λ (l : List ℕ). signed ++ l) (front_told q) in
    both (signed_fields ++ front_fields q ++ area_fields q.area) (trailer_fields q.version n) (signed ++ front_hashed q) (trailer_hashed q.version n) body trailer
