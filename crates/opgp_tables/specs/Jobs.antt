-- The table of a keyring's jobs: a row for each row of its report, in order, and the octets that
-- they point into.
use Rattle.std.specs.Prelude.{ℕ, ◌+◌, List, [], ◌∷◌, ◌++◌, length, map, drop, replicate}
use Rattle.std.specs.Prelude.{Option, Some, None, Result, Ok, Err}
use Rattle.std.specs.List.{flat_map}
use Rattle.opgp_octets.specs.declared.fault.BodyFault.{BodyFault}
use Rattle.opgp_octets.specs.declared.subpacket_kind.SubpacketKind.TheVariants as kind
use Rattle.opgp_packet.specs.Areas.{hashed_subs}
use Rattle.opgp_packet.specs.Fields.{Field}
use Rattle.opgp_packet.specs.Forms as form
use Rattle.opgp_packet.specs.SignatureBody.{SignatureValue, of_three, of_four, of_six, of_other}
use Rattle.opgp_packet.specs.SignatureBody.{signature_at}
use Rattle.opgp_packet.specs.Subpackets.{Sub}
use Rattle.opgp_packet.specs.SubView.{fields_of}
use Rattle.opgp_hash.specs.Digest.{digest_of, digest_octets, digest_size}
use Rattle.opgp_hash.specs.declared.digests.Digest.{Digest}
use Rattle.opgp_hash.specs.declared.fingerprints.Fingerprint.{Fingerprint}
use Rattle.opgp_hash.specs.declared.why.Why.{Why}
use Rattle.opgp_hash.specs.declared.why.Why.TheVariants.{Opaque, Kind, Misplaced, Version, Hash}
use Rattle.opgp_report.specs.declared.place.Place.{Place}
use Rattle.opgp_report.specs.declared.verifier.Verdict.{Verdict}
use Rattle.opgp_report.specs.declared.verifier.Verdict.TheVariants.{Good, Bad, Undecided}
use Rattle.opgp_report.specs.Asked.{Asked, PosedValue, posed_by}
use Rattle.opgp_report.specs.First.{print_of}
use Rattle.opgp_report.specs.Left.{left_in, left_verdict}
use Rattle.opgp_report.specs.Report.{keys_in}
use Rattle.opgp_report.specs.Named.{named_of}
use Rattle.opgp_report.specs.Signer.{NameValue, by_print, by_id, unnamed, signer_of}
use Rattle.opgp_report.specs.Standing.{Standing, standing_in}
use Rattle.opgp_keyring.specs.Keyring.{KeyringValue}
use Rattle.opgp_tables.specs.declared.job_row.Answered.{Answered}
use Rattle.opgp_tables.specs.declared.job_row.JobRow.{JobRow}
use Rattle.opgp_tables.specs.Parts.{number_at, two, values_of}
use Rattle.opgp_tables.specs.Room.{none, padded}

abbrev pub or_none : Option ℕ → ℕ
or_none (Some n) = n
or_none None = none

-- ---- what a signature says (RFC 9580, 5.2.2, 5.2.3)
abbrev pub version_in : SignatureValue → ℕ
version_in (of_three fields) = 3
version_in (of_four fields) = 4
version_in (of_six fields) = 6
version_in (of_other octets) = 0

abbrev pub kind_in : SignatureValue → ℕ
kind_in (of_three fields) = number_at fields 2
kind_in (of_four fields) = number_at fields 1
kind_in (of_six fields) = number_at fields 1
kind_in (of_other octets) = 0

abbrev pub algorithm_in : SignatureValue → ℕ
algorithm_in (of_three fields) = number_at fields 5
algorithm_in (of_four fields) = number_at fields 2
algorithm_in (of_six fields) = number_at fields 2
algorithm_in (of_other octets) = 0

abbrev pub hash_in : SignatureValue → ℕ
hash_in (of_three fields) = number_at fields 6
hash_in (of_four fields) = number_at fields 3
hash_in (of_six fields) = number_at fields 3
hash_in (of_other octets) = 0

abbrev pub octets_or_zeros : Option (List ℕ) → List ℕ
octets_or_zeros (Some octets) = octets
octets_or_zeros None = 0 ∷ 0 ∷ []

-- the creation time that a subpacket states (5.2.3.11)
abbrev pub time_in : Sub → Option ℕ
time_in s = fields_of kind.Created form.number s

abbrev pub at_most_one : Option ℕ → List ℕ
at_most_one (Some n) = n ∷ []
at_most_one None = []

abbrev pub times_in : List Sub → List ℕ
times_in subs = flat_map (λ s. at_most_one (time_in s)) subs

-- the one in the list, if there is one and no other
abbrev pub the_one : List ℕ → Option ℕ
the_one (n ∷ []) = Some n
the_one list = None

-- when it was made: in version 3 its fourth field, in versions 4 and 6 the one time in its hashed
-- area
abbrev pub created_in : SignatureValue → Option ℕ
created_in (of_three fields) = Some (number_at fields 3)
created_in signature = the_one (times_in (hashed_subs signature))

-- the fingerprint or the key ID that a name is
abbrev pub name_octets : NameValue → List ℕ
name_octets (by_print version octets) = octets
name_octets (by_id id) = id
name_octets unnamed = []

-- the one by which it names its issuer
abbrev pub issuer_in : SignatureValue → List ℕ
issuer_in signature = name_octets (named_of signature)

-- a time, or 0; and 1 if there is one
abbrev pub or_zero : Option ℕ → ℕ
or_zero (Some n) = n
or_zero None = 0

abbrev pub counted : Option ℕ → ℕ
counted (Some n) = 1
counted None = 0

-- what its algorithm made: the fields after the left octets, and in version 6 after the salt
abbrev pub made_in : SignatureValue → List Field
made_in (of_three fields) = drop 8 fields
made_in (of_four fields) = drop 7 fields
made_in (of_six fields) = drop 8 fields
made_in (of_other octets) = []

abbrev pub signature_parts : SignatureValue → List (List ℕ)
signature_parts v = two (values_of (made_in v))

-- and behind it the name of its issuer
abbrev pub said_parts : SignatureValue → List (List ℕ)
said_parts v = signature_parts v ++ issuer_in v ∷ []

-- ---- what is said of its question
abbrev pub why_number : Why → ℕ
why_number Opaque = 1
why_number Kind = 2
why_number Misplaced = 3
why_number Version = 4
why_number Hash = 5

abbrev pub bad_number : Verdict → ℕ
bad_number Good = 0
bad_number Bad = 1
bad_number Undecided = 0

-- the digest of what a signature hashes, and whether it differs from the left octets
abbrev pub digest_answer : SignatureValue → Digest → Answered
digest_answer v digest = record {
  why = 0;
  digest_size = digest_size digest;
  is_bad = bad_number (left_verdict (left_in v) (digest_octets digest));
  digest = padded 64 (digest_octets digest);
}

-- the number of the reason why it isn't hashed
abbrev pub why_answer : ℕ → Answered
why_answer number = record {
  why = number;
  digest_size = 0;
  is_bad = 0;
  digest = replicate 64 0;
}

abbrev pub answer_to : PosedValue → Answered
answer_to (Ok x) = digest_answer x.0 (digest_of x.1)
answer_to (Err why) = why_answer (why_number why)

-- what a row says of that
abbrev pub job_shown : JobRow → ℕ × List ℕ
job_shown row = (row.why, row.digest)

-- the same of a question
abbrev pub asked_shown : Asked → ℕ × List ℕ
asked_shown (Ok q) = (0, padded 64 (digest_octets (digest_of q)))
asked_shown (Err why) = (why_number why, replicate 64 0)

-- ---- rows
-- of embedded octets that aren't a signature
abbrev pub opaque_row : Place → ℕ → JobRow
opaque_row place at = record {
  certificate = place.certificate;
  component = or_none place.component;
  hang = place.hang;
  nested = or_none place.nested;
  signer = none;
  at = at;
  sizes = 0 ∷ 0 ∷ [];
  created = 0;
  why = why_number Opaque;
  version = 0;
  kind = 0;
  algorithm = 0;
  hash = 0;
  left = 0 ∷ 0 ∷ [];
  is_bad = 0;
  digest_size = 0;
  is_dated = 0;
  issuer_size = 0;
  digest = replicate 64 0;
  reserved = 0;
}

module _ (prints : List Fingerprint) where
  -- of a signature
  abbrev pub signature_row : Place → ℕ → SignatureValue → Answered → JobRow
  signature_row place at v answer = record {
    certificate = place.certificate;
    component = or_none place.component;
    hang = place.hang;
    nested = or_none place.nested;
    signer = or_none (signer_of prints v);
    at = at;
    sizes = map length (signature_parts v);
    created = or_zero (created_in v);
    why = answer.why;
    version = version_in v;
    kind = kind_in v;
    algorithm = algorithm_in v;
    hash = hash_in v;
    left = octets_or_zeros (left_in v);
    is_bad = answer.is_bad;
    digest_size = answer.digest_size;
    is_dated = counted (created_in v);
    issuer_size = length (issuer_in v);
    digest = answer.digest;
    reserved = 0;
  }

  abbrev pub row_read : Place → ℕ → Result SignatureValue BodyFault → PosedValue → JobRow
  row_read place at (Ok v) posed = signature_row place at v (answer_to posed)
  row_read place at (Err fault) posed = opaque_row place at

  abbrev pub job_row : ℕ → Standing → JobRow
  job_row at s = row_read s.place at (signature_at s.body) (posed_by s)

-- what its algorithm made, and its issuer's name; nothing if it isn't a signature
abbrev pub parts_read : Result SignatureValue BodyFault → List (List ℕ)
parts_read (Ok v) = said_parts v
parts_read (Err fault) = [] ∷ [] ∷ [] ∷ []

abbrev pub job_parts : Standing → List (List ℕ)
job_parts s = parts_read (signature_at s.body)

-- their sizes in a row
abbrev pub sizes_in : JobRow → List ℕ
sizes_in row = row.sizes ++ row.issuer_size ∷ []

abbrev pub job_octets : Standing → List ℕ
job_octets s = flat_map (λ o. o) (job_parts s)

-- ---- the table
-- the rows of signatures, whose octets stand here
abbrev pub jobs_from : List Fingerprint → ℕ → List Standing → List JobRow
jobs_from prints at [] = []
jobs_from prints at (s ∷ ss) =
    job_row prints at s ∷ jobs_from prints (at + length (job_octets s)) ss

abbrev pub prints_in : KeyringValue → List Fingerprint
prints_in r = map print_of (keys_in r)

abbrev pub job_rows : KeyringValue → List JobRow
job_rows r = jobs_from (prints_in r) 0 (standing_in r)

abbrev pub job_bytes : KeyringValue → List ℕ
job_bytes r = flat_map job_octets (standing_in r)
