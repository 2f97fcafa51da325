-- What the signatures of a keyring hash, in order (RFC 9580, 5.2.4).
use Rattle.std.specs.Prelude.{◌≡◌, ◌+◌, ◌<◌, List, length, map, Option, Some, None, Result, Ok, Err}
use Rattle.std.specs.Prelude.{slice_get}
use Rattle.std.specs.Option.{option_map}
use Rattle.opgp_octets.specs.declared.fault.BodyFault.{BodyFault}
use Rattle.opgp_packet.specs.SignatureBody.{SignatureValue, signature_at}
use Rattle.opgp_packet.specs.SigView.{sig_view_value}
use Rattle.opgp_packet.specs.declared.sig_view.SigView.{SigView}
use Rattle.opgp_hash.specs.declared.site.Site.{Site}
use Rattle.opgp_hash.specs.declared.why.Why.{Why}
use Rattle.opgp_hash.specs.declared.why.Why.TheVariants.{Opaque}
use Rattle.opgp_hash.specs.Asking.{ask_at_of}
use Rattle.opgp_hash.specs.declared.question.Question.{Question}
use Rattle.opgp_hash.specs.Question.{question_value}
use Rattle.opgp_hash.specs.QuestionValue.{QuestionValue}
use Rattle.opgp_hash.specs.SubjectValue.{SubjectValue}
use Rattle.opgp_keyring.specs.Keyring.{KeyringValue}
use Rattle.opgp_report.specs.declared.finding.Finder.{Finder}
use Rattle.opgp_report.specs.declared.met.Posed.{Posed}
use Rattle.opgp_report.specs.declared.met.Posed.TheVariants as posed
use Rattle.opgp_report.specs.Standing.{Standing, standing_in}

-- a question, or why the signature isn't hashed
abbrev pub Asked : Type 0
Asked = Result QuestionValue Why

-- a signature with its question, or why it isn't hashed
abbrev pub PosedValue : Type 0
PosedValue = Result (SignatureValue × QuestionValue) Why

abbrev pub asked_with : SignatureValue → Asked → PosedValue
asked_with v (Ok q) = Ok (v, q)
asked_with v (Err why) = Err why

abbrev pub question_of : PosedValue → Asked
question_of (Ok x) = Ok x.1
question_of (Err why) = Err why

-- what the signature in these octets hashes over a subject; nothing if they aren't a signature
abbrev pub posed_in : Site → SubjectValue → Result SignatureValue BodyFault → PosedValue
posed_in site subject (Ok v) = asked_with v (ask_at_of site v subject)
posed_in site subject (Err fault) = Err Opaque

abbrev pub posed_by : Standing → PosedValue
posed_by s = posed_in s.site s.subject (signature_at s.body)

abbrev pub asked_by : Standing → Asked
asked_by s = question_of (posed_by s)

-- what all signatures of a keyring hash
abbrev pub asked_of : KeyringValue → List Asked
asked_of r = map asked_by (standing_in r)

-- the question, if there is one
abbrev pub question_in : Option Asked → Option QuestionValue
question_in (Some (Ok q)) = Some q
question_in (Some (Err why)) = None
question_in None = None

-- ---- where the walk meets one
-- octets are met as the signature that they are, or as none
abbrev pub IsMet : Option SigView → Result SignatureValue BodyFault → Type 0
IsMet (Some view) read = read ≡ Ok (sig_view_value view)
IsMet None read = (fault : BodyFault) × (read ≡ Err fault)

abbrev pub posed_value : Posed → PosedValue
posed_value (posed.Question signature question) =
    Ok (sig_view_value signature, question_value question)
posed_value (posed.Nothing why) = Err why

-- ---- looking for one
-- the signature of that number stops it; after a list without it, that many fewer are left
abbrev pub Finds : Finder → List Standing → Result Finder (Option Question) → Type 0
Finds f list (Err found) = (f.left < length list)
    × (option_map (λ q. question_value q) found ≡
    question_in (slice_get (map asked_by list) f.left))
Finds f list (Ok g) = f.left ≡ length list + g.left
