-- What a revocation of a primary key hashes, wherever in its certificate it is (RFC 9580,
-- 5.2.1.11).
use Rattle.std.specs.Prelude.{◌≡◌, ℕ, ◌+◌, ◌<◌, ◌&&◌, if◌then◌else◌, List, length}
use Rattle.std.specs.Prelude.{Option, Some, None, is_none, Result, Ok, Err, slice_get}
use Rattle.std.specs.Option.{option_and_then, option_map}
use Rattle.opgp_octets.specs.declared.fault.BodyFault.{BodyFault}
use Rattle.opgp_packet.specs.SigView.{sig_view_value}
use Rattle.opgp_packet.specs.declared.sig_view.SigView.{SigView}
use Rattle.opgp_packet.specs.SignatureBody.{SignatureValue, signature_at}
use Rattle.opgp_hash.specs.Asking.{ask_at_of}
use Rattle.opgp_hash.specs.Question.{question_value}
use Rattle.opgp_hash.specs.QuestionValue.{QuestionValue}
use Rattle.opgp_hash.specs.SubjectValue.{SubjectValue, first_key, one}
use Rattle.opgp_hash.specs.declared.question.Question.{Question}
use Rattle.opgp_hash.specs.declared.site.Site.TheVariants.{Hung}
use Rattle.opgp_hash.specs.declared.why.Why.{Why}
use Rattle.opgp_keyring.specs.Keyring.{KeyringValue}
use Rattle.opgp_report.specs.Standing.{Standing, standing_in}
use Rattle.opgp_report.specs.declared.place.Place.{Place}
use Rattle.opgp_valid.specs.Told.{revokes_key, type_in}
use Rattle.opgp_valid.specs.declared.revocation.Finder.{Finder}

abbrev pub question_if : Result QuestionValue Why → Option QuestionValue
question_if (Ok q) = Some q
question_if (Err why) = None

-- over the primary key alone (5.2.4)
abbrev pub alone_in : Option (List ℕ) → SignatureValue → Option QuestionValue
alone_in None v = None
alone_in (Some primary) v = question_if (ask_at_of Hung v (one primary))

-- if it is a packet of its own, and of that type
abbrev pub revocation_by : Place → SubjectValue → SignatureValue → Option QuestionValue
revocation_by place subject v = if is_none place.nested && revokes_key (type_in v)
    then alone_in (first_key subject) v else None

abbrev pub revocation_read : Place → SubjectValue → Result SignatureValue BodyFault
    → Option QuestionValue
revocation_read place subject (Err fault) = None
revocation_read place subject (Ok v) = revocation_by place subject v

abbrev pub revocation_of : Standing → Option QuestionValue
revocation_of s = revocation_read s.place s.subject (signature_at s.body)

abbrev pub revocation_met : Place → SubjectValue → Option SigView → Option QuestionValue
revocation_met place subject None = None
revocation_met place subject (Some view) = revocation_by place subject (sig_view_value view)

-- in a row of a keyring's report
abbrev pub revocation_at : KeyringValue → ℕ → Option QuestionValue
revocation_at r row = option_and_then revocation_of (slice_get (standing_in r) row)

-- ---- looking for one
-- the signature of that number stops it; after a list without it, that many fewer are left
abbrev pub FindsRevocation : Finder → List Standing → Result Finder (Option Question) → Type 0
FindsRevocation f list (Err found) = (f.left < length list)
    × (option_map (λ q. question_value q) found
    ≡ option_and_then revocation_of (slice_get list f.left))
FindsRevocation f list (Ok g) = f.left ≡ length list + g.left
