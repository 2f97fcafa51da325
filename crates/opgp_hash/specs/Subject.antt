-- The value of a subject.
use Rattle.opgp_packet.specs.Parsed.{body_octets}
use Rattle.opgp_hash.specs.declared.subject.Subject.{Subject}
use Rattle.opgp_hash.specs.declared.subject.Subject.TheVariants as subject
use Rattle.opgp_hash.specs.SubjectValue.{SubjectValue, binary, one, two, on_user_id, on_attribute}

abbrev pub subject_value : Subject → SubjectValue
subject_value (subject.Binary content) = binary content.now
subject_value (subject.One key) = one (body_octets key)
subject_value (subject.Two primary subkey) = two (body_octets primary) (body_octets subkey)
subject_value (subject.OnUserId primary id) = on_user_id (body_octets primary) id.now
subject_value (subject.OnAttribute primary attribute) =
    on_attribute (body_octets primary) (body_octets attribute)
