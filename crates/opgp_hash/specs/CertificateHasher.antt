-- The state of a certificate's hasher that callers see.
use Rattle.opgp_hash.specs.Subject.{subject_value}
use Rattle.opgp_hash.specs.SubjectValue.{SubjectValue}
use Rattle.opgp_hash.specs.declared.certificate_hasher.CertificateHasher.{CertificateHasher}

-- its current subject, which the questions that it takes are over
abbrev pub hasher_subject : CertificateHasher → SubjectValue
hasher_subject h = subject_value h.subject
