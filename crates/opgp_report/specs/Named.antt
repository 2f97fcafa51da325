-- The issuer that a signature names, of any version (RFC 9580, 5.2.2, 5.2.3.12, 5.2.3.35).
use Rattle.opgp_packet.specs.SignatureBody.{SignatureValue, of_three}
use Rattle.opgp_report.specs.Left.{octets_at}
use Rattle.opgp_report.specs.Signer.{NameValue, by_id, issuer_of}

-- in version 3 its fifth field (5.2.2), in versions 4 and 6 as in a report
abbrev pub named_of : SignatureValue → NameValue
named_of (of_three fields) = by_id (octets_at fields 4)
named_of signature = issuer_of signature
