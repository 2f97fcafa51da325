-- The values of names of issuers.
use Rattle.opgp_hash.specs.Fingerprint.{print_octets, print_version}
use Rattle.opgp_report.specs.declared.issuer_name.IssuerName.{IssuerName}
use Rattle.opgp_report.specs.declared.issuer_name.IssuerName.TheVariants.{Print, Id, Unnamed}
use Rattle.opgp_report.specs.Signer.{NameValue, by_print, by_id, unnamed}

abbrev pub name_value : IssuerName → NameValue
name_value (Print print) = by_print (print_version print) (print_octets print)
name_value (Id id) = by_id id.0
name_value Unnamed = unnamed
