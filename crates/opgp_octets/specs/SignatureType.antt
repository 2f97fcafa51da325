-- The types of signatures (RFC 9580, 5.2.1).
use Rattle.std.specs.Prelude.{ℕ, List, [], ◌∷◌, codes}
use Rattle.opgp_octets.specs.declared.signature_type.SignatureType.{SignatureType}
use Rattle.opgp_octets.specs.declared.signature_type.SignatureType.TheVariants as signature
use Rattle.opgp_octets.specs.Rows.{numbered}

-- the number and the name of each
abbrev pub signature_type_row : SignatureType → ℕ × List ℕ
signature_type_row signature.Binary = (0, codes "Binary Signature")
signature_type_row signature.Text = (1, codes "Text Signature")
signature_type_row signature.Standalone = (2, codes "Standalone Signature")
signature_type_row signature.GenericCertification = (16, codes "Generic Certification Signature")
signature_type_row signature.PersonaCertification = (17, codes "Persona Certification Signature")
signature_type_row signature.CasualCertification = (18, codes "Casual Certification Signature")
signature_type_row signature.PositiveCertification = (19, codes "Positive Certification Signature")
signature_type_row signature.SubkeyBinding = (24, codes "Subkey Binding Signature")
signature_type_row signature.PrimaryKeyBinding = (25, codes "Primary Key Binding Signature")
signature_type_row signature.DirectKey = (31, codes "Direct Key Signature")
signature_type_row signature.KeyRevocation = (32, codes "Key Revocation Signature")
signature_type_row signature.SubkeyRevocation = (40, codes "Subkey Revocation Signature")
signature_type_row signature.CertificationRevocation =
    (48, codes "Certification Revocation Signature")
signature_type_row signature.Timestamp = (64, codes "Timestamp Signature")
signature_type_row signature.ThirdPartyConfirmation =
    (80, codes "Third-Party Confirmation Signature")
signature_type_row (signature.Other n) = (n, codes "unknown")

abbrev pub signature_type_number : SignatureType → ℕ
signature_type_number x = (signature_type_row x).0

unfoldable pub signature_type_name : SignatureType → List ℕ
signature_type_name x = (signature_type_row x).1

-- what a number stands for
unfoldable pub signature_type_of : ℕ → SignatureType
signature_type_of n =
    numbered signature_type_number n (signature.Other n)
    (signature.Binary ∷ signature.Text ∷ signature.Standalone ∷ signature.GenericCertification
    ∷ signature.PersonaCertification ∷ signature.CasualCertification
    ∷ signature.PositiveCertification ∷ signature.SubkeyBinding ∷ signature.PrimaryKeyBinding
    ∷ signature.DirectKey ∷ signature.KeyRevocation ∷ signature.SubkeyRevocation
    ∷ signature.CertificationRevocation ∷ signature.Timestamp ∷ signature.ThirdPartyConfirmation
    ∷ [])
