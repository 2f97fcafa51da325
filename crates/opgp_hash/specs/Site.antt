-- Where in a certificate a signature is (RFC 9580, 5.2.1.9, 10.1).
use Rattle.std.specs.Prelude.{ℕ, Bool, not, ◌&&◌}
use Rattle.opgp_octets.specs.declared.signature_type.SignatureType.TheVariants as signature
use Rattle.opgp_hash.specs.declared.site.Site.{Site}
use Rattle.opgp_hash.specs.declared.site.Site.TheVariants.{Hung, Embedded}
use Rattle.opgp_hash.specs.SubjectValue.{SubjectValue, is_about, is_type}

-- A signature of this type is made over the subject and belongs at this site: a primary key binding
-- is embedded in the subkey binding, and nothing else is.
abbrev pub is_asked_at : Site → ℕ → SubjectValue → Bool
is_asked_at Hung kind subject =
    is_about kind subject && not (is_type signature.PrimaryKeyBinding kind)
is_asked_at Embedded kind subject =
    is_about kind subject && is_type signature.PrimaryKeyBinding kind
