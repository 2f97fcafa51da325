-- A question is posed where there is one.
use Rattle.std.proofs.Common.{◌≡◌, MatchOption, Option, Some, None, Result, Ok, Err, is_ok, refl, ap, sym}
use Rattle.std.specs.Bool.{⊤}
use Rattle.opgp_octets.specs.declared.fault.BodyFault.{BodyFault}
use Rattle.opgp_packet.specs.SignatureBody.{SignatureValue}
use Rattle.opgp_packet.specs.SigView.{sig_view_value}
use Rattle.opgp_packet.specs.declared.sig_view.SigView.{SigView}
use Rattle.opgp_hash.specs.Asking.{ask_at_of}
use Rattle.opgp_hash.specs.SubjectValue.{SubjectValue}
use Rattle.opgp_hash.specs.declared.site.Site.{Site}
use Rattle.opgp_report.specs.Asked.{Asked, IsMet, PosedValue, asked_with, posed_in}

same_ok : (v : SignatureValue) (r : Asked) (p : PosedValue) → asked_with v r ≡ p → is_ok p ≡ is_ok r
same_ok v (Ok q) p e = ap is_ok (sym e)
same_ok v (Err why) p e = ap is_ok (sym e)

pub hashed_as : (site : Site) (subject : SubjectValue) (o : Option SigView) (p : PosedValue) → ((read : Result SignatureValue BodyFault) → IsMet o read → posed_in site subject read ≡ p) → MatchOption o ⊤ (λ view. is_ok p ≡ is_ok (ask_at_of site (sig_view_value view) subject))
hashed_as site subject None p h = tt
hashed_as site subject (Some view) p h = same_ok (sig_view_value view) (ask_at_of site (sig_view_value view) subject) p (h (Ok (sig_view_value view)) refl)
