-- The hashed subpackets of a signature.
use Rattle.std.specs.Prelude.{List, Option, Some, None}
use Rattle.opgp.specs.Packet.AreaReading.{subs_in}
use Rattle.opgp.specs.Packet.Subpackets.{Sub}
use Rattle.opgp.specs.Packet.declared.sig_view.SigView.{SigView}
use Rattle.opgp.specs.Packet.declared.sig_view.SigView.TheVariants.{Three, Four, Six, Other}
use Rattle.opgp.specs.Packet.AreasValue.{areas_value}

-- those of versions 4 and 6 (RFC 9580, 5.2.3)
abbrev pub hashed_subs : SigView → Option (List Sub)
hashed_subs (Three s) = None
hashed_subs (Four s) = Some (subs_in (areas_value s).hashed)
hashed_subs (Six s) = Some (subs_in (areas_value s).hashed)
hashed_subs (Other s) = None
