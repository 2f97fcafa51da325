use Rattle.std.proofs.Common.{refl, ap, []}
use Rattle.opgp_armor.specs.declared.section.Section.TheVariants.{Outside}
use Rattle.opgp_armor.specs.Letters.{Pending}
use Rattle.opgp_armor.specs.Machine.{State}
use Rattle.opgp_armor.proofs.Octets.{each_octet}
use Rattle.opgp_armor.proofs.Feeding.{going_first}
use Rattle.opgp_armor.proofs.reader.Dearmor.new.Goals as goal

outside : Pending → State
outside p = record { section = Outside; pending = p }

pub returns-clause-fed : goal.returns-clause-fed
unfolding outside
returns-clause-fed c = record {
  sound = refl;
  octets = each_octet [] tt;
  count = refl;
  stands = going_first _ (ap outside c.none.ensures) refl c.new.ensures.items refl refl refl;
}
