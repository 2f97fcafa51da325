use Rattle.std.proofs.Common.{refl, sym, ◌∙◌}
use Rattle.opgp_codec.proofs.Blocking.{none_is, told}
use Rattle.opgp_codec.proofs.blocks.Blocks.tell.Goals as goal

pub returns-clause-framed : goal.returns-clause-framed
returns-clause-framed c accepts limits done label octets items f =
    told accepts limits c.args.self.now _ done label octets items c.fits.result (record { accepts = refl; limits = refl; label = refl; number = refl; fault = refl }) refl refl (none_is _ (sym c.is_some.ensures ∙ c.if-is_some.false)) c.if-self.false refl c.fits.ensures f
