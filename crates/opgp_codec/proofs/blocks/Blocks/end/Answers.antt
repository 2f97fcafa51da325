use Rattle.std.proofs.Common.{◌∷◌, ◌++◌, [], Option, refl, sym, subst}
use Rattle.opgp_codec.specs.declared.found.Opening.{Opening}
use Rattle.opgp_codec.specs.Found.{opened}
use Rattle.opgp_codec.specs.Blocks.{Framed}
use Rattle.opgp_codec.proofs.Blocking.{kept}
use Rattle.opgp_codec.proofs.blocks.Blocks.end.Goals as goal

pub returns-clause-framed : goal.returns-clause-framed
returns-clause-framed c accepts limits done label octets items f =
    subst (λ (o : Option Opening). Framed accepts limits c.close.new.self (done ++ record { label = label; octets = octets } ∷ []) label [] (items ++ opened o)) (sym c.close.ensures.opening)
    (c.close.ensures.framed accepts limits done label octets (items ++ opened c.tell.new.self.opening)
    (c.tell.ensures.framed accepts limits done label octets items
    (kept accepts limits c.args.self.now _ done label octets items (record { accepts = refl; limits = refl; label = refl; number = refl; fault = refl }) refl refl refl f)))
