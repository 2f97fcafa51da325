use Rattle.std.proofs.Common.{◌++◌, List, map, refl, sym, ap, subst, append_assoc, Option}
use Rattle.opgp_keyring.specs.Composition.{Item, of_packet}
use Rattle.opgp_codec.specs.declared.found.Opening.{Opening}
use Rattle.opgp_codec.specs.Found.{opened}
use Rattle.opgp_codec.specs.Blocks.{Framed}
use Rattle.opgp_codec.proofs.Blocking.{kept}
use Rattle.opgp_codec.proofs.blocks.Blocks.next.Goals as goal

pub returns-clause-framed : goal.returns-clause-framed
returns-clause-framed c =
    let r = c.in_ok-n.ensures.framed in
    let all : List Item = opened c.tell.new.self.opening ++ map of_packet r.0 in (
      all,
      (r.0, r.1, ap (λ (o : Option Opening). opened o ++ map of_packet r.0) (sym c.in_ok-n.ensures.opening)),
      λ accepts limits done label given items f.
          subst (Framed accepts limits c.find.new.self done label _) (append_assoc items (opened c.tell.new.self.opening) (map of_packet r.0))
          (r.2 accepts limits done label given (items ++ opened c.tell.new.self.opening)
          (c.tell.ensures.framed accepts limits done label given items
          (kept accepts limits c.args.self.now _ done label given items (record { accepts = refl; limits = refl; label = refl; number = refl; fault = refl }) refl refl refl f))),
    )
