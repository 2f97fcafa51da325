use Rattle.std.proofs.Common.{List, append-nil, subst}
use Rattle.opgp_keyring.specs.Composition.{Item}
use Rattle.opgp_keyring.specs.Fed.{Fed}
use Rattle.opgp_codec.proofs.incoming_parts.IncomingParts.reuse.Goals as goal

pub returns-clause-came : goal.returns-clause-came
returns-clause-came c mode limits before now parts p = record {
  items = p.items;
  came = p.came;
  composed = subst (λ (l : List Item). Fed limits c.reuse.new.self l parts) (append-nil p.items) (subst (Fed limits c.reuse.new.self _) (append-nil parts) (c.reuse.ensures.fed limits p.items parts p.composed));
}
