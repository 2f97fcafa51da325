use Rattle.std.proofs.Common.{List, append-nil, subst}
use Rattle.opgp_keyring.specs.Composition.{Item}
use Rattle.opgp_keyring.specs.Fed.{Fed}
use Rattle.opgp_codec.proofs.parts.Parts.reuse.Goals as goal

pub returns-clause-used : goal.returns-clause-used
returns-clause-used c u used =
    let x = c.reuse.new.self in
    (used.0, used.1, subst (λ (l : List Item). Fed u.limits x l u.taken) (append-nil used.0) (subst (Fed u.limits x _) (append-nil u.taken) (c.reuse.ensures.fed u.limits used.0 u.taken used.2)))
