use Rattle.std.proofs.Common.{◌++◌, List, append-nil, subst, ap, ◌∙◌}
use Rattle.opgp_keyring.specs.Composition.{Item}
use Rattle.opgp_codec.specs.Text.{Through, lent_octets}
use Rattle.opgp_codec.proofs.Blocking.{finds_not}
use Rattle.opgp_codec.proofs.text.Text.drain.Goals as goal

pub pass-requires-clause-through : goal.pass-requires-clause-through
pass-requires-clause-through c =
    let r = c.in_ok-frame.ensures.through in
    let x = c.requires in
    (x.0, x.1, x.2, x.3 ++ r.0, r.2 x.0 x.1 x.2 x.3 x.4)

pub returns-clause-through : goal.returns-clause-through
returns-clause-through c =
    let r = c.in_ok-frame.ensures.through in
    let p = c.pass.ensures.through in
    let none = finds_not c.frame.new.framer c.in_ok-frame.field-0 (lent_octets c.frame.new.self) r.0 c.if-branch.false r.1 in (
      p.0,
      p.1,
      λ accepts limits input items x.
          p.2 accepts limits input items (subst (Through accepts limits c.frame.new.self c.frame.new.framer input) (ap (λ (l : List Item). items ++ l) none ∙ append-nil items) (r.2 accepts limits input items x)),
    )
