use Rattle.std.proofs.Common.{◌≡◌, ◌∙◌, ◌++◌, List, ap, subst}
use Rattle.std.specs.Prelude.{OnOk}
use Rattle.opgp_valid.specs.Facts.{FactsValue}
use Rattle.opgp_valid.specs.States.{states_of}
use Rattle.opgp_valid.specs.declared.states.PartState.{PartState}
use Rattle.opgp_handles.specs.States.{part_rows}
use Rattle.opgp_handles.proofs.states.add_certificate.Goals as goal

pub returns : goal.returns
returns c =
    subst (λ (l : List PartState). OnOk c.add_parts.result (c.add_parts.new.rows.items ≡ c.args.rows.now.items ++ part_rows c.args.number l))
    (c.deref.ensures.value ∙ c.in_ok-states.ensures ∙ ap (λ (f : FactsValue). states_of f c.args.certificate.now c.args.at) (c.facts.ensures ∙ c.in_ok-certified.ensures))
    c.add_parts.ensures
