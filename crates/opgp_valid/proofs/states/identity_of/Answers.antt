use Rattle.std.proofs.Common.{◌∙◌}
use Rattle.opgp_valid.specs.Facts.{FactsValue, facts_value}
use Rattle.opgp_valid.proofs.Parts.{same_identity}
use Rattle.opgp_valid.proofs.states.identity_of.Goals as goal

pub returns : goal.returns
returns c =
    let facts : FactsValue = record { version = c.args.facts.version; created = c.args.facts.created; statements = c.args.part.statements.now } in
    c.identity_state.ensures ∙ same_identity c.args.part.number c.args.at facts (facts_value c.args.facts) c.requires.same
