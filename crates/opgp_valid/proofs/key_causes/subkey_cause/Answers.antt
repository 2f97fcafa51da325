use Rattle.opgp_valid.specs.Facts.{FactsValue, facts_value}
use Rattle.opgp_valid.proofs.PartCauses.{enough}
use Rattle.opgp_valid.proofs.key_causes.subkey_cause.Goals as goal

pub key_cause-requires-clause-part : goal.key_cause-requires-clause-part
key_cause-requires-clause-part c =
    let part : FactsValue = record { version = c.args.facts.version; created = c.args.facts.created; statements = c.args.part.statements.now } in
    enough c.args.part.number c.args.created c.args.at (facts_value c.args.facts) part c.requires.enough.same
