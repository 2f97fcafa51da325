-- A certificate, as its signatures have it.
use Rattle.std.specs.Prelude.{ℕ, List}
use Rattle.opgp_valid.specs.declared.facts.Facts.{Facts}
use Rattle.opgp_valid.specs.declared.statement.Statement.{Statement}

-- the version of its primary key, when that was created, and what its signatures say
pub record FactsValue : Type 0 where
  pub version : ℕ
  pub created : ℕ
  pub statements : List Statement

abbrev pub facts_value : Facts → FactsValue
facts_value f = record {
  version = f.version;
  created = f.created;
  statements = f.statements.now;
}
