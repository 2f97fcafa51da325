-- The visitors that gather what the signatures of a certificate say.
use Rattle.std.specs.Prelude.{◌≡◌, ⊤, List, ◌++◌, Option, Result, Ok, Err}
use Rattle.std.specs.List.{flat_map, fold}
use Rattle.opgp_report.specs.KeyIndex.{prints_shown}
use Rattle.opgp_report.specs.Standing.{Standing}
use Rattle.opgp_valid.specs.KnownKeys.{knowns}
use Rattle.opgp_valid.specs.Told.{revokers_at, told, with_verdicts}
use Rattle.opgp_valid.specs.declared.gathering.Gatherer.{Gatherer}
use Rattle.opgp_valid.specs.declared.naming.Namer.{Namer}
use Rattle.opgp_valid.specs.declared.statement.Life.{Life}
use Rattle.opgp_valid.specs.declared.statement.Statement.{Statement}

-- the fingerprints that a list of signatures names are added, unless memory runs out
abbrev pub Names : {E : Type 0} → Namer → List Standing → Result Namer E → Type 0
Names a list (Ok b) = b.prints.items ≡ a.prints.items
    ++ flat_map (revokers_at (knowns a.context.known.now) a.context.primary)
    (with_verdicts a.verdicts.now list)
Names a list (Err refusal) = ⊤

-- what they say is added, unless memory runs out
abbrev pub Gathers : {E : Type 0} → Gatherer → List Standing → Result Gatherer E → Type 0
Gathers a list (Ok b) = b.statements.items
    ≡ fold (told (knowns a.context.known.now) a.context.policy a.context.primary
    (prints_shown a.revokers.now)) a.statements.items (with_verdicts a.verdicts.now list)
Gathers a list (Err refusal) = ⊤

-- what a signature says with another life
abbrev pub with_life : Statement → Option Life → Statement
with_life st life = record {
  kind = st.kind;
  component = st.component;
  is_on_user_id = st.is_on_user_id;
  hang = st.hang;
  author = st.author;
  is_understood = st.is_understood;
  doubt = st.doubt;
  life = life;
  key_lasts = st.key_lasts;
  has_flags = st.has_flags;
  uses = st.uses;
  is_main = st.is_main;
  is_revoked = st.is_revoked;
  back = st.back;
  reason = st.reason;
}
