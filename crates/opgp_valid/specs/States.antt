-- How all parts of a certificate stand at a time.
use Rattle.std.specs.Prelude.{◌≡◌, ℕ, ◌+◌, List, [], ◌∷◌, Option, Some, None}
use Rattle.opgp_keyring.specs.Keyring.{CertificateValue, ComponentValue}
use Rattle.opgp_valid.specs.Facts.{FactsValue}
use Rattle.opgp_valid.specs.Judgement.{subkey_at}
use Rattle.opgp_valid.specs.Moment.{saying_at}
use Rattle.opgp_valid.specs.State.{first_revocation, identity_of, state_of}
use Rattle.opgp_valid.specs.declared.facts.Key.{Key}
use Rattle.opgp_valid.specs.declared.facts.Key.TheVariants as key
use Rattle.opgp_valid.specs.declared.states.PartState.{PartState}
use Rattle.opgp_valid.specs.declared.states.PartState.TheVariants as part
use Rattle.opgp_valid.specs.declared.states.Primary.{Primary}

-- of the component of this number: as a key, if it is one; else as a user ID or user attribute
abbrev pub part_state : FactsValue → ℕ → Option Key → ℕ → PartState
part_state f at (Some k) n = part.Key (state_of f k at)
part_state f at None n = part.Identity (identity_of f n at)

-- of components, numbered from here
abbrev pub states_from : FactsValue → ℕ → ℕ → List ComponentValue → List PartState
states_from f at n [] = []
states_from f at n (c ∷ cs) =
    part_state f at (subkey_at n (Some c)) n ∷ states_from f at (n + 1) cs

-- of the primary key, and of each component in order
abbrev pub states_of : FactsValue → CertificateValue → ℕ → List PartState
states_of f c at = part.Key (state_of f key.Primary at) ∷ states_from f at 0 c.components

-- this was found of the primary key at a time
pub record IsOfPrimary (f : FactsValue) (at : ℕ) (primary : Primary) : Type 0 where
  pub saying : primary.saying ≡ saying_at f key.Primary at
  pub revocation : primary.revocation ≡ first_revocation key.Primary f.statements
