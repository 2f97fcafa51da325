-- How all parts of a keyring stand at a time.
use Rattle.std.specs.Prelude.{ℕ, Bool, if◌then◌else◌, List, [], ◌∷◌, length, drop, map, Option}
use Rattle.opgp_keyring.specs.Keyring.{CertificateValue, KeyringValue}
use Rattle.opgp_report.specs.Standing.{certificate_standing}
use Rattle.opgp_report.specs.declared.verifier.Verdict.{Verdict}
use Rattle.opgp_valid.specs.Facts.{FactsValue}
use Rattle.opgp_valid.specs.Judgement.{facts_by}
use Rattle.opgp_valid.specs.KeyCauses.{causes_of}
use Rattle.opgp_valid.specs.KnownKeys.{known_in}
use Rattle.opgp_valid.specs.States.{states_of}
use Rattle.opgp_valid.specs.declared.cause.Cause.{Cause}
use Rattle.opgp_valid.specs.declared.known_keys.Known.{Known}
use Rattle.opgp_valid.specs.declared.policy.Policy.{Policy}
use Rattle.opgp_valid.specs.declared.states.PartState.{PartState}
use Rattle.opgp_state.specs.declared.keyring_states.KeyringStates.{KeyringStates}

-- of the parts of each certificate, by the verdicts on their rows in a report
module _ (known : List Known) (policy : Policy) (at : ℕ) where
  abbrev pub states_among : List CertificateValue → List Verdict → List (List PartState)
  states_among [] founds = []
  states_among (c ∷ cs) founds = states_of (facts_by known policy c founds) c at
      ∷ states_among cs (drop (length (certificate_standing 0 c)) founds)

-- what makes the keys of a certificate of no use, if that is wanted
abbrev pub causes_if : Bool → FactsValue → CertificateValue → ℕ → List (Option Cause)
causes_if wanted f c at = if wanted then causes_of f c at else []

module _ (wanted : Bool) (known : List Known) (policy : Policy) (at : ℕ) where
  abbrev pub causes_among : List CertificateValue → List Verdict → List (List (Option Cause))
  causes_among [] founds = []
  causes_among (c ∷ cs) founds = causes_if wanted (facts_by known policy c founds) c at
      ∷ causes_among cs (drop (length (certificate_standing 0 c)) founds)

-- of those of a keyring, by the verdicts on its rows
abbrev pub keyring_states : KeyringValue → List Verdict → Policy → ℕ → List (List PartState)
keyring_states r founds policy at = states_among (known_in r) policy at r.certificates founds

abbrev pub keyring_causes : Bool → KeyringValue → List Verdict → Policy → ℕ
    → List (List (Option Cause))
keyring_causes wanted r founds policy at =
    causes_among wanted (known_in r) policy at r.certificates founds

-- what was found of each certificate
abbrev pub states_in : KeyringStates → List (List PartState)
states_in s = map (λ parts. parts.items) s.certificates.items

abbrev pub causes_in : KeyringStates → List (List (Option Cause))
causes_in s = map (λ parts. parts.items) s.causes.items
