-- The table of how the parts of a keyring stand at a time: a row for each key, user ID and user
-- attribute, in order.
use Rattle.std.specs.Prelude.{ℕ, ◌+◌, Bool, if◌then◌else◌, List, [], ◌∷◌, ◌++◌, length, map, drop}
use Rattle.std.specs.Prelude.{Option, Some, None, is_some, replicate}
use Rattle.std.specs.Option.{unwrap_or}
use Rattle.opgp_keyring.specs.Keyring.{CertificateValue, KeyringValue}
use Rattle.opgp_report.specs.Standing.{certificate_standing}
use Rattle.opgp_report.specs.declared.verifier.Verdict.{Verdict}
use Rattle.opgp_tables.specs.Room.{none}
use Rattle.opgp_valid.specs.Judgement.{facts_by}
use Rattle.opgp_valid.specs.KnownKeys.{known_in}
use Rattle.opgp_valid.specs.States.{states_of}
use Rattle.opgp_valid.specs.Uses.{has_use}
use Rattle.opgp_valid.specs.declared.known_keys.Known.{Known}
use Rattle.opgp_valid.specs.declared.policy.Policy.{Policy}
use Rattle.opgp_valid.specs.declared.state.IdentityState.{IdentityState}
use Rattle.opgp_valid.specs.declared.state.IdentityState.TheVariants as identity
use Rattle.opgp_valid.specs.declared.state.KeyState.{KeyState}
use Rattle.opgp_valid.specs.declared.states.PartState.{PartState}
use Rattle.opgp_valid.specs.declared.states.PartState.TheVariants as part
use Rattle.opgp_valid.specs.declared.uses.Uses.{Uses}
use Rattle.opgp_valid.specs.declared.why.Why.{Why}
use Rattle.opgp_handles.specs.Standings.{verdict_by, why_number}
use Rattle.opgp_handles.specs.declared.state_row.StateRow.{StateRow}

-- ---- a row
abbrev pub flag_if : ℕ → Bool → ℕ
flag_if flag b = if b then flag else 0

-- the octet of key flags that allows these uses (RFC 9580, 5.2.3.29)
abbrev pub flags_of : Uses → ℕ
flags_of u = flag_if 1 u.certify + flag_if 2 u.sign + flag_if 4 u.encrypt
    + flag_if 32 u.authenticate

-- 0 for a key that is of use, and 14 for one that may be used for nothing
abbrev pub key_number : Option Why → Uses → ℕ
key_number None uses = if has_use uses then 0 else 14
key_number (Some why) uses = why_number why

abbrev pub key_row : ℕ → ℕ → KeyState → StateRow
key_row certificate component s = record {
  certificate = certificate;
  component = component;
  end = unwrap_or s.end none;
  begin = s.begin;
  why = key_number s.why s.uses;
  is_key = 1;
  uses = flags_of s.uses;
  has_reason = flag_if 1 (is_some s.reason);
  reason = unwrap_or s.reason 0;
  reserved = replicate 7 0;
}

-- the numbers of a key that is of use, of one that is revoked, and of one that nothing speaks for
abbrev pub identity_number : IdentityState → ℕ
identity_number identity.Certified = 0
identity_number identity.Revoked = 2
identity_number identity.Unbound = 4

abbrev pub identity_row : ℕ → ℕ → IdentityState → StateRow
identity_row certificate component s = record {
  certificate = certificate;
  component = component;
  end = none;
  begin = 0;
  why = identity_number s;
  is_key = 0;
  uses = 0;
  has_reason = 0;
  reason = 0;
  reserved = replicate 7 0;
}

abbrev pub state_row : ℕ → ℕ → PartState → StateRow
state_row certificate component (part.Key s) = key_row certificate component s
state_row certificate component (part.Identity s) = identity_row certificate component s

-- ---- the table
-- the rows of components, numbered from here
abbrev pub component_rows : ℕ → ℕ → List PartState → List StateRow
component_rows certificate n [] = []
component_rows certificate n (s ∷ ss) = state_row certificate n s
    ∷ component_rows certificate (n + 1) ss

-- those of a certificate: of its primary key, and of its components
abbrev pub part_rows : ℕ → List PartState → List StateRow
part_rows certificate [] = []
part_rows certificate (s ∷ ss) = state_row certificate none s ∷ component_rows certificate 0 ss

-- those of certificates, numbered from here, by the verdicts on their rows in a report
module _ (known : List Known) (policy : Policy) (at : ℕ) where
  abbrev pub certificate_rows : ℕ → CertificateValue → List Verdict → List StateRow
  certificate_rows n c founds = part_rows n (states_of (facts_by known policy c founds) c at)

  abbrev pub rows_from : ℕ → List CertificateValue → List Verdict → List StateRow
  rows_from n [] founds = []
  rows_from n (c ∷ cs) founds = certificate_rows n c founds
      ++ rows_from (n + 1) cs (drop (length (certificate_standing 0 c)) founds)

-- those of a keyring, by the numbers of verdicts
abbrev pub state_rows : KeyringValue → Policy → List ℕ → ℕ → List StateRow
state_rows r policy founds at =
    rows_from (known_in r) policy at 0 r.certificates (map verdict_by founds)
