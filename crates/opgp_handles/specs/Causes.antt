-- What makes a key not believed, as a row for other languages.
use Rattle.std.specs.Prelude.{ℕ, Bool, true, false, List, map, replicate, Option, Some, None}
use Rattle.std.specs.Option.{option_and_then, option_map, unwrap_or}
use Rattle.opgp_keyring.specs.Keyring.{KeyringValue}
use Rattle.opgp_tables.specs.Room.{none}
use Rattle.opgp_valid.specs.Judgement.{judgement_of}
use Rattle.opgp_valid.specs.declared.cause.Cause.{Cause}
use Rattle.opgp_valid.specs.declared.cause.Spot.{Spot}
use Rattle.opgp_valid.specs.declared.doubt.Lack.{Lack}
use Rattle.opgp_valid.specs.declared.doubt.Lack.TheVariants as lack
use Rattle.opgp_valid.specs.declared.facts.Key.{Key}
use Rattle.opgp_valid.specs.declared.facts.Key.TheVariants as key
use Rattle.opgp_valid.specs.declared.judgement.Judgement.{Judgement}
use Rattle.opgp_valid.specs.declared.judgement.Judgement.TheVariants.{Stands, Fails, NoKey}
use Rattle.opgp_valid.specs.declared.judgement.KeyPlace.{KeyPlace}
use Rattle.opgp_valid.specs.declared.policy.Policy.{Policy}
use Rattle.opgp_handles.specs.Standings.{verdict_by, why_number}
use Rattle.opgp_handles.specs.States.{flag_if}
use Rattle.opgp_handles.specs.declared.cause_row.CauseRow.{CauseRow}

-- ---- a row
-- the number of what a signature lacks to speak; 0 for nothing
abbrev pub lack_number : Option Lack → ℕ
lack_number None = 0
lack_number (Some lack.Newer) = 1
lack_number (Some lack.Lapsed) = 2
lack_number (Some lack.Weak) = 3
lack_number (Some lack.Malformed) = 4
lack_number (Some lack.Undated) = 5
lack_number (Some lack.Young) = 6
lack_number (Some lack.Critical) = 7

abbrev pub is_primary_key : Key → Bool
is_primary_key key.Primary = true
is_primary_key (key.Subkey n created) = false

abbrev pub cause_row : Cause → CauseRow
cause_row c = record {
  date = unwrap_or c.date none;
  component = unwrap_or (option_and_then (λ s. s.component) c.spot) none;
  hang = unwrap_or (option_map (λ s. s.hang) c.spot) none;
  why = why_number c.why;
  is_primary = flag_if 1 (is_primary_key c.key);
  is_now = flag_if 1 c.is_now;
  lack = lack_number c.lack;
  reserved = replicate 4 0;
}

-- of a key that is believed
abbrev pub believed_row : CauseRow
believed_row = record {
  date = none;
  component = none;
  hang = none;
  why = 0;
  is_primary = 0;
  is_now = 0;
  lack = 0;
  reserved = replicate 4 0;
}

-- ---- of the key at a place of a keyring, by the numbers of verdicts; none where there is no key
abbrev pub judgement_row : Judgement → Option CauseRow
judgement_row Stands = Some believed_row
judgement_row (Fails cause) = Some (cause_row cause)
judgement_row NoKey = None

abbrev pub caused_by : KeyringValue → Policy → List ℕ → KeyPlace → ℕ → ℕ → Option CauseRow
caused_by r policy founds at made now =
    judgement_row (judgement_of r policy (map verdict_by founds) at made now)
