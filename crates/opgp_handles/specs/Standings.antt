-- What the call says that judges a key.
use Rattle.std.specs.Prelude.{ℕ, ◌==◌, Bool, not, ◌&&◌, if◌then◌else◌}
use Rattle.std.specs.Prelude.{List, [], ◌∷◌, map, Option, Some, None}
use Rattle.std.specs.Prelude.{Result, Ok, Err, slice_get}
use Rattle.std.specs.Option.{option_map}
use Rattle.opgp_octets.specs.declared.fault.BodyFault.{BodyFault}
use Rattle.opgp_packet.specs.SigView.{sig_view_value}
use Rattle.opgp_packet.specs.SignatureBody.{SignatureValue, signature_at}
use Rattle.opgp_packet.specs.declared.sig_view.SigView.{SigView}
use Rattle.opgp_keyring.specs.Keyring.{KeyringValue}
use Rattle.opgp_report.specs.declared.verifier.Verdict.{Verdict}
use Rattle.opgp_report.specs.declared.verifier.Verdict.TheVariants as verdict
use Rattle.opgp_tables.specs.DocumentJobs.{is_over_text}
use Rattle.opgp_tables.specs.Room.{none}
use Rattle.opgp_valid.specs.Believed.{belief_of}
use Rattle.opgp_valid.specs.Judgement.{judgement_of}
use Rattle.opgp_valid.specs.declared.believing.Belief.{Belief}
use Rattle.opgp_valid.specs.declared.believing.Belief.TheVariants as belief
use Rattle.opgp_valid.specs.declared.believing.Flaw.{Flaw}
use Rattle.opgp_valid.specs.declared.believing.Flaw.TheVariants as flaw
use Rattle.opgp_valid.specs.declared.judgement.Judgement.{Judgement}
use Rattle.opgp_valid.specs.declared.judgement.Judgement.TheVariants.{Stands, Fails, NoKey}
use Rattle.opgp_valid.specs.declared.judgement.KeyPlace.{KeyPlace}
use Rattle.opgp_valid.specs.declared.policy.Policy.{Policy}
use Rattle.opgp_valid.specs.declared.policy.Policy.TheVariants.{Usual, Any}
use Rattle.opgp_valid.specs.declared.why.Why.{Why}
use Rattle.opgp_valid.specs.declared.why.Why.TheVariants.{Future, Revoked, Early, Unbound, Expired}
use Rattle.opgp_valid.specs.declared.why.Why.TheVariants.{Flags, Back}
use Rattle.opgp_handles.specs.declared.place_row.PlaceRow.{PlaceRow}

-- ---- the numbers of what is given
abbrev pub verdict_by : ℕ → Verdict
verdict_by n = if n == 1 then verdict.Good else if n == 2 then verdict.Bad else verdict.Undecided

-- and the number of a verdict
abbrev pub verdict_number : Verdict → ℕ
verdict_number verdict.Undecided = 0
verdict_number verdict.Good = 1
verdict_number verdict.Bad = 2

abbrev pub policy_by : ℕ → Option Policy
policy_by n = if n == 0 then Some Usual else if n == 1 then Some Any else None

abbrev pub component_by : ℕ → Option ℕ
component_by n = if n == none then None else Some n

abbrev pub place_by : ℕ → ℕ → KeyPlace
place_by certificate component = record {
  certificate = certificate;
  component = component_by component;
}

-- ---- the numbers of what is answered
abbrev pub why_number : Why → ℕ
why_number Future = 1
why_number Revoked = 2
why_number Early = 3
why_number Unbound = 4
why_number Expired = 5
why_number Flags = 6
why_number Back = 7

-- 0 for a key that is believed; none where there is no key
abbrev pub judgement_number : Judgement → Option ℕ
judgement_number Stands = Some 0
judgement_number (Fails cause) = Some (why_number cause.why)
judgement_number NoKey = None

-- of the key at a place of a keyring, by the numbers of verdicts
abbrev pub judged_by : KeyringValue → Policy → List ℕ → KeyPlace → ℕ → ℕ → Option ℕ
judged_by r policy founds at made now =
    judgement_number (judgement_of r policy (map verdict_by founds) at made now)

abbrev pub flaw_number : Flaw → ℕ
flaw_number flaw.Kind = 8
flaw_number flaw.Critical = 9
flaw_number flaw.Weak = 10
flaw_number flaw.Time = 11
flaw_number flaw.Lapsed = 12
flaw_number flaw.Issuer = 13

-- 0 for a signature that is believed; none where there is no key
abbrev pub belief_number : Belief → Option ℕ
belief_number belief.Believed = Some 0
belief_number (belief.Flawed flaw) = Some (flaw_number flaw)
belief_number (belief.Unbelieved cause) = Some (why_number cause.why)
belief_number belief.NoKey = None

-- in a cleartext message only signatures over text are those of a document (RFC 9580, 7.1)
abbrev pub number_over : Bool → SignatureValue → Option ℕ → Option ℕ
number_over is_message v None = None
number_over is_message v (Some n) =
    if is_message && not (is_over_text v) then Some (flaw_number flaw.Kind) else Some n

-- of a signature, by the numbers of verdicts; none where there is none
module _ (is_message : Bool) (r : KeyringValue) (policy : Policy) (founds : List ℕ)
    (at : KeyPlace) (now : ℕ) where
  abbrev pub believed_in : Option SignatureValue → Option ℕ
  believed_in None = None
  believed_in (Some v) = number_over is_message v
      (belief_number (belief_of r policy (map verdict_by founds) at now v))

-- ---- at several places
-- the numbers of all, if each has one
abbrev pub all_some : List (Option ℕ) → Option (List ℕ)
all_some [] = Some []
all_some (None ∷ os) = None
all_some (Some n ∷ os) = option_map (λ ns. n ∷ ns) (all_some os)

abbrev pub place_of : PlaceRow → KeyPlace
place_of row = place_by row.certificate row.component

-- of a signature, at each of these places; none where there is no such signature, or no key at one
-- of them
abbrev pub believed_at : Bool → KeyringValue → Policy → List ℕ → List PlaceRow → ℕ
    → Option SignatureValue → Option (List ℕ)
believed_at is_message r policy founds rows now v =
    all_some (map (λ row. believed_in is_message r policy founds (place_of row) now v) rows)

-- ---- the signatures that a handle holds
abbrev pub value_of : Result SignatureValue BodyFault → Option SignatureValue
value_of (Ok v) = Some v
value_of (Err fault) = None

abbrev pub value_at : List ℕ → Option SignatureValue
value_at body = value_of (signature_at body)

abbrev pub value_if : Option (Option SignatureValue) → Option SignatureValue
value_if None = None
value_if (Some value) = value

-- the one of this number, if it is well-formed
abbrev pub held_value : List (List ℕ) → ℕ → Option SignatureValue
held_value bodies n = value_if (slice_get (map value_at bodies) n)

-- what was read as a signature
abbrev pub value_read : Result SigView BodyFault → Option SignatureValue
value_read (Ok view) = Some (sig_view_value view)
value_read (Err fault) = None
