-- How the parts of a certificate that stay stood before, by a verifier that goes by what is hashed.
use Rattle.std.specs.Prelude.{◌≡◌, ℕ, Bool, ◌&&◌, List, [], length, map, take, Option, Some, None}
use Rattle.std.specs.Prelude.{slice_get}
use Rattle.std.specs.List.{filter, flat_map, list_any}
use Rattle.opgp_hash.specs.QuestionValue.{QuestionValue}
use Rattle.opgp_keyring.specs.Keyring.{CertificateValue, KeyringValue}
use Rattle.opgp_report.specs.Asked.{asked_by}
use Rattle.opgp_report.specs.Standing.{Standing, certificate_standing, standing_in}
use Rattle.opgp_report.specs.declared.verifier.Verdict.{Verdict}
use Rattle.opgp_valid.specs.Facts.{FactsValue}
use Rattle.opgp_valid.specs.KnownKeys.{known_in}
use Rattle.opgp_valid.specs.Revocation.{question_if, revocation_of}
use Rattle.opgp_valid.specs.Standing.{revokes, standing_of}
use Rattle.opgp_valid.specs.State.{state_of}
use Rattle.opgp_valid.specs.Told.{is_same_number}
use Rattle.opgp_valid.specs.declared.facts.Key.{Key}
use Rattle.opgp_valid.specs.declared.state.KeyState.{KeyState}
use Rattle.opgp_bound.specs.Bound.{bound_keyring, component_stays, components_in, left_behind}
use Rattle.opgp_bound.specs.Copies.{Deciding, decided}
use Rattle.opgp_bound.specs.Issuers.{revocation_issuers}
use Rattle.opgp_bound.specs.Judged.{JudgedComponentValue}

-- ---- verifiers
-- what a signature hashes: a key revocation the primary key alone, wherever it hangs (RFC 9580,
-- 5.2.1.11, 5.2.4); any other what it follows
abbrev pub hashed_else : Standing → Option QuestionValue → Option QuestionValue
hashed_else s None = question_if (asked_by s)
hashed_else s (Some alone) = Some alone

abbrev pub hashed : Standing → Option QuestionValue
hashed s = hashed_else s (revocation_of s)

-- of the same octets the verifier says the same wherever they stand, if they hash the same there;
-- as each does that looks at the digest alone
abbrev pub SaysSameAnywhere : Deciding → Type 0
SaysSameAnywhere v = (s t : Standing) (q : QuestionValue) → s.body ≡ t.body
    → hashed s ≡ Some q → hashed t ≡ Some q → decided v s ≡ decided v t

-- ---- what is bound by them
-- what a verifier says of the rows of a keyring's report
abbrev pub verdicts_of : Deciding → KeyringValue → List Verdict
verdicts_of v r = map (decided v) (standing_in r)

abbrev pub bound_decided : Deciding → KeyringValue → KeyringValue
bound_decided v r = bound_keyring r (verdicts_of v r)

-- the second certificate is what is bound of the first
abbrev pub IsBoundOf : Deciding → KeyringValue → CertificateValue → CertificateValue → Type 0
IsBoundOf v r c m = (i : ℕ) × (slice_get r.certificates i ≡ Some c)
    × (slice_get (bound_decided v r).certificates i ≡ Some m)

-- the components of a certificate of the keyring, by the verdicts on its rows
abbrev pub components_decided : Deciding → KeyringValue → CertificateValue
    → List JudgedComponentValue
components_decided v r c = components_in (known_in r) (revocation_issuers r (verdicts_of v r)) c
    (map (decided v) (certificate_standing 0 c))

-- no key revocation is on one that goes, so none is put behind the packets on the primary key
abbrev pub PutsNone : Deciding → KeyringValue → CertificateValue → Type 0
PutsNone v r c = flat_map left_behind (components_decided v r c) ≡ []

-- the number that a component gets: as many as there are of those before it that stay
abbrev pub number_kept : List JudgedComponentValue → ℕ → ℕ
number_kept cs n = length (filter component_stays (take n cs))

-- ---- how a key stands
-- one of the revocations of a key gives this code of a reason, or gives none (5.2.3.31)
abbrev pub gives_reason : FactsValue → Key → Option ℕ → Bool
gives_reason f k reason =
    list_any (λ s. revokes k s && is_same_number s.reason reason) f.statements

-- a state without the reason of the revocation that comes first
abbrev pub without_reason : KeyState → KeyState
without_reason state = record {
  why = state.why;
  uses = state.uses;
  begin = state.begin;
  end = state.end;
  reason = None;
}

-- a key stands by some facts as another does by others: it is believed for the same signatures, and
-- has the same state at each time, and the same reasons of revocations
pub record StandsAs (f g : FactsValue) (k l : Key) : Type 0 where
  pub standing : (made now : ℕ) → standing_of f k made now ≡ standing_of g l made now
  pub state : (at : ℕ) → without_reason (state_of f k at) ≡ without_reason (state_of g l at)
  pub reasons : (reason : Option ℕ) → gives_reason f k reason ≡ gives_reason g l reason
