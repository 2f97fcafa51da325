-- A keyring that is read in pieces, whose parts wait until they are taken.
use Rattle.std.specs.Prelude.{◌≡◌, ◌≤◌, ℕ, List, Ok, Err, MatchResult}
use Rattle.opgp_octets.specs.declared.limits.Limits.{Limits}
use Rattle.opgp_keyring.specs.Composed.{PartValue}
use Rattle.opgp_keyring.specs.Keyring.{KeyringValue}
use Rattle.opgp_codec.specs.declared.part_reader.PartReader.{PartReader}
use Rattle.opgp_codec.specs.declared.waiting.Waiting.{Waiting}
use Rattle.opgp_codec.specs.Keyrings.{ComposesTo, key_label}
use Rattle.opgp_codec.specs.Parts.{IsDone, count_of}
use Rattle.opgp_codec.specs.Parts.{IsUsed as AreUsed, held_of as parts_held}
pub use Rattle.opgp_codec.specs.Parts.{Use, given, most_held, taking}
pub use Rattle.opgp_codec.specs.Used.{shown_count, unused}
use Rattle.opgp_codec.specs.Reading.{AnswerOf, Outcome}
use Rattle.opgp_codec.specs.Waiting.{EndsWith, parts_in}

-- The reader was used so: what was taken of the parts is what was taken of it, and what waits.
pub record IsUsed (u : Use) (p : PartReader) : Type 0 where
  pub used : AreUsed (taking u (parts_in p.waiting)) p.parts
  pub counted : p.taken ≡ shown_count u.taken
  pub done : IsDone p.parts

-- how many octets it was given
abbrev pub octets_given : PartReader → ℕ
octets_given p = count_of p.parts

-- the parts that wait to be taken, in order
abbrev pub waits : PartReader → List PartValue
waits p = parts_in p.waiting

-- What its readers hold together. The parts that wait are not counted.
abbrev pub held_of : PartReader → ℕ
held_of p = parts_held p.parts

-- within these limits it was given some octets, and holds no more than they allow
pub record IsReading (limits : Limits) (p : PartReader) : Type 0 where
  pub so_far : Use
  pub limits_kept : so_far.limits ≡ limits
  pub used : IsUsed so_far p
  pub held : held_of p ≤ most_held limits

-- how many parts were taken from it, as it is shown
abbrev pub taken_count : PartReader → ℕ
taken_count p = p.taken

-- The answer to all octets: their one keyring, whose parts are those that were taken and those that
-- still wait; or the one fault.
abbrev pub Ends : Use → Outcome Waiting → Type 0
Ends u answer = MatchResult answer
    (λ waiting. (r : KeyringValue)
    × AnswerOf key_label (ComposesTo u.limits) u.mode u.limits u.input (Ok r)
    × EndsWith u.taken r waiting)
    (λ fault. AnswerOf {A = KeyringValue} key_label (ComposesTo u.limits)
    u.mode u.limits u.input (Err fault))
