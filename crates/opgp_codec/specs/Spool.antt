-- Octets held outside of memory, on their way to a sink.
use Rattle.std.specs.Prelude.{◌≡◌, ◌⊎◌, ◌≤◌, ◌+◌, ◌^◌, ℕ, Bool, true, false, List, ◌++◌, length}
use Rattle.std.specs.Prelude.{if◌then◌else◌, Option, Some, None}
use Rattle.std.specs.Prelude.{Result, Ok, Err}
use Rattle.std.specs.Io.KnownBytes.{Appends}
use Rattle.opgp_codec.specs.declared.draft_error.DraftError.{DraftError}
use Rattle.opgp_codec.specs.declared.draft_error.DraftError.TheVariants as error
use Rattle.opgp_codec.specs.declared.spooled.Spooled.{Spooled}
use Rattle.opgp_codec.specs.Via.{AddsVia, BreaksVia}
use Rattle.opgp_io.specs.declared.armoring.Armoring.{Armoring}
use Rattle.opgp_io.specs.declared.output.Output.{Output}
use Rattle.opgp_io.specs.Added.{State, Adds, Breaks}
use Rattle.opgp_io.specs.Stream.{AppendsPrefix}

-- the spool that is filled
abbrev pub spool_in : {S : Type 0} → Spooled S → S
spool_in s = s.spool

-- what a spool holds, where that is known
abbrev pub told : {S : Type 0} → Bool → (S → List ℕ) → S → Option (List ℕ)
told tells holds s = if tells then Some (holds s) else None

-- these octets are the first of all, where it is known which they are
abbrev pub AreFirst : Bool → List ℕ → List ℕ → Type 0
AreFirst tells got all = tells ≡ true → (rest : List ℕ) × (all ≡ got ++ rest)

-- All octets of a spool were added to an output, in binary or to a block of armor; or the sink has
-- failed in some of them, or the spool has behind some of them.
abbrev pub UnspoolsVia : {W : Type 0} → Bool → (W → Option (List ℕ)) → (W → Bool)
    → Output W → Option Armoring → Output W → Option Armoring
    → Result Unit DraftError → List ℕ → Type 0
UnspoolsVia tells held has_failed old before new after (Ok done) all = (got : List ℕ)
    × AddsVia held has_failed old before new after got × (tells ≡ true → all ≡ got)
UnspoolsVia tells held has_failed old before new after (Err error.Write) all = (got : List ℕ)
    × BreaksVia held has_failed old before new got × AreFirst tells got all
UnspoolsVia tells held has_failed old before new after (Err error.Spool) all = (got : List ℕ)
    × AddsVia held has_failed old before new after got × AreFirst tells got all

-- The same of a text that is made of them.
abbrev pub Unspools : Bool → State → State → Result Unit DraftError → List ℕ → Type 0
Unspools tells old new (Ok done) text = (new.failed ≡ false) × (tells ≡ true → Adds old new text)
Unspools tells old new (Err error.Write) text =
    (new.failed ≡ true) × (tells ≡ true → Breaks old new text)
Unspools tells old new (Err error.Spool) text = (new.failed ≡ false)
    × (tells ≡ true
    → (front : List ℕ) × (rest : List ℕ) × Adds old new front × (text ≡ front ++ rest))

-- A spool of this type has failed; or, where it is known what they hold, one holds 2^64 - 1 octets
-- at least, which no count of its calls has room for.
abbrev pub SomeFailed : {S : Type 0} → Bool → (S → List ℕ) → (S → Bool) → Type 0
SomeFailed tells holds failed =
    (s : _) × ((failed s ≡ true) ⊎ (tells ≡ true → 2 ^ 64 ≤ 1 + length (holds s)))

-- The text is written into a sink; or the sink has failed, or the spool has, and the sink holds a
-- prefix of it. Of the text this is so where it is known what the spool holds.
abbrev pub IsEmptied : {W : Type 0} → Bool → (W → Option (List ℕ)) → (W → Bool) → W → W
    → Result Unit DraftError → List ℕ → Type 0
IsEmptied tells held failed old new (Ok done) text =
    (failed new ≡ false) × (tells ≡ true → Appends (held old) (held new) text)
IsEmptied tells held failed old new (Err error.Write) text =
    (failed new ≡ true) × (tells ≡ true → AppendsPrefix (held old) (held new) text)
IsEmptied tells held failed old new (Err error.Spool) text =
    (failed new ≡ false) × (tells ≡ true → AppendsPrefix (held old) (held new) text)
