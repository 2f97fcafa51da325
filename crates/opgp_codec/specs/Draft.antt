-- Texts that are held until they are known to be right.
use Rattle.std.specs.Prelude.{◌≡◌, ℕ, Bool, true, false, List, if◌then◌else◌, Option, Result, Ok, Err}
use Rattle.std.specs.Prelude.{⊤}
use Rattle.std.specs.Io.KnownBytes.{Appends}
use Rattle.opgp_codec.specs.declared.draft.Draft.{Draft}
use Rattle.opgp_codec.specs.declared.draft.Store.{Store}
use Rattle.opgp_codec.specs.declared.draft.Store.TheVariants.{Memory, Spool}
use Rattle.opgp_codec.specs.declared.draft_error.DraftError.{DraftError}
use Rattle.opgp_codec.specs.declared.draft_error.DraftError.TheVariants as error
use Rattle.opgp_codec.specs.Spool.{spool_in}
use Rattle.opgp_io.specs.Held.{held_octets}
use Rattle.opgp_io.specs.Stream.{AppendsPrefix}

-- this text is in memory; or it is in a spool, which holds it, if that hasn't failed and tells what
-- it holds
abbrev pub StoreHas : {S : Type 0} → Bool → Bool → (S → List ℕ) → (S → Bool) → Store S → List ℕ
    → Type 0
StoreHas serves tells holds failed (Memory held) text = held_octets held ≡ text
StoreHas serves tells holds failed (Spool s) text = (serves ≡ true)
    × (failed (spool_in s) ≡ false → tells ≡ true → holds (spool_in s) ≡ text)

abbrev pub DraftHas : {S : Type 0} → Bool → Bool → (S → List ℕ) → (S → Bool) → Draft S → List ℕ
    → Type 0
DraftHas serves tells holds failed d text = StoreHas serves tells holds failed d.store text

-- the text is in memory, and in no spool
abbrev pub StoreIsMemory : {S : Type 0} → Store S → Type 0
StoreIsMemory (Memory held) = ⊤
StoreIsMemory (Spool s) = ⊥

abbrev pub IsInMemory : {S : Type 0} → Draft S → Type 0
IsInMemory d = StoreIsMemory d.store

-- it is known what a text is held in: memory, or a spool that tells what it holds
abbrev pub is_known : Bool → Bool → Bool
is_known serves tells = if serves then tells else true

-- The text is written into a sink; or the sink has failed, or a spool has, and the sink holds a
-- prefix of it. Of the text this is so where it is known what it is held in.
abbrev pub IsDrafted : {W : Type 0} → Bool → Bool → (W → Option (List ℕ)) → (W → Bool) → W → W
    → Result Unit DraftError → List ℕ → Type 0
IsDrafted serves tells held failed old new (Ok done) text =
    (failed new ≡ false) × (is_known serves tells ≡ true → Appends (held old) (held new) text)
IsDrafted serves tells held failed old new (Err error.Write) text =
    (failed new ≡ true) × (is_known serves tells ≡ true → AppendsPrefix (held old) (held new) text)
IsDrafted serves tells held failed old new (Err error.Spool) text = (serves ≡ true)
    × (failed new ≡ false)
    × (is_known serves tells ≡ true → AppendsPrefix (held old) (held new) text)
