-- Blocks of armor that are being added to outputs (RFC 9580, 6.2).
use Rattle.std.specs.Prelude.{◌≡◌, ℕ, Bool, List, [], ◌++◌, Option, Result, MatchResult, true, false}
use Rattle.opgp_armor.specs.declared.label.Label.{Label}
use Rattle.opgp_armor.specs.Written.{armor_text, data_lines}
use Rattle.opgp_io.specs.declared.armoring.Armoring.{Armoring}
use Rattle.opgp_io.specs.declared.output.Output.{Output}
use Rattle.opgp_io.specs.Added.{State, Adds, Breaks, Writes}
use Rattle.opgp_io.specs.Output.{sink_name, sink_of, state_of}
use Rattle.opgp_io.specs.Rows.{Rows, closing}

-- the label of a block
abbrev pub label_of : Armoring → Label
label_of a = a.label

-- the octets that wait for a row
abbrev pub row_of : Armoring → List ℕ
row_of a = a.row

-- the same, together with the state of the output that the block is added to
abbrev pub rows_of : {W : Type 0} → (W → Option (List ℕ)) → (W → Bool) → Output W → Armoring → Rows
rows_of held has_failed o a = record { output = state_of held has_failed o; row = row_of a }

-- A block with these octets was begun at `start`: what was added since then is the beginning of its
-- armor, whatever octets follow; then come the data lines of what waits and of what follows, and
-- the end line.
pub record Armors (label : Label) (start now : State)
    (a : Armoring) (octets : List ℕ) : Type 0 where
  pub same : label_of a ≡ label
  pub text : List ℕ
  pub added : Adds start now text
  pub ahead : (more : List ℕ) → armor_text label [] (octets ++ more)
      ≡ text ++ (data_lines (row_of a ++ more) ++ closing label)

-- The sink has failed within the armor of the octets, whatever was to follow.
abbrev pub BreaksArmor : Label → State → State → List ℕ → Type 0
BreaksArmor label start now octets =
    (more : List ℕ) → Breaks start now (armor_text label [] (octets ++ more))

-- a result tells whether the sink has failed
abbrev pub Tells : {T E : Type 0} → Result T E → Bool → Type 0
Tells result failed = MatchResult result (λ _. failed ≡ false) (λ _. failed ≡ true)

-- A block was begun, or the sink has failed in it.
pub record Begins {W E : Type 0} (held : W → Option (List ℕ)) (has_failed : W → Bool)
    (old new : Output W) (label : Label) (result : Result Armoring E) : Type 0 where
  pub same : sink_name new ≡ sink_name old
  pub told : Tells result (has_failed (sink_of new))
  pub begun : MatchResult result
      (λ a. Armors label (state_of held has_failed old) (state_of held has_failed new) a [])
      (λ _. BreaksArmor label (state_of held has_failed old) (state_of held has_failed new) [])

-- The octets were added to a block after those that it had, or the sink has failed in them.
pub record ExtendsArmor {W T E : Type 0} (held : W → Option (List ℕ)) (has_failed : W → Bool)
    (old : Output W) (before : Armoring) (new : Output W) (after : Armoring) (result : Result T E)
    (octets : List ℕ) : Type 0 where
  pub same : sink_name new ≡ sink_name old
  pub told : Tells result (has_failed (sink_of new))
  pub added : (label : Label) (start : State) (given : List ℕ)
      → Armors label start (state_of held has_failed old) before given → MatchResult result
      (λ _. Armors label start (state_of held has_failed new) after (given ++ octets))
      (λ _. BreaksArmor label start (state_of held has_failed new) (given ++ octets))

-- A block was ended, so all its armor is added; or the sink has failed in it.
pub record Ends {W T E : Type 0} (held : W → Option (List ℕ)) (has_failed : W → Bool)
    (old : Output W) (a : Armoring) (new : Output W) (result : Result T E) : Type 0 where
  pub same : sink_name new ≡ sink_name old
  pub told : Tells result (has_failed (sink_of new))
  pub ended : (label : Label) (start : State) (octets : List ℕ)
      → Armors label start (state_of held has_failed old) a octets
      → Writes start (state_of held has_failed new) result (armor_text label [] octets)
