-- Octets on their way to an output, in binary or in a block of armor.
use Rattle.std.specs.Prelude.{◌≡◌, ℕ, Bool, false, List, ◌++◌, Option, Some, None, Result, MatchResult}
use Rattle.opgp_armor.specs.declared.label.Label.{Label}
use Rattle.opgp_io.specs.declared.armoring.Armoring.{Armoring}
use Rattle.opgp_io.specs.declared.output.Output.{Output}
use Rattle.opgp_io.specs.Added.{State, Adds, Breaks}
use Rattle.opgp_io.specs.Armoring.{Armors, BreaksArmor}
use Rattle.opgp_io.specs.Output.{sink_name, sink_of, state_of}

-- the octets were added since `start`, in binary or in a block of this label
abbrev pub Holds : Option Label → State → State → Option Armoring → List ℕ → Type 0
Holds None start now None octets = Adds start now octets
Holds (Some label) start now (Some a) octets = Armors label start now a octets
Holds None start now (Some a) octets = ⊥
Holds (Some label) start now None octets = ⊥

-- the sink has failed in them
abbrev pub Fails : Option Label → State → State → List ℕ → Type 0
Fails None start now octets = Breaks start now octets
Fails (Some label) start now octets = BreaksArmor label start now octets

-- The octets are added after those before, to the same sink.
pub record AddsVia {W : Type 0} (held : W → Option (List ℕ)) (has_failed : W → Bool)
    (old : Output W) (before : Option Armoring) (new : Output W) (after : Option Armoring)
    (octets : List ℕ) : Type 0 where
  pub same : sink_name new ≡ sink_name old
  pub sound : has_failed (sink_of new) ≡ false
  pub added : (block : Option Label) (start : State) (given : List ℕ)
      → Holds block start (state_of held has_failed old) before given
      → Holds block start (state_of held has_failed new) after (given ++ octets)

-- That sink has failed in them.
pub record BreaksVia {W : Type 0} (held : W → Option (List ℕ)) (has_failed : W → Bool)
    (old : Output W) (before : Option Armoring) (new : Output W) (octets : List ℕ) : Type 0 where
  pub same : sink_name new ≡ sink_name old
  pub broken : (block : Option Label) (start : State) (given : List ℕ)
      → Holds block start (state_of held has_failed old) before given
      → Fails block start (state_of held has_failed new) (given ++ octets)

-- the one or the other
abbrev pub ExtendsVia : {W T E : Type 0} → (W → Option (List ℕ)) → (W → Bool) → Output W
    → Option Armoring → Output W → Option Armoring → Result T E → List ℕ → Type 0
ExtendsVia held has_failed old before new after result octets = MatchResult result
    (λ _. AddsVia held has_failed old before new after octets)
    (λ _. BreaksVia held has_failed old before new octets)
