-- The state of an output: what it has written, and what waits in it.
use Rattle.std.specs.Prelude.{◌≡◌, ℕ, Bool, List, Option, Result, take}
use Rattle.std.specs.Borrow.{GName}
use Rattle.opgp_io.specs.declared.buffer.Buffer.{Buffer}
use Rattle.opgp_io.specs.declared.output.Output.{Output}
use Rattle.opgp_io.specs.Added.{State, Writes}

-- the octets in a buffer
abbrev pub held_in : Buffer → List ℕ
held_in b = take b.filled b.octets.items

-- the sink of an output
abbrev pub sink_of : {W : Type 0} → Output W → W
sink_of o = o.sink.now

-- which sink it is: the name of the reference that was lent
abbrev pub sink_name : {W : Type 0} → Output W → GName
sink_name o = o.sink.ghost_name

-- the octets that wait to be written
abbrev pub waiting_in : {W : Type 0} → Output W → List ℕ
waiting_in o = held_in o.buffer.now

-- what the sink holds and whether it has failed, by `held` and `has_failed` of the sink's type, and
-- what waits
abbrev pub state_of : {W : Type 0} → (W → Option (List ℕ)) → (W → Bool) → Output W → State
state_of held has_failed o = record {
  held = held (sink_of o);
  failed = has_failed (sink_of o);
  waiting = waiting_in o;
}

-- The octets were added to the same sink as before, or that sink has failed in them.
pub record Extends {W T E : Type 0} (held : W → Option (List ℕ)) (has_failed : W → Bool)
    (old new : Output W) (result : Result T E) (octets : List ℕ) : Type 0 where
  pub same : sink_name new ≡ sink_name old
  pub written : Writes (state_of held has_failed old) (state_of held has_failed new) result octets
