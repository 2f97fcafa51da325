-- The parts of a keyring that comes from a source.
use Rattle.std.specs.Prelude.{◌≡◌, ℕ, List, ◌++◌, Option, Ok, Err, Result}
use Rattle.opgp_octets.specs.declared.limits.Limits.{Limits}
use Rattle.opgp_keyring.specs.Composed.{PartValue, parts_of}
use Rattle.opgp_keyring.specs.Composition.{Item}
use Rattle.opgp_keyring.specs.Fed.{Fed as IsComposed}
use Rattle.opgp_keyring.specs.Keyring.{KeyringValue}
use Rattle.opgp_keyring.specs.State.{ready_parts}
use Rattle.opgp_keyring.specs.declared.ready.Ready.{Ready}
use Rattle.opgp_codec.specs.declared.accepts.Accepts.TheVariants.{Keys}
use Rattle.opgp_codec.specs.declared.incoming_parts.IncomingParts.{IncomingParts}
use Rattle.opgp_codec.specs.declared.mode.Mode.{Mode}
use Rattle.opgp_codec.specs.declared.read_error.ReadError.{ReadError}
use Rattle.opgp_codec.specs.declared.read_error.ReadError.TheVariants as read
use Rattle.opgp_codec.specs.Incoming.{Came, HasEnded, IsThrough}
use Rattle.opgp_codec.specs.Keyrings.{ComposesTo, key_label}
use Rattle.opgp_codec.specs.Pulled.{OfInput}
use Rattle.opgp_codec.specs.Reading.{AnswerOf}

-- Of what the source had before, octets have come up to where it is now, and the parts that they
-- complete are those that were taken.
pub record PartsCame (mode : Mode) (limits : Limits)
    (before now : Option (List ℕ)) (p : IncomingParts) (parts : List PartValue) : Type 0 where
  pub items : List Item
  pub came : Came Keys mode limits before now p.incoming items
  pub composed : IsComposed limits p.composer items parts

-- the source has no more, or one octet past the limit has come, and nothing waits
abbrev pub IsOver : IncomingParts → Option (List ℕ) → Type 0
IsOver p now = IsThrough p.incoming × HasEnded p.incoming now

-- The octets that came are one keyring, whose parts are those that were taken and the last one.
abbrev pub IsKeyring : Mode → Limits → Option (List ℕ) → Option (List ℕ) → List PartValue → Type 0
IsKeyring mode limits before now parts = OfInput before now limits (λ octets. (r : KeyringValue)
    × AnswerOf key_label (ComposesTo limits) mode limits octets (Ok r) × (parts_of r ≡ parts))

-- the result at the end, unless memory ran out
abbrev pub EndsAs : Mode → Limits → Option (List ℕ) → Option (List ℕ) → List PartValue
    → Result (Option Ready) ReadError → Type 0
EndsAs mode limits before now parts (Ok last) =
    IsKeyring mode limits before now (parts ++ ready_parts last)
EndsAs mode limits before now parts (Err (read.Refused fault)) = OfInput before now limits
    (λ octets. AnswerOf {A = KeyringValue} key_label (ComposesTo limits)
    mode limits octets (Err fault))
EndsAs mode limits before now parts (Err read.Read) = ⊥
EndsAs mode limits before now parts (Err read.Memory) = Unit {0}
