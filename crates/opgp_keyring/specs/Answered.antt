-- What composing returns: a refusal is a result and not an error.
use Rattle.std.specs.Prelude.{List}
use Rattle.opgp_octets.specs.declared.limits.Limits.{Limits}
use Rattle.opgp_keyring.specs.declared.composing.Composed.{Composed}
use Rattle.opgp_keyring.specs.declared.composing.Composed.TheVariants.{Ring, Refused}
use Rattle.opgp_keyring.specs.Composed.{IsFault, IsKeyringOf}
use Rattle.opgp_keyring.specs.Composition.{Item}

-- the keyring of these items, or their one fault
abbrev pub IsComposedOf : Limits → List Item → Composed → Type 0
IsComposedOf limits items (Ring r) = IsKeyringOf limits items r
IsComposedOf limits items (Refused fault) = IsFault limits items fault
