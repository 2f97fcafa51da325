-- Where packets of a type may be in a keyring.
use Rattle.std.specs.Prelude.{◌≡◌, ℕ, true, false}
use Rattle.opgp_keyring.specs.declared.sorted.Sorted.{Sorted}
use Rattle.opgp_keyring.specs.declared.sorted.Sorted.TheVariants.{Primary, Behind, Filler, Stray}
use Rattle.opgp_keyring.specs.Keyring.{is_filler, is_primary}
use Rattle.opgp_keyring.specs.Composition.{stands_in_keyring, needs_primary}

-- the type is one of this variant
abbrev pub IsSorted : Sorted → ℕ → Type 0
IsSorted Primary kind = is_primary kind ≡ true
IsSorted Behind kind = needs_primary kind ≡ true
IsSorted Filler kind = is_filler kind ≡ true
IsSorted Stray kind = stands_in_keyring kind ≡ false
