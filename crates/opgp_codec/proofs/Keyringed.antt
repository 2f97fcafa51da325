-- A keyring that has all parts that came is the one.
use Rattle.std.proofs.Common.{◌≡◌, ◌∙◌, ℕ, List, Option, Ok, Err, sym, subst}
use Rattle.opgp_octets.specs.declared.limits.Limits.{Limits}
use Rattle.opgp_keyring.specs.Composed.{PartValue, parts_of}
use Rattle.opgp_keyring.specs.Keyring.{KeyringValue}
use Rattle.opgp_keyring.specs.Parts.{AreParts}
use Rattle.opgp_keyring.proofs.Parts.{same_parts}
use Rattle.opgp_codec.specs.declared.mode.Mode.{Mode}
use Rattle.opgp_codec.specs.declared.read_error.ReadError.{ReadError}
use Rattle.opgp_codec.specs.declared.read_error.ReadError.TheVariants as read
use Rattle.opgp_codec.specs.IncomingParts.{EndsAs, IsKeyring}
use Rattle.opgp_codec.specs.Keyrings.{ComposesTo, key_label}
use Rattle.opgp_codec.specs.Pulled.{OfInput, ReadsTo}
use Rattle.opgp_codec.specs.Reading.{AnswerOf}
use Rattle.opgp_codec.proofs.Coming.{of_input}

-- the parts are those of a keyring
pub parts_at_end : (mode : Mode) (limits : Limits) (before now : Option (List ℕ)) (parts : List PartValue) → IsKeyring mode limits before now parts → AreParts parts
parts_at_end mode limits before now parts h = record { ring = h.came.2.0; whole = h.came.2.2 }

pub keyring_at_end : (mode : Mode) (limits : Limits) (before now : Option (List ℕ)) (parts : List PartValue) (ring : KeyringValue) → parts_of ring ≡ parts → IsKeyring mode limits before now parts
    → OfInput before now limits (λ octets. AnswerOf key_label (ComposesTo limits) mode limits octets (Ok ring))
keyring_at_end mode limits before now parts ring e h =
    of_input before now limits _ _ (λ octets k. subst (λ (r : KeyringValue). AnswerOf key_label (ComposesTo limits) mode limits octets (Ok r)) (same_parts k.0 ring (k.2 ∙ sym e)) k.1) h

-- a fault, or the end of memory
pub error_at_end : (mode : Mode) (limits : Limits) (before now : Option (List ℕ)) (parts : List PartValue) (e : ReadError) → EndsAs mode limits before now parts (Err e) → ReadsTo {A = KeyringValue} before now limits (AnswerOf key_label (ComposesTo limits) mode limits) (Err e)
error_at_end mode limits before now parts (read.Refused fault) h = h
error_at_end mode limits before now parts read.Read h = h
error_at_end mode limits before now parts read.Memory h = h
