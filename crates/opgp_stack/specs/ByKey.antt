-- The certificates of a keyring that have keys of some names, or the others: what is written of
-- them.
use denote.Ref.{Bor}
use Rattle.std.specs.Prelude.{ℕ, Bool, List}
use Rattle.std.specs.BTreeMap.{BTreeMap}
use Rattle.opgp_keyring.specs.Keyring.{CertificateValue}
use Rattle.opgp_codec.specs.declared.out.Out.{Out}
use Rattle.opgp_codec.specs.Writing.{certificates_text}
use Rattle.opgp_stack.specs.KeyName.{picked}
use Rattle.opgp_stack.specs.WantedKeys.{AreNotes, keys_of}

-- each certificate that is picked is written on its own; and which names a key had
pub record HasNamed {D : Type 0} (has : D → List ℕ → Type 0) (out : Out) (names : List (List ℕ))
    (except : Bool) (notes : BTreeMap (Bor (List ℕ)) Bool) (draft : D) (cs : List CertificateValue)
    : Type 0 where
  pub text : has draft (certificates_text out (picked names except cs))
  pub noted : AreNotes names (keys_of cs) notes
