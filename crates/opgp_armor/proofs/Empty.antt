-- No letters, which decode to no octets.
use Rattle.std.proofs.Common.{◌≡◌, ℕ, List, [], length, refl, sym, Ok}
use Rattle.std.proofs.lemmas.List.{nil_from_length}
use Rattle.base64.specs.Engines.{standard}
use Rattle.base64.specs.GeneralPurpose.{decode_of, IsBytes}
use Rattle.base64.proofs.EngineFacts.{decode_of-encode_of}
use Rattle.opgp_armor.specs.Letters.{base64_of}
use Rattle.opgp_armor.proofs.Standard.{base64_of-nil, bytes_from}

decoded : (c o : List ℕ) → IsBytes o → c ≡ base64_of o → decode_of standard c ≡ Ok o
unfolding base64_of
decoded c o bytes is = rw is (decode_of-encode_of standard o refl bytes)

pub nothing_encodes : (s o : List ℕ) → length s ≡ 0 → o ≡ [] → s ≡ base64_of o
nothing_encodes s o none made = rw (nil_from_length s none, made) (sym base64_of-nil)

pub nothing_decodes : (s o : List ℕ) → length s ≡ 0 → o ≡ [] → decode_of standard s ≡ Ok o
nothing_decodes s o none made = decoded s o (rw made (bytes_from [] tt)) (nothing_encodes s o none made)
