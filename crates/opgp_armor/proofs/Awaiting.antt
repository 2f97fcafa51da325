-- What a reader keeps of the letters so far, against the octets that they gave.
use Rattle.std.specs.Prelude.{◌≡◌, ℕ, ◌%◌, ◌==◌, ◌<◌, true, not, List, [], ◌++◌, length}
use Rattle.std.specs.List.{list_all}
use Rattle.opgp_armor.specs.Letters.{is_letter, base64_of, Pending}
use Rattle.opgp_armor.proofs.Octets.{AreOctets}

-- the letters so far are whole groups, which gave the octets, and those that wait
pub record Holds (letters octets : List ℕ) (p : Pending) : Type 0 where
  pub joined : letters ≡ base64_of octets ++ p.letters
  pub are_octets : AreOctets octets
  pub few : length p.letters < 4
  pub are_letters : list_all is_letter p.letters ≡ true
  pub end : p.padded ≡ true → p.letters ≡ []
  pub padding : p.padded ≡ not (length octets % 3 == 0)

-- with the letters to come, those that wait are the base64 of the octets to come
pub record Awaits (p : Pending) (more octets : List ℕ) : Type 0 where
  pub joined : p.letters ++ more ≡ base64_of octets
  pub are_octets : AreOctets octets
  pub few : length p.letters < 4
  pub end : p.padded ≡ true → octets ≡ []
