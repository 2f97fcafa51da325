-- What keys are used for (RFC 9580, 5.2.3.29).
use Rattle.std.specs.Prelude.{ℕ, Bool, true, false, ◌&&◌, ◌||◌, ◌/◌, ◌%◌, ◌==◌, List, [], ◌∷◌}
use Rattle.opgp_valid.specs.declared.uses.Uses.{Uses}

-- the bit of this value is set in the octet
abbrev pub has_bit : ℕ → ℕ → Bool
has_bit bit octet = octet / bit % 2 == 1

-- what the first octet of key flags allows: 01 to certify, 02 to sign, 04 or 08 to encrypt, 20 (32)
-- to authenticate
abbrev pub uses_of : ℕ → Uses
uses_of flags = record {
  certify = has_bit 1 flags;
  sign = has_bit 2 flags;
  encrypt = has_bit 4 flags || has_bit 8 flags;
  authenticate = has_bit 32 flags;
}

abbrev pub all_uses : Uses
all_uses = record { certify = true; sign = true; encrypt = true; authenticate = true }

abbrev pub no_use : Uses
no_use = record { certify = false; sign = false; encrypt = false; authenticate = false }

-- it allows some use
abbrev pub has_use : Uses → Bool
has_use u = u.certify || (u.sign || (u.encrypt || u.authenticate))

-- what both allow
abbrev pub both : Uses → Uses → Uses
both a b = record {
  certify = a.certify && b.certify;
  sign = a.sign && b.sign;
  encrypt = a.encrypt && b.encrypt;
  authenticate = a.authenticate && b.authenticate;
}

-- what all of a list allow
abbrev pub all_of : List Uses → Uses
all_of [] = all_uses
all_of (u ∷ us) = both u (all_of us)
