-- What a key's line begins with.
use Rattle.std.specs.Prelude.{ℕ, List, codes}
use Rattle.opgp_stack.specs.declared.listing.Role.{Role}
use Rattle.opgp_stack.specs.declared.listing.Role.TheVariants.{Primary, Subkey}

abbrev pub role_name : Role → List ℕ
role_name Primary = codes "pub"
role_name Subkey = codes "sub"
