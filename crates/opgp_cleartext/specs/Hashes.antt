-- The headers of a cleartext message: names of hash algorithms (RFC 9580, 6.2.2.3, 7.1 and 9.5).
use Rattle.std.specs.Prelude.{ℕ, ◌==◌, nat_eq, Bool, ◌&&◌, ◌||◌, if◌then◌else◌, List, [], ◌∷◌, drop}
use Rattle.std.specs.Prelude.{codes}
use Rattle.std.specs.List.{list_all, starts_with}
use Rattle.std.specs.Str.{bytes_eq}
use Rattle.opgp_armor.specs.Text.{onto}
use Rattle.opgp_cleartext.specs.Line.{is_blank, without_blanks}

-- the names of hash algorithms (9.5)
abbrev pub is_hash_name : List ℕ → Bool
is_hash_name name =
    bytes_eq name (codes "SHA256") || (bytes_eq name (codes "SHA512")
    || (bytes_eq name (codes "SHA384") || (bytes_eq name (codes "SHA224")
    || (bytes_eq name (codes "SHA1") || (bytes_eq name (codes "SHA3-256")
    || (bytes_eq name (codes "SHA3-512") || (bytes_eq name (codes "MD5")
    || bytes_eq name (codes "RIPEMD160"))))))))

-- without the blanks in front of it
unfoldable pub behind_blanks : List ℕ → List ℕ
behind_blanks [] = []
behind_blanks (c ∷ o) = if is_blank c then behind_blanks o else c ∷ o

-- the parts between commas
unfoldable pub parts : List ℕ → List (List ℕ)
parts [] = [] ∷ []
parts (c ∷ o) = if c == 44 then [] ∷ parts o else onto c (parts o)

-- a name, with blanks around it
abbrev pub is_named : List ℕ → Bool
is_named part = is_hash_name (without_blanks (behind_blanks part))

-- `Hash: ` and names between commas: a header that may be in a message
abbrev pub is_hash_header : List ℕ → Bool
is_hash_header line =
    starts_with nat_eq line (codes "Hash: ") && list_all is_named (parts (drop 6 line))
