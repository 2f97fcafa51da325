-- Fields of hashed octets: what each means, its octets, and where they are.
use Rattle.std.specs.Prelude.{ℕ, ◌+◌, List, [], ◌∷◌, length}
use Rattle.std.specs.List.{flat_map}
use Rattle.opgp_explain.specs.declared.field.Field.{Field}
use Rattle.opgp_explain.specs.declared.meaning.Meaning.{Meaning}

-- a meaning, and the octets that have it
pub record FieldValue : Type 0 where
  pub meaning : Meaning
  pub octets : List ℕ

infix 20 ◌is◌
abbrev pub ◌is◌ : Meaning → List ℕ → FieldValue
meaning is octets = record { meaning = meaning; octets = octets }

-- the octets of fields, one after the other
abbrev pub octets_of : List FieldValue → List ℕ
octets_of fields = flat_map (λ (f : FieldValue). f.octets) fields

-- Where they are, if the first begins at this offset: each begins where the one before it ends.
abbrev pub placed : ℕ → List FieldValue → List Field
placed offset [] = []
placed offset (f ∷ fields) =
    (record { offset = offset; length = length f.octets; meaning = f.meaning })
    ∷ placed (offset + length f.octets) fields
