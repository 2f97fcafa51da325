-- Fields that are told one after the other.
use Rattle.std.specs.Prelude.{◌≡◌, ◌+◌, List, ◌++◌, length}
use Rattle.opgp_explain.specs.Field.{FieldValue, octets_of, placed}
use Rattle.opgp_explain.specs.declared.telling.Telling.{Telling}

-- Behind the fields that were told before come these, with their places.
pub record Tells (before after : Telling) (told : List FieldValue) : Type 0 where
  pub fields : after.fields.items ≡ before.fields.items ++ placed before.end told
  pub end : after.end ≡ before.end + length (octets_of told)
