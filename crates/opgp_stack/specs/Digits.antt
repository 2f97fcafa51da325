-- The digits of a key's name, as they are kept.
use Rattle.std.specs.Prelude.{ℕ, List, take}
use Rattle.opgp_stack.specs.declared.key_text.Digits.{Digits}

abbrev pub digits_in : Digits → List ℕ
digits_in d = take d.size d.room
