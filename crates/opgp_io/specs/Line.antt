-- Lines, word by word.
use Rattle.std.specs.Prelude.{ℕ, List}
use Rattle.std.specs.Fmt.{decimal}
use Rattle.std.specs.List.{flat_map}
use Rattle.hex.specs.Hex.{encode_upper}
use Rattle.opgp_io.specs.declared.line.Word.{Word}
use Rattle.opgp_io.specs.declared.line.Word.TheVariants.{Text, Decimal, Hex, Escaped}
use Rattle.opgp_io.specs.Texts.{escaped}

-- the octets of a word
abbrev pub word_text : Word → List ℕ
word_text (Text octets) = octets.now
word_text (Decimal n) = decimal n
word_text (Hex octets) = encode_upper octets.now
word_text (Escaped octets) = escaped octets.now

abbrev pub line_text : List Word → List ℕ
line_text words = flat_map word_text words
