use Rattle.std.proofs.Common.{◌≡◌, ◌++◌, length}
use Rattle.opgp_armor.specs.Letters.{base64_of}
use Rattle.opgp_armor.specs.Written.{letter_lines, text_of}
use Rattle.opgp_armor.proofs.writing.add_letters.Given as goal

abbrev pub invariant-rows : goal.invariant-rows
invariant-rows l = l.text.items ++ text_of (letter_lines (base64_of l.rest)) ≡ l.fn.text.items ++ text_of (letter_lines (base64_of l.octets))

abbrev pub decreases-rows : goal.decreases-rows
decreases-rows l = length l.rest
