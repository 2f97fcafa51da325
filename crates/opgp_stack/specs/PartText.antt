-- What is written of each part of a keyring, by the kind of the text.
use Rattle.std.specs.Prelude.{ℕ, List}
use Rattle.opgp_keyring.specs.Composed.{PartValue}
use Rattle.opgp_stack.specs.declared.part_text.PartText.{PartText}
use Rattle.opgp_stack.specs.declared.part_text.PartText.TheVariants as texts
use Rattle.opgp_stack.specs.Parts.{certificate_text, chosen_octets, normal_octets, part_lines}
use Rattle.opgp_stack.specs.Parts.{part_octets, part_valued_lines}

abbrev pub text_of_part : PartText → PartValue → List ℕ
text_of_part texts.Lines = part_lines
text_of_part texts.ValuedLines = part_valued_lines
text_of_part texts.AsTheyAre = part_octets
text_of_part texts.Normalised = normal_octets
text_of_part (texts.Alone out) = certificate_text out
text_of_part (texts.Chosen choice) = chosen_octets choice
