-- The program is one that `clap` parses by its simple rules.
use Rattle.std.proofs.Common.{◌≡◌, ap, ◌∙◌, refl, ◌&&◌, Bool, true, false}
use Rattle.clap.specs.Words.{App, is_simple, is_simple_and_free}
use Rattle.clap.proofs.OnLiterals.{clap_on_literals}
use Rattle.opgp_words.specs.Program.{Choice, Choices, IsProgram, program_of}

program_is_free : (show list check state octets write normalise split join : Choices)
    → (signatures digest canonical cleartext diff : Choices) → (reliances tops write_outs normalise_outs split_outs join_outs parts : Choice)
    → is_simple_and_free (program_of show list check state octets write normalise split join
    signatures digest canonical cleartext diff reliances tops write_outs normalise_outs split_outs join_outs parts) ≡ true
unfolding clap_on_literals
program_is_free show list check state octets write normalise split join signatures digest canonical cleartext diff reliances tops
    write_outs normalise_outs split_outs join_outs parts = refl

pub free : (a : App) → IsProgram a → is_simple_and_free a ≡ true
free a p = ap is_simple_and_free p.is ∙ program_is_free p.show_choices p.list_choices p.check_choices
    p.state_choices p.octets_choices p.write_choices p.normalise_choices p.split_choices p.join_choices p.signatures_choices p.digest_choices
    p.canonical_choices p.cleartext_choices p.diff_choices p.reliances p.tops p.write_outs p.normalise_outs p.split_outs p.join_outs p.parts

first : (a b : Bool) → (a && b) ≡ true → a ≡ true
first true b is = refl
first false b is = is

pub simple : (a : App) → IsProgram a → is_simple a ≡ true
simple a p = first (is_simple a) _ (free a p)
