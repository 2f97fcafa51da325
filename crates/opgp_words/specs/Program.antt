-- The command line as `clap` reads it: fourteen commands, and the options of each.
use Rattle.std.specs.Prelude.{◌≡◌, List, [], ◌∷◌, ◌++◌, Some, true, false, codes, map}
use Rattle.std.specs.Borrow.{Bor}
use Rattle.std.specs.List.{AllByRecursion}
use Rattle.clap.specs.Words.{App, Rule, Shape, Text, app_of, new_rule, with_rule}
use Rattle.clap.specs.Simple.{new_shape}
use Rattle.clap.specs.declared.builder.action.ArgAction.TheVariants.{Append, Set, SetTrue}
use Rattle.clap.specs.declared.builder.command.Command.{Command}
use Rattle.clap.specs.declared.builder.value_parser.ValueParser.{ValueParser}
use Rattle.clap.specs.declared.builder.value_parser.ValueParser.TheVariants as parser
use Rattle.opgp_octets.specs.declared.limits.Range.{Range}
use Rattle.opgp_octets.specs.Ranges.{line_range, body_range, cert_range, input_range, pieces_range}

-- the values that an option takes
abbrev pub Choice : Type 0
Choice = Bor (List (Bor Text))

abbrev pub words_in : Choice → List Text
words_in choice = map (λ word. word.now) choice.now

-- an option `--name` with one value
abbrev pub valued_rule : Text → ValueParser → Rule
valued_rule name p = record (new_rule name) {
  long = Some name;
  action = Some Set;
  value_names = 1;
  parser = Some p;
}

-- the same, which may be given again and again
abbrev pub repeated_rule : Text → ValueParser → Rule
repeated_rule name parser = record (valued_rule name parser) { action = Some Append }

-- one of some values, `usual` if the option isn't given
abbrev pub choice_rule : Text → Choice → Text → Rule
choice_rule name choice usual =
    record (valued_rule name (parser.Names choice)) { defaults = usual ∷ [] }

-- a limit, `usual` if the option isn't given
abbrev pub limit_rule : Text → Range → Text → Rule
limit_rule name range usual =
    record (valued_rule name (parser.Unsigned range.least range.most)) { defaults = usual ∷ [] }

-- any number of 64 bits
abbrev pub number_rule : Text → Rule
number_rule name = valued_rule name (parser.Unsigned 0 18446744073709551615)

abbrev pub mode_rule : Choice → Rule
mode_rule modes = choice_rule (codes "mode") modes (codes "auto")

abbrev pub outside_rule : Choice → Rule
outside_rule policies = choice_rule (codes "outside") policies (codes "skip")

abbrev pub malformed_rule : Choice → Rule
malformed_rule policies = choice_rule (codes "malformed") policies (codes "refuse")

abbrev pub hints_rule : Choice → Rule
hints_rule whens = choice_rule (codes "hints") whens (codes "auto")

abbrev pub out_rule : Choice → Rule
out_rule outs = choice_rule (codes "out") outs (codes "armor")

abbrev pub of_rule : Choice → Rule
of_rule tops = choice_rule (codes "of") tops (codes "ring")

abbrev pub line_rule : Rule
line_rule = limit_rule (codes "line") line_range (codes "8192")

abbrev pub body_rule : Rule
body_rule = limit_rule (codes "body") body_range (codes "16777216")

abbrev pub cert_rule : Rule
cert_rule = limit_rule (codes "cert") cert_range (codes "67108864")

abbrev pub input_rule : Rule
input_rule = limit_rule (codes "input") input_range (codes "1099511627776")

abbrev pub pieces_rule : Rule
pieces_rule = limit_rule (codes "pieces") pieces_range (codes "1048576")

abbrev pub row_rule : Rule
row_rule = number_rule (codes "row")

abbrev pub nth_rule : Rule
nth_rule = number_rule (codes "nth")

abbrev pub user_id_rule : Rule
user_id_rule = repeated_rule (codes "user-id") (parser.Unsigned 0 18446744073709551615)

-- an option `--name` without a value
abbrev pub flag_rule : Text → Rule
flag_rule name = record (new_rule name) { long = Some name; action = Some SetTrue }

abbrev pub merge_rule : Rule
merge_rule = flag_rule (codes "merge")

abbrev pub values_rule : Rule
values_rule = flag_rule (codes "values")

abbrev pub fingerprints_rule : Rule
fingerprints_rule = flag_rule (codes "fingerprints")

abbrev pub places_rule : Rule
places_rule = flag_rule (codes "places")

abbrev pub all_rule : Rule
all_rule = flag_rule (codes "all")

abbrev pub explain_rule : Rule
explain_rule = flag_rule (codes "explain")

abbrev pub own_signatures_rule : Rule
own_signatures_rule = flag_rule (codes "own-signatures")

abbrev pub no_attributes_rule : Rule
no_attributes_rule = flag_rule (codes "no-attributes")

abbrev pub bound_rule : Rule
bound_rule = flag_rule (codes "bound")

abbrev pub newest_rule : Rule
newest_rule = flag_rule (codes "newest")

abbrev pub progress_rule : Rule
progress_rule = flag_rule (codes "progress")

abbrev pub quiet_rule : Rule
quiet_rule = flag_rule (codes "quiet")

-- any text but the empty one
abbrev pub text_rule : Text → Rule
text_rule name = valued_rule name parser.NonEmptyString

-- the same, which must be given
abbrev pub wanted_rule : Text → Rule
wanted_rule name = record (text_rule name) { required = true }

abbrev pub signatures_rule : Rule
signatures_rule = wanted_rule (codes "signatures")

abbrev pub signature_rule : Rule
signature_rule = number_rule (codes "octets")

abbrev pub salt_rule : Rule
salt_rule = flag_rule (codes "salt")

abbrev pub at_rule : Rule
at_rule = text_rule (codes "at")

abbrev pub judged_at_rule : Rule
judged_at_rule = wanted_rule (codes "at")

abbrev pub verdicts_rule : Rule
verdicts_rule = text_rule (codes "verdicts")

abbrev pub policy_rule : Choice → Rule
policy_rule reliances = choice_rule (codes "policy") reliances (codes "usual")

abbrev pub part_rule : Choice → Rule
part_rule parts = choice_rule (codes "of") parts (codes "document")

abbrev pub old_rule : Rule
old_rule = wanted_rule (codes "old")

abbrev pub spool_rule : Rule
spool_rule = text_rule (codes "spool")

abbrev pub key_rule : Rule
key_rule = repeated_rule (codes "key") parser.NonEmptyString

abbrev pub keys_rule : Rule
keys_rule = text_rule (codes "keys")

abbrev pub except_rule : Rule
except_rule = flag_rule (codes "except")

-- the values of `--mode`, `--outside`, `--malformed`, `--hints`, `--out`, `--of` and `--policy`
abbrev pub AreModes : Choice → Type 0
AreModes modes = words_in modes ≡ codes "auto" ∷ codes "armor" ∷ codes "binary" ∷ []

abbrev pub ArePolicies : Choice → Type 0
ArePolicies policies = words_in policies ≡ codes "skip" ∷ codes "refuse" ∷ []

abbrev pub AreSignaturePolicies : Choice → Type 0
AreSignaturePolicies policies = words_in policies ≡ codes "refuse" ∷ codes "keep" ∷ []

abbrev pub AreWhens : Choice → Type 0
AreWhens whens = words_in whens ≡ codes "auto" ∷ codes "always" ∷ codes "never" ∷ []

abbrev pub AreOuts : Choice → Type 0
AreOuts outs = words_in outs ≡ codes "armor" ∷ codes "binary" ∷ []

abbrev pub AreTops : Choice → Type 0
AreTops tops = words_in tops ≡ codes "ring" ∷ codes "literal" ∷ []

abbrev pub AreReliances : Choice → Type 0
AreReliances reliances = words_in reliances ≡ codes "usual" ∷ codes "any" ∷ []

-- the values of `--of` for a cleartext message
abbrev pub AreParts : Choice → Type 0
AreParts parts = words_in parts ≡ codes "document" ∷ codes "hashed" ∷ codes "signatures" ∷ []

-- the program's command with the options of the limits added
abbrev pub with_limits : App → App
with_limits app = with_rule (with_rule (with_rule (with_rule (with_rule app line_rule) body_rule)
    cert_rule) input_rule) pieces_rule

-- the values of the four options of every command that take one of some words
pub record Choices : Type 0 where
  pub modes : Choice
  pub policies : Choice
  pub signature_policies : Choice
  pub whens : Choice

pub record AreChoices (choices : Choices) : Type 0 where
  pub modes : AreModes choices.modes
  pub policies : ArePolicies choices.policies
  pub signature_policies : AreSignaturePolicies choices.signature_policies
  pub whens : AreWhens choices.whens

-- the command of this name takes the mode, the policies for lines outside and for malformed
-- signatures, the limits, `--progress`, `--quiet`, `--hints`, `--spool`, and these options
abbrev pub command_shape : Text → Choices → List Rule → Shape
command_shape name choices more = record (new_shape name) {
  rules = mode_rule choices.modes
      ∷ outside_rule choices.policies ∷ malformed_rule choices.signature_policies
      ∷ line_rule ∷ body_rule ∷ cert_rule ∷ input_rule ∷ pieces_rule ∷ progress_rule ∷ quiet_rule
      ∷ hints_rule choices.whens ∷ spool_rule ∷ more;
}

pub record IsCommand (name : Text) (more : List Rule) (c : Command) : Type 0 where
  pub choices : Choices
  pub are_choices : AreChoices choices
  pub app : app_of c ≡ record { top = command_shape name choices more; subs = [] }

abbrev pub AllChoices : List Choices → Type 0
AllChoices = AllByRecursion AreChoices

abbrev pub AllOuts : List Choice → Type 0
AllOuts = AllByRecursion AreOuts

-- the program without its commands
abbrev pub bare_program : App
bare_program = record {
  top = record (new_shape (codes "opgp")) { subcommand_required = true };
  subs = [];
}

-- the program with some of its commands
abbrev pub with_commands : List Shape → App
with_commands commands = record {
  top = record (new_shape (codes "opgp")) { subcommand_required = true; is_leaf = false };
  subs = commands;
}

-- those that list what they read, in order
abbrev pub listing_commands : (show list check state octets : Choices) → (reliances tops : Choice)
    → List Shape
listing_commands show list check state octets reliances tops =
    command_shape (codes "show") show (values_rule ∷ [])
    ∷ command_shape (codes "list") list (values_rule ∷ [])
    ∷ command_shape (codes "check") check (fingerprints_rule ∷ places_rule ∷ [])
    ∷ command_shape (codes "state") state
    (judged_at_rule ∷ policy_rule reliances ∷ verdicts_rule ∷ values_rule ∷ [])
    ∷ command_shape (codes "octets") octets
    (row_rule ∷ of_rule tops ∷ all_rule ∷ explain_rule ∷ []) ∷ []

-- those that write keyrings
abbrev pub writing_commands : (write normalise split join : Choices)
    → (write_outs normalise_outs split_outs join_outs : Choice) → List Shape
writing_commands write normalise split join write_outs normalise_outs split_outs join_outs =
    command_shape (codes "write") write
    (out_rule write_outs ∷ own_signatures_rule ∷ no_attributes_rule ∷ user_id_rule ∷ bound_rule
    ∷ verdicts_rule ∷ newest_rule ∷ at_rule ∷ [])
    ∷ command_shape (codes "normalise") normalise (out_rule normalise_outs ∷ [])
    ∷ command_shape (codes "split") split
    (out_rule split_outs ∷ nth_rule ∷ key_rule ∷ keys_rule ∷ except_rule ∷ [])
    ∷ command_shape (codes "join") join (out_rule join_outs ∷ merge_rule ∷ []) ∷ []

pub record IsListing (program : App) : Type 0 where
  pub show_choices : Choices
  pub list_choices : Choices
  pub check_choices : Choices
  pub state_choices : Choices
  pub octets_choices : Choices
  pub are_choices : AllChoices (show_choices ∷ list_choices ∷ check_choices ∷ state_choices
      ∷ octets_choices ∷ [])
  pub reliances : Choice
  pub are_reliances : AreReliances reliances
  pub tops : Choice
  pub are_tops : AreTops tops
  pub is : program ≡ with_commands (listing_commands show_choices list_choices check_choices
      state_choices octets_choices reliances tops)

pub record IsWriting (program : App) : Type 0 where
  pub before : App
  pub lists : IsListing before
  pub write_choices : Choices
  pub normalise_choices : Choices
  pub split_choices : Choices
  pub join_choices : Choices
  pub are_choices : AllChoices (write_choices ∷ normalise_choices ∷ split_choices
      ∷ join_choices ∷ [])
  pub write_outs : Choice
  pub normalise_outs : Choice
  pub split_outs : Choice
  pub join_outs : Choice
  pub are_outs : AllOuts (write_outs ∷ normalise_outs ∷ split_outs ∷ join_outs ∷ [])
  pub is : program ≡ with_commands (listing_commands lists.show_choices lists.list_choices
      lists.check_choices lists.state_choices lists.octets_choices lists.reliances lists.tops
      ++ writing_commands write_choices normalise_choices split_choices join_choices write_outs
      normalise_outs split_outs join_outs)

-- the fourteen commands, in order, each with its own values for `--mode`, `--outside`,
-- `--malformed`, `--policy`, `--of` and `--out`
abbrev pub program_of : (show list check state octets write normalise split join : Choices)
    → (signatures digest canonical cleartext diff : Choices)
    → (reliances tops write_outs normalise_outs split_outs join_outs parts : Choice) → App
program_of show list check state octets write normalise split join signatures digest canonical
    cleartext diff reliances tops write_outs normalise_outs split_outs join_outs parts =
    with_commands (listing_commands show list check state octets reliances tops
    ++ (writing_commands write normalise split join write_outs normalise_outs split_outs join_outs
    ++ (command_shape (codes "signatures") signatures []
    ∷ command_shape (codes "digest") digest (signatures_rule ∷ signature_rule ∷ salt_rule ∷ [])
    ∷ command_shape (codes "canonical") canonical []
    ∷ command_shape (codes "cleartext") cleartext (part_rule parts ∷ [])
    ∷ command_shape (codes "diff") diff (old_rule ∷ []) ∷ [])))

pub record IsProgram (program : App) : Type 0 where
  pub show_choices : Choices
  pub list_choices : Choices
  pub check_choices : Choices
  pub state_choices : Choices
  pub octets_choices : Choices
  pub write_choices : Choices
  pub normalise_choices : Choices
  pub split_choices : Choices
  pub join_choices : Choices
  pub signatures_choices : Choices
  pub digest_choices : Choices
  pub canonical_choices : Choices
  pub cleartext_choices : Choices
  pub diff_choices : Choices
  pub are_choices : AllChoices (show_choices ∷ list_choices ∷ check_choices ∷ state_choices
      ∷ octets_choices ∷ write_choices ∷ normalise_choices
      ∷ split_choices ∷ join_choices ∷ signatures_choices
      ∷ digest_choices ∷ canonical_choices ∷ cleartext_choices ∷ diff_choices ∷ [])
  pub reliances : Choice
  pub are_reliances : AreReliances reliances
  pub tops : Choice
  pub are_tops : AreTops tops
  pub write_outs : Choice
  pub normalise_outs : Choice
  pub split_outs : Choice
  pub join_outs : Choice
  pub are_outs : AllOuts (write_outs ∷ normalise_outs ∷ split_outs ∷ join_outs ∷ [])
  pub parts : Choice
  pub are_parts : AreParts parts
  pub is : program ≡ program_of show_choices list_choices check_choices state_choices
      octets_choices write_choices normalise_choices split_choices join_choices
      signatures_choices digest_choices canonical_choices cleartext_choices diff_choices
      reliances tops write_outs normalise_outs split_outs join_outs parts
