use Rattle.std.proofs.Common.{◌≡◌, ℕ, List, [], ◌++◌, append-nil, append_assoc, codes, map, refl}
use Rattle.opgp_io.proofs.Extended.{extends_stop, extends_then}
use Rattle.opgp_packet.specs.Flags.{flag_shown}
use Rattle.opgp_stack.specs.Values.{digits_or_none, first_flags, flag_words}
use Rattle.opgp_stack.proofs.values.add_flags.Goals as goal

-- the word and the digits, and then the rest
in_steps : (w d e a u : List ℕ) → e ≡ d → ((w ++ d) ++ a) ++ u ≡ (w ++ (e ++ [])) ++ (a ++ u)
in_steps w d e a u same = rw same (simp (append-nil, append_assoc))

pub returns-in_err-add_words : goal.returns-in_err-add_words
returns-in_err-add_words g c =
    let names : List ℕ = flag_words (first_flags c.args.flags.now) (map flag_shown c.args.names.now) in
    extends_stop (names ++ codes "\n") (in_steps c.args.word.now (digits_or_none c.args.flags.now) _ names (codes "\n") c.digits_word.ensures) c.from_residual.ensures.0 c.in_err-add_words.ensures

pub returns-in_err-add_each_flag : goal.returns-in_err-add_each_flag
returns-in_err-add_each_flag g c =
    let names : List ℕ = flag_words (first_flags c.args.flags.now) (map flag_shown c.args.names.now) in
    extends_then {ys = names ++ codes "\n"} (in_steps c.args.word.now (digits_or_none c.args.flags.now) _ names (codes "\n") c.digits_word.ensures) c.in_ok-add_words.ensures
    (extends_stop {xs = names} (codes "\n") refl c.from_residual-in_err-add_each_flag.ensures.0 (rw c.first.ensures at c.in_err-add_each_flag.ensures))

pub returns : goal.returns
returns g c =
    let names : List ℕ = flag_words (first_flags c.args.flags.now) (map flag_shown c.args.names.now) in
    extends_then {ys = names ++ codes "\n"} (in_steps c.args.word.now (digits_or_none c.args.flags.now) _ names (codes "\n") c.digits_word.ensures) c.in_ok-add_words.ensures
    (extends_then {xs = names} {ys = codes "\n"} refl (rw c.first.ensures at c.in_ok-add_each_flag.ensures) c.add.ensures)
