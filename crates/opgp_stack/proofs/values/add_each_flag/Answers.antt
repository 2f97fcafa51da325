use Rattle.std.proofs.Common.{◌≡◌, ℕ, ◌-◌, ◌≤◌, List, [], ◌∷◌, ◌++◌, length, map, take, drop, get_or, ap, sym, arith}
use Rattle.std.proofs.lemmas.List.{take_all}
use Rattle.opgp_io.proofs.Extended.{extends_broken_left, extends_less_left}
use Rattle.opgp_packet.specs.Flags.{flag_shown}
use Rattle.opgp_packet.specs.declared.flags.Flag.{Flag}
use Rattle.opgp_stack.specs.Values.{flag_word, flag_words}
use Rattle.opgp_stack.proofs.values.add_each_flag.Goals as goal

first_flag : (n : ℕ) (fs : List Flag) (d : Flag) → 1 ≤ length fs
    → flag_words n (map flag_shown fs) ≡ flag_word n (flag_shown (get_or fs 0 d)) ++ flag_words n (map flag_shown (take (length fs - 1) (drop 1 fs)))
first_flag n [] d some = absurd (omega (arith, some))
first_flag n (f ∷ fs) d some = ap (λ (r : List Flag). flag_word n (flag_shown f) ++ flag_words n (map flag_shown r)) (sym (take_all (length (f ∷ fs) - 1) fs (omega arith)))

pub returns-in_err-add_flag : goal.returns-in_err-add_flag
returns-in_err-add_flag g c =
    let left = c.each.left.now in
    extends_broken_left (flag_words c.args.flags (map flag_shown (take (length left - 1) (drop 1 left)))) c.each.invariant (first_flag c.args.flags left _ c.in-len1-up.len_at_least) c.from_residual.ensures.0 c.in_err-add_flag.ensures

pub each-preserved : goal.each-preserved
each-preserved g c = extends_less_left c.each.invariant (first_flag c.args.flags c.each.left.now _ c.in-len1-up.len_at_least) c.in_ok-add_flag.ensures
