-- Labels and packets that are found step by step.
use Rattle.std.proofs.Common.{◌≡◌, ◌+◌, ◌-◌, ◌≤◌, ◌++◌, ℕ, List, length, take, drop, ap, ◌∙◌, arith}
use Rattle.std.proofs.lemmas.List.{length-drop, take_rest}
use Rattle.opgp_octets.specs.declared.limits.Limits.{Limits}
use Rattle.opgp_keyring.specs.Composition.{Item}
use Rattle.opgp_codec.specs.declared.accepts.Accepts.{Accepts}
use Rattle.opgp_codec.specs.declared.items.Items.{Items}
use Rattle.opgp_codec.specs.declared.mode.Mode.{Mode}
use Rattle.opgp_codec.specs.Items.{Fed}

-- n octets of the rest of a piece
pub fits : (piece : List ℕ) (at n : ℕ) → at ≤ length piece → n ≤ length (take (length piece - at) (drop at piece)) → at + n ≤ length piece
fits piece at n within h = omega (arith, rw (take_rest piece at) at h, length-drop at piece)

pub rest_length : (piece : List ℕ) (at : ℕ) → length (take (length piece - at) (drop at piece)) ≡ length piece - at
rest_length piece at = ap length (take_rest piece at) ∙ length-drop at piece

-- a reader was given octets of the rest of a piece
abbrev pub Steps : Items → Items → List ℕ → List Item → Type 0
Steps old new octets found = (accepts : Accepts) (mode : Mode) (limits : Limits) (input : List ℕ) (list : List Item) → Fed accepts mode limits old input list → Fed accepts mode limits new (input ++ octets) (list ++ found)
