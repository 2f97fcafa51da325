-- What was added, and then put.
use Rattle.std.proofs.Common.{◌≡◌, ℕ, Bool, List, [], subst, Option, Result, Ok, Err, append-nil}
use Rattle.std.specs.Result.{OnOk}
use Rattle.opgp_io.specs.Added.{State, Adds, Breaks, Writes}
use Rattle.opgp_io.proofs.Added.{adds_then, breaks_then, all_put, prefix_put}
use Rattle.opgp_codec.specs.Writing.{Puts}

pub put_all : {W T E : Type 0} (held : W → Option (List ℕ)) (failed : W → Bool) → (old new : W) (wa wb wc : List ℕ) (b : State) (result : Result T E) (xs : List ℕ) → wa ≡ []
    → Adds (record { held = held old; failed = failed old; waiting = wa }) b xs
    → Writes b (record { held = held new; failed = failed new; waiting = wc }) result [] → OnOk result (wc ≡ []) → Puts held failed old new result xs
put_all held failed old new wa wb wc b (Ok x) xs none added finished empty =
    let a : State = record { held = held old; failed = failed old; waiting = wa } in
    let c : State = record { held = held new; failed = failed new; waiting = wc } in
    (all_put a c xs none empty (subst (Adds a c) (append-nil xs) (adds_then a b c xs [] added finished)), finished.sound)
put_all held failed old new wa wb wc b (Err x) xs none added finished empty =
    let a : State = record { held = held old; failed = failed old; waiting = wa } in
    let c : State = record { held = held new; failed = failed new; waiting = wc } in
    (prefix_put a c xs none (subst (Breaks a c) (append-nil xs) (breaks_then a b c xs [] added finished)), finished.failed)
