use Rattle.std.proofs.Common.{◌++◌, Option, ap, sym, ◌∙◌, append-nil}
use Rattle.opgp_keyring.specs.declared.ready.Ready.{Ready}
use Rattle.opgp_keyring.specs.State.{ready_parts}
use Rattle.opgp_keyring.proofs.Gathered.{all_kept}
use Rattle.opgp_keyring.proofs.composing.finish.Goals as goal

pub returns-in-Ok-None : goal.returns-in-Ok-None
returns-in-Ok-None c limits given h =
    let k = c.in-Ok-None.ensures.ok limits given h.parts h.fed in
    let whole = k.2 ∙ ap (λ (o : Option Ready). h.parts ++ ready_parts o) c.in-Ok-None.field-0-is ∙ append-nil h.parts in
    all_kept limits given c.args.ring k.0 (h.has ∙ sym whole) k.1

pub returns-in_ok-keep-in-Ok-Some : goal.returns-in_ok-keep-in-Ok-Some
returns-in_ok-keep-in-Ok-Some c limits given h =
    let k = c.in-Ok-Some.ensures.ok limits given h.parts h.fed in
    let whole = k.2 ∙ ap (λ (o : Option Ready). h.parts ++ ready_parts o) c.in-Ok-Some.field-0-is in
    all_kept limits given c.keep.new.self k.0 (c.in_ok-keep-in-Ok-Some.ensures h.parts h.has (record { ring = k.0; whole = whole }) ∙ sym whole) k.1

pub returns-in-Err : goal.returns-in-Err
returns-in-Err c limits given h = c.in-Err.ensures.ok limits given h.parts h.fed
