use Rattle.std.proofs.Common.{◌∙◌, inr, refl}
use Rattle.opgp_keyring.specs.Keyring.{KeyringValue, flat}
use Rattle.opgp_codec.specs.Writing.{packets_text}
use Rattle.opgp_stack.specs.Running.{OtherVerdicts, Text}
use Rattle.opgp_stack.proofs.Bounds.{bound_said}
use Rattle.opgp_stack.proofs.bounding.write_bound.Goals as goal

pub returns-in_ok-bound-in-Some : goal.returns-in_ok-bound-in-Some
returns-in_ok-bound-in-Some g c =
    let bound : KeyringValue = c.in_ok-bound-in-Some.bound in
    inr (
      Text (packets_text c.args.task.now.out (flat bound)),
      bound_said c.args.task.now c.args.file.now c.args.keyring bound c.in-Some.verdicts.items (rw c.in-Some.is at c.in_ok-verdicts.ensures) (rw c.deref.ensures.value at c.in_ok-bound-in-Some.ensures),
      (c.write_keyring-written.result, c.done.ensures ∙ c.end.ensures, c.write_keyring-written.ensures),
    )

pub returns-in-None : goal.returns-in-None
returns-in-None g c = inr (OtherVerdicts, inr (rw c.in-None.is at c.in_ok-verdicts.ensures, refl), (refl, refl))
