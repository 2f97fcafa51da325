use Rattle.std.proofs.Common.{List, Option, inr}
use Rattle.opgp_valid.specs.declared.cause.Cause.{Cause}
use Rattle.opgp_valid.specs.declared.states.PartState.{PartState}
use Rattle.opgp_state.specs.KeyringStates.{causes_in, states_in}
use Rattle.opgp_state.specs.StateLines.{lines_from}
use Rattle.opgp_state.specs.declared.basis.Basis.TheVariants.{Claims, Verdicts}
use Rattle.opgp_stack.specs.Running.{Text}
use Rattle.opgp_stack.proofs.States.{claimed_states, said_states}
use Rattle.opgp_stack.proofs.stating.write_states.Goals as goal

pub returns-in_ok-states-in-None : goal.returns-in_ok-states-in-None
returns-in_ok-states-in-None g c =
    let task = c.args.task.now in
    let states : List (List PartState) = states_in c.in_ok-states-in-None.states in
    let causes : List (List (Option Cause)) = causes_in c.in_ok-states-in-None.states in
    inr (Text (lines_from Claims task.values 0 c.args.keyring.now.certificates states causes), claimed_states task.values task.policy task.at c.args.keyring.now c.args.file states causes c.in-None.is c.in_ok-states-in-None.ensures.states c.in_ok-states-in-None.ensures.causes, c.write_lines.ensures)

pub returns-in_ok-states-in-Some-2 : goal.returns-in_ok-states-in-Some-2
returns-in_ok-states-in-Some-2 g c =
    let task = c.args.task.now in
    let states : List (List PartState) = states_in c.in_ok-states-in-Some-2.states in
    let causes : List (List (Option Cause)) = causes_in c.in_ok-states-in-Some-2.states in
    inr (Text (lines_from Verdicts task.values 0 c.args.keyring.now.certificates states causes), said_states task.values task.policy task.at c.args.keyring.now c.args.file c.in-Some.file c.in-Some-2.verdicts.items states causes c.in-Some.is (rw c.in-Some-2.is at c.in_ok-verdicts-in-Some.ensures) (rw c.deref.ensures.value at c.in_ok-states-in-Some-2.ensures.states) (rw c.deref.ensures.value at c.in_ok-states-in-Some-2.ensures.causes), c.write_lines-in-Some-2.ensures)
