use Rattle.std.proofs.Common.{option_map}
use Rattle.opgp_stack.proofs.KeyFiles.{none_at}
use Rattle.opgp_stack.proofs.key_file.keys_in.Goals as goal

pub returns-then-not-branch : goal.returns-then-not-branch
returns-then-not-branch c = none_at c.args.file.now c.in-Some.octets.now c.first_line.result.0.now (option_map (λ rest. rest.now) c.first_line.result.1) c.lines.line c.lines.keys.items c.first_line.ensures.lines
    (rw c.if-not-branch.true at c.in_ok-add_line.ensures.named) (rw c.in-Some.is at c.lines.invariant.so_far)
