use Rattle.std.proofs.Common.{◌∙◌, ap, List, ℕ}
use Rattle.opgp_state.specs.VerdictFile.{head_line, keyring_digest}
use Rattle.opgp_state.proofs.Fronts.{matched_of}
use Rattle.opgp_state.proofs.verdict_file.lines_in.Goals as goal

pub returns : goal.returns
returns c = matched_of c.behind.result c.args.file.now c.deref.result.now (head_line (keyring_digest c.args.keyring.now) c.args.rows)
    (c.deref.ensures.value ∙ c.in_ok-head.ensures ∙ ap (λ (d : List ℕ). head_line d c.args.rows) c.keyring_digest-digest.ensures) c.behind.ensures.some c.behind.ensures.none
