use Rattle.std.proofs.Common.{◌∙◌, ℕ, List, map, sym, ap}
use Rattle.opgp_report.specs.First.{print_of}
use Rattle.opgp_report.proofs.NamedKeys.{twice}
use Rattle.opgp_report.proofs.signers.index_keys.Goals as goal

-- the fingerprints are those of the keys' bodies
pub returns : goal.returns
returns c =
    let s = c.in_ok-keys.field-0 in
    s.named ∙ sym (twice s.keys.items) ∙ ap (λ (bodies : List (List ℕ)). map print_of bodies) c.in_ok-keys.ensures
