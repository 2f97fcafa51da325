use Rattle.std.proofs.Common.{◌∙◌, ap, sym, List, ℕ, length}
use Rattle.std.specs.List.{flat_map}
use Rattle.opgp_keyring.specs.DetachedSignatures.{detached_packets}
use Rattle.opgp_keyring.specs.Signed.{signature_bodies}
use Rattle.opgp_tables.specs.DocumentJobs.{document_subs}
use Rattle.opgp_tables.specs.Sizes.{capped}
use Rattle.opgp_tables.proofs.Documents.{subs_many}
use Rattle.opgp_tables.proofs.document_subpackets.document_subpacket_sizes.Goals as goal

pub returns-clause-rows : goal.returns-clause-rows
returns-clause-rows c =
    c.sizes_of.ensures.rows ∙ ap (λ (l : List (List ℕ)). capped (length (flat_map document_subs l))) c.signatures.ensures
    ∙ ap (λ (n : ℕ). capped n) (sym (subs_many 0 0 (signature_bodies (detached_packets c.args.signatures.now))))
