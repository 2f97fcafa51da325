use Rattle.std.proofs.Common.{◌≡◌, false, take}
use Rattle.std.specs.List.{list_any}
use Rattle.std.specs.Str.{bytes_eq}
use Rattle.opgp.specs.Hash.Digest.{digest_octets}
use Rattle.opgp_examples.proofs.verifying.TableVerifier.verify.Given as goal

-- none of the digests so far is that of the job
abbrev pub invariant-loop-good : goal.invariant-loop-good
invariant-loop-good l =
    list_any (λ it. bytes_eq it.items (digest_octets l.job.digest)) (take l.good-index l.good-items) ≡ false
