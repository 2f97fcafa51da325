-- The verdicts of a table of digests.
use Rattle.std.specs.Prelude.{List, if◌then◌else◌, ℕ}
use Rattle.std.specs.List.{list_any}
use Rattle.std.specs.Str.{bytes_eq}
use Rattle.std.specs.Global.{Vec}
use Rattle.opgp.specs.Hash.Digest.{digest_octets}
use Rattle.opgp.specs.Report.RowValue.{JobValue}
use Rattle.opgp.specs.Report.declared.verifier.Verdict.{Verdict}
use Rattle.opgp.specs.Report.declared.verifier.Verdict.TheVariants.{Good, Undecided}

-- good if the digest is listed
abbrev pub says_listed : List (Vec ℕ) → JobValue → Verdict
says_listed good job =
    if list_any (λ it. bytes_eq it.items (digest_octets job.digest)) good then Good else Undecided
