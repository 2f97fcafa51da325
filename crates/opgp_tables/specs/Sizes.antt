-- How large tables are, as numbers of 64 bits.
use Rattle.std.specs.Prelude.{◌≡◌, ℕ, ◌+◌, ⊤, List, length, min, Result, Ok, Err}
use Rattle.std.specs.List.{flat_map}
use Rattle.opgp_report.specs.Standing.{Standing}
use Rattle.opgp_tables.specs.declared.job_counter.JobCounter.{JobCounter}
use Rattle.opgp_tables.specs.declared.subpacket_counter.SubpacketCounter.{SubpacketCounter}
use Rattle.opgp_tables.specs.Jobs.{job_octets}
use Rattle.opgp_tables.specs.Subpackets.{subpacket_octets, subs_of}

-- a number, or the largest of 64 bits, which stands for that many and more
abbrev pub capped : ℕ → ℕ
capped n = min n 18446744073709551615

-- the signatures that are visited are counted, and the octets that their rows point into
abbrev pub CountsJobs : {E : Type 0} → JobCounter → List Standing → Result JobCounter E → Type 0
CountsJobs t list (Ok u) =
    (u.sizes.rows ≡ capped (t.sizes.rows + length list))
    × (u.sizes.bytes ≡ capped (t.sizes.bytes + length (flat_map job_octets list)))
CountsJobs t list (Err refusal) = ⊤

-- and the same of their subpackets
abbrev pub CountsSubpackets : {E : Type 0} → SubpacketCounter → List Standing
    → Result SubpacketCounter E → Type 0
CountsSubpackets t list (Ok u) =
    (u.sizes.rows ≡ capped (t.sizes.rows + length (flat_map subs_of list)))
    × (u.sizes.bytes ≡ capped (t.sizes.bytes + length (flat_map subpacket_octets list)))
CountsSubpackets t list (Err refusal) = ⊤
