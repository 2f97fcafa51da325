use Rattle.std.proofs.Common.{◌≡◌, ◌∙◌, ◌+◌, List, [], ◌++◌, Ok, arith, length, ap, sym, append-nil, zero-add}
use Rattle.std.specs.List.{flat_map}
use Rattle.opgp_report.specs.Standing.{Standing, standing_in}
use Rattle.opgp_keyring.specs.Keyring.{KeyringValue}
use Rattle.opgp_tables.specs.declared.subpacket_counter.SubpacketCounter.{SubpacketCounter}
use Rattle.opgp_tables.specs.Subpackets.{subpacket_octets, subs_of}
use Rattle.opgp_tables.specs.Sizes.{capped}
use Rattle.opgp_tables.proofs.Counting.{subpackets_many}
use Rattle.opgp_tables.proofs.subpacket_counter.subpacket_sizes.Goals as goal

-- the whole keyring is visited
pub returns-clause-rows : goal.returns-clause-rows
returns-clause-rows c =
    let new : SubpacketCounter = c.visit.new.visitor in
    let r : KeyringValue = c.args.keyring.now in
    let counted : (new.sizes.rows ≡ capped (0 + length (flat_map subs_of (standing_in r ++ [])))) × (new.sizes.bytes ≡ capped (0 + length (flat_map subpacket_octets (standing_in r ++ [])))) =
    c.in-Ok.ensures [] (Ok new) (omega (arith, c.counted.ensures.rows), omega (arith, c.counted.ensures.bytes)) in
    ap (λ s. s.rows) c.counted.ensures.same ∙ counted.0 ∙ ap (λ n. capped n) (zero-add (length (flat_map subs_of (standing_in r ++ []))) ∙ ap (λ (l : List Standing). length (flat_map subs_of l)) (append-nil (standing_in r)) ∙ sym (subpackets_many r))

pub returns-clause-bytes : goal.returns-clause-bytes
returns-clause-bytes c =
    let new : SubpacketCounter = c.visit.new.visitor in
    let r : KeyringValue = c.args.keyring.now in
    let counted : (new.sizes.rows ≡ capped (0 + length (flat_map subs_of (standing_in r ++ [])))) × (new.sizes.bytes ≡ capped (0 + length (flat_map subpacket_octets (standing_in r ++ [])))) =
    c.in-Ok.ensures [] (Ok new) (omega (arith, c.counted.ensures.rows), omega (arith, c.counted.ensures.bytes)) in
    ap (λ s. s.bytes) c.counted.ensures.same ∙ counted.1 ∙ ap (λ n. capped n) (zero-add (length (flat_map subpacket_octets (standing_in r ++ []))) ∙ ap (λ (l : List Standing). length (flat_map subpacket_octets l)) (append-nil (standing_in r)))
