-- How many rows the tables have, and how many octets parts have together.
use Rattle.std.proofs.Common.{◌≡◌, ◌∙◌, ℕ, ◌+◌, ◌<◌, ◌≤◌, List, [], ◌∷◌, length, map, sym, ap, arith, length-append}
use Rattle.std.specs.List.{flat_map}
use Rattle.std.proofs.lemmas.List.{length-map}
use Rattle.opgp_report.specs.Report.{keys_in}
use Rattle.opgp_report.specs.Standing.{standing_in}
use Rattle.opgp_keyring.specs.Keyring.{KeyringValue, flat}
use Rattle.opgp_tables.specs.Jobs.{job_bytes, job_parts, job_rows, sizes_in}
use Rattle.opgp_tables.specs.Keys.{key_rows}
use Rattle.opgp_tables.specs.Packets.{packet_bytes, packet_rows, packet_shown, row_shown}
use Rattle.opgp_tables.specs.Parts.{cuts}
use Rattle.opgp_tables.specs.Room.{padded}
use Rattle.opgp_tables.specs.Sizes.{capped}
use Rattle.opgp_tables.specs.Subpackets.{sub_shown, subpacket_bytes, subpacket_rows, subpacket_shown, subs_of}
use Rattle.opgp_hash.specs.Fingerprint.{print_octets}
use Rattle.opgp_report.specs.First.{print_of}
use Rattle.opgp_tables.proofs.Holding.{data_lies}
use Rattle.opgp_tables.proofs.Naming.{rows_are_keys}
use Rattle.opgp_tables.proofs.Pointing.{packets_lie}
use Rattle.opgp_tables.proofs.Working.{made_lies}

-- lists that show the same are of one length
same_length : {A B C : Type 0} (f : A → C) (g : B → C) (xs : List A) (ys : List B) → map f xs ≡ map g ys → length xs ≡ length ys
same_length {A} {B} {C} f g xs ys e = sym (length-map xs f) ∙ ap (λ (l : List C). length l) e ∙ length-map ys g

pub packets_many : (r : KeyringValue) → length (packet_rows r) ≡ length (flat r)
packets_many r = same_length (row_shown (packet_bytes r)) packet_shown (packet_rows r) (flat r) (packets_lie r)

pub keys_many : (r : KeyringValue) → length (key_rows r) ≡ length (keys_in r)
keys_many r = same_length (λ row. row.print) (λ (body : List ℕ). padded 32 (print_octets (print_of body))) (key_rows r) (keys_in r) (rows_are_keys r)

pub jobs_many : (r : KeyringValue) → length (job_rows r) ≡ length (standing_in r)
jobs_many r = same_length (λ row. cuts (job_bytes r) row.at (sizes_in row)) job_parts (job_rows r) (standing_in r) (made_lies r)

pub subpackets_many : (r : KeyringValue) → length (subpacket_rows r) ≡ length (flat_map subs_of (standing_in r))
subpackets_many r = same_length (subpacket_shown (subpacket_bytes r)) sub_shown (subpacket_rows r) (flat_map subs_of (standing_in r)) (data_lies r)

-- ---- sums that stop at the largest number
pub capped_twice : (a b : ℕ) → capped (capped a + b) ≡ capped (a + b)
capped_twice a b = omega arith

pub three_parts : (a b c : List ℕ) → length (flat_map (λ (o : List ℕ). o) (a ∷ b ∷ c ∷ [])) ≡ length a + length b + length c
three_parts a b c = grind (arith, length-append)

pub four_parts : (a b c d : List ℕ) → length (flat_map (λ (o : List ℕ). o) (a ∷ b ∷ c ∷ d ∷ [])) ≡ length a + length b + length c + length d
four_parts a b c d = grind (arith, length-append)

-- where nothing is to come, those so far are all
pub at_end : {A B : Type 0} (f : A → List B) (rest : List A) (n m : ℕ) → length rest < 1 → n ≤ 18446744073709551615 → capped (n + length (flat_map f rest)) ≡ capped m → n ≡ capped m
at_end f [] n m short most e = omega arith
at_end f (x ∷ rest) n m short most e = omega arith
