use Rattle.std.proofs.Common.{◌≡◌, drop, length, arith, inl, inr}
use Rattle.std.proofs.lemmas.Bool.{cases_lt}
use Rattle.std.proofs.lemmas.List.{take_at, get_or_past}
use Rattle.base64.specs.Engines.{standard}
use Rattle.base64.proofs.Streams.{decoded_of-ok}
use Rattle.opgp_armor.proofs.Standard.{decoded_is}
use Rattle.opgp_armor.proofs.letters.decode_over.Goals as goal

pub returns-clause-ok : goal.returns-clause-ok
returns-clause-ok c =
    let o = c.decode_slice_unchecked.new.output in
    let len : length o ≡ c.resize.new.self.len = omega arith in
    rw (c.truncate.ensures.items, take_at o (drop (length o) c.resize.new.self.items) c.resize.new.self.len len) c.in_ok-count.ensures.ok.0

pub returns-clause-octets : goal.returns-clause-octets
returns-clause-octets c = λ i. elim (cases_lt i (length c.truncate.new.self.items)) [
  | inl within ↦ c.type_inv.octets i 0 within
  | inr past ↦ rw (get_or_past c.truncate.new.self.items i 0 past) (omega arith)
]

pub returns-clause-exact : goal.returns-clause-exact
returns-clause-exact c =
    decoded_is c.args.groups.now c.truncate.new.self.items (λ i. let octet = c.type_inv.groups i in omega arith)
    (decoded_of-ok standard c.args.groups.now c.truncate.new.self.items (returns-clause-ok c))
