use Rattle.opgp_keyring.specs.declared.header.Plain.TheVariants.{OldOne}
use Rattle.opgp_keyring.proofs.Packing.{behind_first}
use Rattle.opgp_keyring.proofs.members.Members.next.Goals as goal

pub invariant_of-self : goal.invariant_of-self
invariant_of-self c =
    let m = c.args.self.now in
    let f = behind_first m.bodies.now m.headers.now (record { len = 0; kind = 0; plain = OldOne }) c.in-len1-up.len_at_least m.whole m.parts in
    rw c.split_at.ensures.back (record { whole = f.1.0; parts = f.1.1 })

pub new-requires-clause-part : goal.new-requires-clause-part
new-requires-clause-part c =
    let m = c.args.self.now in
    rw c.split_at.ensures.front (behind_first m.bodies.now m.headers.now (record { len = 0; kind = 0; plain = OldOne }) c.in-len1-up.len_at_least m.whole m.parts).0
