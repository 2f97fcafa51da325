use Rattle.std.proofs.Common.{length, refl}
use Rattle.std.proofs.lemmas.Option.{slice_get_read}
use Rattle.opgp_state.proofs.Placements.{head_of}
use Rattle.opgp_state.proofs.place_maker.PlaceMaker.head.Goals as goal

pub returns-in-Some-get : goal.returns-in-Some-get
returns-in-Some-get c d heads =
    let l = c.in-Some-get.ensures.lookup in
    let at = slice_get_read c.deref.result.now (length c.deref.result.now) c.in-Some.number c.in-Some-get.head.now refl l.3.0 l.1 in
    rw c.in-Some.is (head_of c.args.self.now.first d c.args.self.now.heads.items c.in-Some.number c.in-Some-get.head.now heads (rw c.deref.ensures.value at at))
