use Rattle.std.proofs.Common.{◌≡◌, ◌+◌, ℕ, List, Option, length, take, refl, sym, ap, subst, inl, arith, length-take-le}
use Rattle.std.proofs.lemmas.Bool.{eqb-true}
use Rattle.std.specs.Io.KnownBytes.{Consumes}
use Rattle.opgp_codec.proofs.Coming.{came_more, fresh_waits, none_waits}
use Rattle.opgp_codec.proofs.incoming.Incoming.pull.Goals as goal

pub returns-clause-came : goal.returns-clause-came
returns-clause-came g c accepts mode limits before items came =
    let a = c.args.self.now in
    let piece : List ℕ = take c.in-Ok.n c.pull_some.new.buf in
    let size : length piece ≡ c.in-Ok.n = length-take-le c.in-Ok.n c.pull_some.new.buf c.in-Ok.ensures.bound.0 in
    let full : length c.pull_some.new.buf ≡ a.piece.len = omega (arith, a.piece.ok.0) in
    came_more a _ piece before (g.R.Source.left c.args.source.now) (g.R.Source.left c.pull_some.new.reader) accepts mode limits items (none_waits a.piece.items a.at a.filled c.requires.through.all) (fresh_waits a.piece c.pull_some.new.buf c.in-Ok.n full) refl refl (ap (λ (k : ℕ). a.count + k) (sym size)) (omega (arith, c.in-Ok.ensures.bound.1)) c.in-Ok.ensures.each (subst (λ (o : Option (List ℕ)). Consumes o (g.R.Source.left c.pull_some.new.reader) piece) c.note.ensures.left c.in-Ok.ensures.taken)
    (λ h. let none : c.in-Ok.n ≡ 0 = eqb-true c.in-Ok.n 0 h in inl (omega (arith, none), c.in-Ok.ensures.end none)) came
