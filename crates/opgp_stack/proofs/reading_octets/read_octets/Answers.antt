use Rattle.std.proofs.Common.{◌∙◌, ◌++◌, List, ℕ, ap, arith, length-append, refl, subst, sym, Err, Ok}
use Rattle.opgp_codec.specs.IncomingOctets.{OctetsCame}
use Rattle.opgp_stack.specs.Octets.{AreOctets}
use Rattle.opgp_stack.proofs.DocumentLines.{came_no_more, ended_all}
use Rattle.opgp_stack.proofs.reading_octets.read_octets.Goals as goal

pub pieces-init : goal.pieces-init
pieces-init g c = record {
  sound = c.requires;
  came = subst (λ (l : List ℕ). OctetsCame c.args.limits.now (g.R.Source.left c.args.source.now) (g.R.Source.left c.args.source.now) c.in_ok-incoming.incoming l) (sym c.new-octets.ensures.items) (c.in_ok-incoming.ensures _);
}

pub pieces-preserved : goal.pieces-preserved
pieces-preserved g c = record {
  sound = c.in_ok-next.ensures.sound;
  came = subst (λ (l : List ℕ). OctetsCame c.args.limits.now (g.R.Source.left c.args.source.now) (g.R.Source.left c.next.new.source) c.next.new.self l) (sym (c.in_ok-extend_from_slice.ensures.items ∙ ap (λ (p : List ℕ). c.pieces.octets.items ++ p) c.piece.ensures)) (c.in_ok-next.ensures.came _ _ _ c.pieces.invariant.came);
}

pub returns-in-Ok : goal.returns-in-Ok
returns-in-Ok g c =
    let octets : List ℕ = c.pieces.octets.items in
    let came = came_no_more _ _ _ c.next.new.self octets (c.in_ok-next.ensures.none (ap Ok c.if-branch.false)) (c.in_ok-next.ensures.came _ _ _ c.pieces.invariant.came) in
    let end = c.finish.ensures _ _ _ octets came (c.in_ok-next.ensures.ended (ap Ok c.if-branch.false)) in
    let within = rw c.in-Ok.is at end.1 in
    ended_all g.R.Source.left g.R.Source.has_failed c.args.source.now c.next.new.source c.args.limits.now octets (λ octets. AreOctets c.args.limits.now octets (Ok c.pieces.octets)) c.in_ok-next.ensures.sound end.0
    (within, refl) (λ past more. absurd (omega (arith, past, within)))

pub returns-in-Err : goal.returns-in-Err
returns-in-Err g c =
    let octets : List ℕ = c.pieces.octets.items in
    let came = came_no_more _ _ _ c.next.new.self octets (c.in_ok-next.ensures.none (ap Ok c.if-branch.false)) (c.in_ok-next.ensures.came _ _ _ c.pieces.invariant.came) in
    let end = c.finish.ensures _ _ _ octets came (c.in_ok-next.ensures.ended (ap Ok c.if-branch.false)) in
    let past = rw c.in-Err.is at end.1 in
    ended_all g.R.Source.left g.R.Source.has_failed c.args.source.now c.next.new.source c.args.limits.now octets (λ octets. AreOctets c.args.limits.now octets (Err c.in-Err.fault)) c.in_ok-next.ensures.sound end.0
    (past.1, past.0) (λ over more. (omega (arith, past.1, length-append octets more), past.0))
