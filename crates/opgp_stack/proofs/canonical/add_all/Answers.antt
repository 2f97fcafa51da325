use Rattle.std.proofs.Common.{◌≡◌, ◌++◌, [], List, ℕ, true, false, Err, Ok, ap, refl, arith, length-append}
use Rattle.opgp_codec.specs.Draft.{DraftHas}
use Rattle.opgp_codec.specs.IncomingOctets.{piece_of}
use Rattle.opgp_codec.specs.Pulled.{OfAll}
use Rattle.opgp_stack.specs.Canonical.{IsHeldOf}
use Rattle.opgp_stack.proofs.DocumentLines.{came_no_more, ended_all}
use Rattle.opgp_stack.proofs.ReadFor.{unread}
use Rattle.opgp_stack.proofs.canonical.add_all.Goals as goal

pub pieces-init : goal.pieces-init
pieces-init g c = record { sound = c.requires.sound; octets = []; came = c.in_ok-incoming.ensures _; held = c.requires.empty }

pub pieces-preserved : goal.pieces-preserved
pieces-preserved g c = record {
  sound = c.in_ok-next.ensures.sound;
  octets = c.pieces.invariant.octets ++ piece_of c.next.new.self;
  came = c.in_ok-next.ensures.came _ _ _ c.pieces.invariant.came;
  held = rw c.piece.ensures at (c.in_ok-add.ensures c.pieces.invariant.octets c.pieces.invariant.held);
}

pub returns-in_err-next : goal.returns-in_err-next
returns-in_err-next g c =
    unread (λ answer. OfAll g.R.Source.left g.R.Source.has_failed c.args.source.now c.next.new.source c.args.limits.now (λ octets. IsHeldOf (DraftHas g.S.Spool.serves g.S.Spool.tells g.S.Spool.holds g.S.Spool.has_failed) c.args.limits.now c.pieces.text octets answer)) (g.R.Source.has_failed c.next.new.source ≡ true) (g.R.Source.has_failed c.next.new.source ≡ false) c.from_residual-in_err-next.result c.in_err-next.field-0.0 c.from_residual-in_err-next.ensures
    (λ e. (c.in_err-next.ensures.read _ refl).1) (λ e. absurd (cc ((c.in_err-next.ensures.read _ refl).0, e))) (λ fault e. cc ((c.in_err-next.ensures.read _ refl).0, e))

pub returns-in-Ok : goal.returns-in-Ok
returns-in-Ok g c =
    let octets : List ℕ = c.pieces.invariant.octets in
    let came = came_no_more _ _ _ c.next.new.self octets (c.in_ok-next.ensures.none (ap Ok c.if-branch.false)) (c.in_ok-next.ensures.came _ _ _ c.pieces.invariant.came) in
    let end = c.finish.ensures _ _ _ octets came (c.in_ok-next.ensures.ended (ap Ok c.if-branch.false)) in
    let within = rw c.in-Ok.is at end.1 in
    ended_all g.R.Source.left g.R.Source.has_failed c.args.source.now c.next.new.source c.args.limits.now octets (λ octets. IsHeldOf (DraftHas g.S.Spool.serves g.S.Spool.tells g.S.Spool.holds g.S.Spool.has_failed) c.args.limits.now c.pieces.text octets (Ok tt)) c.in_ok-next.ensures.sound end.0
    (within, c.pieces.invariant.held, omega (arith, c.next.new.self.small, came.limit)) (λ past more. absurd (omega (arith, past, within)))

pub returns-in-Err : goal.returns-in-Err
returns-in-Err g c =
    let octets : List ℕ = c.pieces.invariant.octets in
    let came = came_no_more _ _ _ c.next.new.self octets (c.in_ok-next.ensures.none (ap Ok c.if-branch.false)) (c.in_ok-next.ensures.came _ _ _ c.pieces.invariant.came) in
    let end = c.finish.ensures _ _ _ octets came (c.in_ok-next.ensures.ended (ap Ok c.if-branch.false)) in
    let past = rw c.in-Err.is at end.1 in
    ended_all g.R.Source.left g.R.Source.has_failed c.args.source.now c.next.new.source c.args.limits.now octets (λ octets. IsHeldOf (DraftHas g.S.Spool.serves g.S.Spool.tells g.S.Spool.holds g.S.Spool.has_failed) c.args.limits.now c.pieces.text octets (Err c.in-Err.fault)) c.in_ok-next.ensures.sound end.0
    (past.1, past.0) (λ over more. (omega (arith, past.1, length-append octets more), past.0))
