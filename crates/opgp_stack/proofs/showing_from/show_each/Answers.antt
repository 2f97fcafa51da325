use Rattle.std.proofs.Common.{◌≡◌, ◌++◌, flat_map, ◌∷◌, [], ℕ, List, Err, Ok, true, false, ap, subst, sym, append-nil}
use Rattle.std.specs.Prelude.{MatchResult}
use Rattle.opgp_frame.specs.View.{viewed}
use Rattle.opgp_frame.specs.declared.packet.Placed.{Placed}
use Rattle.opgp_codec.specs.Draft.{DraftHas}
use Rattle.opgp_codec.specs.IncomingPackets.{PacketsCame}
use Rattle.opgp_codec.specs.Reading.{Outcome}
use Rattle.opgp_stack.specs.PacketText.{lines_of_packet}
use Rattle.opgp_stack.specs.Shown.{Shows}
use Rattle.opgp_stack.proofs.ReadFor.{unread}
use Rattle.opgp_stack.proofs.ShownTexts.{shown_push}
use Rattle.opgp_stack.proofs.showing_from.show_each.Goals as goal

pub packets-init : goal.packets-init
packets-init g c = (c.requires.sound, [], λ mode limits before h. h, λ h. h)

pub next-requires-clause-came : goal.next-requires-clause-came
next-requires-clause-came g c =
    let came = c.requires.came in
    (came.0, came.1, came.2, c.packets.invariant.1, c.packets.invariant.2 came.0 came.1 came.2 came.3)

pub returns-in_err-next : goal.returns-in_err-next
returns-in_err-next g c =
    let answer : Outcome Unit → Type 0 = λ answer. MatchResult answer (λ _. Shows (DraftHas g.S.Spool.serves g.S.Spool.tells g.S.Spool.holds g.S.Spool.has_failed) c.args.text g.R.Source.left g.R.Source.has_failed c.args.source.now c.next.new.source c.args.incoming.now c.next.new.self c.args.draft.now c.packets.draft) (λ _. ⊥) in
    unread answer (g.R.Source.has_failed c.next.new.source ≡ true) (g.R.Source.has_failed c.next.new.source ≡ false) c.from_residual.result c.in_err-next.field-0.0 c.from_residual.ensures
    (λ e. c.in_err-next.ensures.read (ap Err e)) (λ e. c.in_err-next.ensures.memory (ap Err e)) (λ fault e. c.in_err-next.ensures.other fault (ap Err e))

pub packets-preserved-in-Continue-branch-2 : goal.packets-preserved-in-Continue-branch-2
packets-preserved-in-Continue-branch-2 g c =
    let list = c.packets.invariant.1 in
    let s = c.in_ok-next.ensures.came in
    let lent = (rw c.if-branch.true at s.1).0 in
    let same : viewed c.in-Some.packet ∷ [] ≡ s.0 = rw c.in-Some.is at (c.packet.ensures s.0 lent) in
    let has : List ℕ → Type 0 = DraftHas g.S.Spool.serves g.S.Spool.tells g.S.Spool.holds g.S.Spool.has_failed c.add.new.draft in (
      c.in_ok-next.ensures.sound,
      list ++ s.0,
      λ mode limits before h. s.2 mode limits before list (c.packets.invariant.2 mode limits before h),
      λ h. subst (λ (ps : List Placed). has (flat_map (lines_of_packet c.args.text) (list ++ ps))) same (subst has (shown_push (lines_of_packet c.args.text) list (viewed c.in-Some.packet)) (c.in_ok-add.ensures (flat_map (lines_of_packet c.args.text) list) (c.packets.invariant.3 h))),
    )

pub packets-preserved : goal.packets-preserved
packets-preserved g c =
    let list = c.packets.invariant.1 in
    let s = c.in_ok-next.ensures.came in
    let lent = (rw c.if-branch.true at s.1).0 in
    let none : [] ≡ s.0 = rw c.in_default.is at (c.packet.ensures s.0 lent) in
    let has : List ℕ → Type 0 = DraftHas g.S.Spool.serves g.S.Spool.tells g.S.Spool.holds g.S.Spool.has_failed c.packets.draft in (
      c.in_ok-next.ensures.sound,
      list ++ s.0,
      λ mode limits before h. s.2 mode limits before list (c.packets.invariant.2 mode limits before h),
      λ h. subst (λ (ps : List Placed). has (flat_map (lines_of_packet c.args.text) (list ++ ps))) none (subst (λ (ps : List Placed). has (flat_map (lines_of_packet c.args.text) ps)) (sym (append-nil list)) (c.packets.invariant.3 h)),
    )

pub returns : goal.returns
returns g c =
    let list = c.packets.invariant.1 in
    let s = c.in_ok-next.ensures.came in
    record {
      packets = list;
      sound = c.in_ok-next.ensures.sound;
      came = λ mode limits before h. subst (PacketsCame mode limits before (g.R.Source.left c.next.new.source) c.next.new.self) (append-nil list) (subst (λ (ps : List Placed). PacketsCame mode limits before (g.R.Source.left c.next.new.source) c.next.new.self (list ++ ps)) (rw c.if-branch.false at s.1) (s.2 mode limits before list (c.packets.invariant.2 mode limits before h)));
      over = c.in_ok-next.ensures.over (ap Ok c.if-branch.false);
      added = c.packets.invariant.3;
    }
