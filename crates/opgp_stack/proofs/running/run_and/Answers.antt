use Rattle.std.proofs.Common.{◌≡◌, Err, Ok, inl, inr, refl, rules, subst, sym}
use Rattle.opgp_codec.specs.Draft.{DraftHas}
use Rattle.opgp_stack.specs.Making.{IsMadeOf, ring_made}
use Rattle.opgp_stack.specs.Running.{IsMade, MakesBy, Refused, RunsOf, Text}
use Rattle.opgp_stack.specs.declared.task.Action.{Action}
use Rattle.opgp_stack.specs.declared.task.Action.TheVariants as action
use Rattle.opgp_stack.specs.declared.task.Top.TheVariants as top
use Rattle.opgp_stack.specs.Showing.{lines_of, packet_lines}
use Rattle.opgp_stack.specs.Shown.{IsShownOf}
use Rattle.opgp_stack.specs.Values.{valued_lines}
use Rattle.opgp_stack.specs.declared.packet_text.PacketText.TheVariants.{Plain, Valued}
use Rattle.opgp_stack.proofs.RingMade.{makes_ring}
use Rattle.opgp_stack.proofs.Runs.{ran, spooled, stopped}
use Rattle.opgp_stack.proofs.running.run_and.Goals as goal

pub returns-in_err-text-in-Show : goal.returns-in_err-text-in-Show
returns-in_err-text-in-Show g c =
    stopped c.args.task.now (IsShownOf (DraftHas g.S.Spool.serves g.S.Spool.tells g.S.Spool.holds g.S.Spool.has_failed) Plain c.args.task.now) _ c.in-Show.is (λ fault. inl (refl, refl)) _ _ (λ octets fault h. (Err fault, h, refl)) c.in_err-text-in-Show.ensures c.from_residual.ensures

pub returns-in_ok-text-in-Show : goal.returns-in_ok-text-in-Show
returns-in_ok-text-in-Show g c =
    ran c.args.task.now (IsShownOf (DraftHas g.S.Spool.serves g.S.Spool.tells g.S.Spool.holds g.S.Spool.has_failed) Plain c.args.task.now) _ c.in-Show.is (λ fault. inl (refl, refl)) _ _ _ c.in_ok-text-in-Show.text
    (λ octets h. (Text (lines_of packet_lines h.0), (Ok h.0, h.1, refl), inr (c.write_draft.ensures _ h.2))) c.in_ok-text-in-Show.ensures refl

pub returns-in_err-text-in-ShowValues : goal.returns-in_err-text-in-ShowValues
returns-in_err-text-in-ShowValues g c =
    stopped c.args.task.now (IsShownOf (DraftHas g.S.Spool.serves g.S.Spool.tells g.S.Spool.holds g.S.Spool.has_failed) Valued c.args.task.now) _ c.in-ShowValues.is (λ fault. inl (refl, refl)) _ _ (λ octets fault h. (Err fault, h, refl)) c.in_err-text-in-ShowValues.ensures
    c.from_residual-in_err-text-in-ShowValues.ensures

pub returns-in_ok-text-in-ShowValues : goal.returns-in_ok-text-in-ShowValues
returns-in_ok-text-in-ShowValues g c =
    ran c.args.task.now (IsShownOf (DraftHas g.S.Spool.serves g.S.Spool.tells g.S.Spool.holds g.S.Spool.has_failed) Valued c.args.task.now) _ c.in-ShowValues.is (λ fault. inl (refl, refl)) _ _ _ c.in_ok-text-in-ShowValues.text
    (λ octets h. (Text (lines_of valued_lines h.0), (Ok h.0, h.1, refl), inr (c.write_draft-in-ShowValues.ensures _ h.2))) c.in_ok-text-in-ShowValues.ensures refl

pub returns-in-Octets-default-Literal : goal.returns-in-Octets-default-Literal
returns-in-Octets-default-Literal g c =
    let is : c.args.task.now.action ≡ action.Octets c.in-Octets-default-Literal.row top.Literal = search rules in
    spooled g.W.Sink.held g.W.Sink.has_failed c.args.task.now g.S.Spool.serves g.S.Spool.tells
    (subst (λ (a : Action). RunsOf g.R.Source.left g.R.Source.has_failed (IsMade g.W.Sink.held g.W.Sink.has_failed) c.args.task.now.limits (MakesBy a c.args.task.now) c.args.reader.now c.write_message_octets.new.reader c.args.writer.now c.write_message_octets.new.writer c.write_message_octets.result) (sym is) c.write_message_octets.ensures)

pub returns-in-Explain-default-Literal : goal.returns-in-Explain-default-Literal
returns-in-Explain-default-Literal g c =
    let is : c.args.task.now.action ≡ action.Explain c.in-Explain-default-Literal.row top.Literal = search rules in
    spooled g.W.Sink.held g.W.Sink.has_failed c.args.task.now g.S.Spool.serves g.S.Spool.tells
    (subst (λ (a : Action). RunsOf g.R.Source.left g.R.Source.has_failed (IsMade g.W.Sink.held g.W.Sink.has_failed) c.args.task.now.limits (MakesBy a c.args.task.now) c.args.reader.now c.write_message_octets-in-Explain-default-Literal.new.reader c.args.writer.now c.write_message_octets-in-Explain-default-Literal.new.writer c.write_message_octets-in-Explain-default-Literal.result) (sym is) c.write_message_octets-in-Explain-default-Literal.ensures)

pub returns-in_err-made-in_default : goal.returns-in_err-made-in_default
returns-in_err-made-in_default g c =
    stopped c.args.task.now (IsMadeOf (DraftHas g.S.Spool.serves g.S.Spool.tells g.S.Spool.holds g.S.Spool.has_failed) c.args.task.now) c.args.task.now.action refl (λ fault. inl (refl, refl)) _ _ (λ octets fault h. makes_ring c.args.task.now.action (search rules) c.args.task.now octets (Refused fault) (Err fault, h, refl)) c.in_err-made-in_default.ensures
    c.from_residual-in_err-made-in_default.ensures

pub returns-in_ok-made-in_default : goal.returns-in_ok-made-in_default
returns-in_ok-made-in_default g c =
    ran c.args.task.now (IsMadeOf (DraftHas g.S.Spool.serves g.S.Spool.tells g.S.Spool.holds g.S.Spool.has_failed) c.args.task.now) c.args.task.now.action refl (λ fault. inl (refl, refl)) _ _ _ c.in_ok-made-in_default.made
    (λ octets h. (ring_made c.args.task.now.action h.0, makes_ring c.args.task.now.action (search rules) c.args.task.now octets (ring_made c.args.task.now.action h.0) (Ok h.0, h.1, refl), c.write.ensures h.0 h.2)) c.in_ok-made-in_default.ensures refl
