use Rattle.std.proofs.Common.{◌∙◌, ◌++◌, ℕ, List, false, ap, sym, subst}
use Rattle.opgp_codec.specs.Draft.{DraftHas}
use Rattle.opgp_document.specs.Text.{ends_cr, to_text}
use Rattle.opgp_stack.proofs.CanonicalText.{none_stray, text_of_more, text_so_far}
use Rattle.std.proofs.lemmas.Result.{on_ok_weaker}
use Rattle.opgp_stack.proofs.canonical.TextDraft.add.Goals as goal

pub returns-in-Ok : goal.returns-in-Ok
returns-in-Ok g c =
    on_ok_weaker c.add.result (λ adds document h.
    let none = sym c.is_some.ensures ∙ c.if-is_some.false in
    let so_far = text_so_far (DraftHas g.S.Spool.serves g.S.Spool.tells g.S.Spool.holds g.S.Spool.has_failed) c.args.self.now c.args.self.now.stray document none h in
    let text = c.deref.ensures.value ∙ (rw c.in-Ok.is at c.in_ok-push.ensures.text) document so_far.0 ∙ ap (λ (l : List ℕ). l ++ to_text (ends_cr false document) c.args.piece.now) c.clear.ensures.items in
    none_stray (DraftHas g.S.Spool.serves g.S.Spool.tells g.S.Spool.holds g.S.Spool.has_failed) (record { canonical = c.push.new.self; piece = c.push.new.text; draft = c.add.new.self; stray = c.args.self.now.stray }) c.args.self.now.stray (document ++ c.args.piece.now) none
    ((rw c.in-Ok.is at c.in_ok-push.ensures.read) document so_far.0, subst ((DraftHas g.S.Spool.serves g.S.Spool.tells g.S.Spool.holds g.S.Spool.has_failed) c.add.new.self) (text_of_more document c.args.piece.now _ text) (adds (to_text false document) so_far.1))) c.add.ensures.text
